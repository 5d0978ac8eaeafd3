-- From the tokens of a text to the answer of the parser.
use Rattle.std.proofs.Common.{◌≡◌, ℕ, ◌-◌, ◌<◌, ◌≤◌, ◌⊎◌, inl, inr, List, [], ◌∷◌, ◌++◌, length, drop, refl, sym, ap, ◌∙◌, subst, arith, Result, Ok, Err, IfOk, IfErr, MatchResult, length-append, Bool, true, false, nat_lt}
use Rattle.ioa_value.specs.declared.limits.TheConstants.{LIMITS}
use Rattle.std.proofs.lemmas.Bool.Decides.{nat_tests}
use Rattle.std.proofs.lemmas.List.{drop-map, length-map}
use Rattle.std.proofs.Math.Path.{fun_ext}
use Rattle.std.proofs.Math.Seq.{drop-append_seam}
use Rattle.ioa_lex.specs.declared.refusal.Refusal.{Refusal}
use Rattle.ioa_lex.specs.declared.refusal.Refusal.TheVariants as refusals
use Rattle.ioa_lex.specs.declared.token.Token.{Token}
use Rattle.ioa_lex.specs.Tokens as tokens
use Rattle.ioa_lex.specs.Tokens.{Tok, terminal, tokens_shown, kind_shown}
use Rattle.ioa_lex.specs.Spaced.{IsToken}
use Rattle.ioa_lex.specs.Lexing.{Lexes, Covers, Piece, blank, comment, token, Writes, placed, tokens_after, line_after}
use Rattle.ioa_tree.specs.declared.tree.Declaration.{Declaration}
use Rattle.ioa_tree.specs.Tree.{SourceTree}
use Rattle.ioa_tree.specs.Depth.{source_deep}
use Rattle.ioa_tree.specs.View.{tree_of}
use Rattle.ioa_grammar.specs.Grammar.{SpellsSource, IsDeadEnd}
use Rattle.ioa_syntax.specs.Source.{AreTokens, IsSource, plain, line_left, line_of, BeginsTooDeep, IsRefused}
use Rattle.ioa_grammar.specs.Reading as reading
use Rattle.ioa_grammar.specs.Reading.{source, line_at, ReturnsSource, Refuses}
use Rattle.ioa_declarations.proofs.Whole as whole
use Rattle.ioa_declarations.proofs.Whole.{source_found, source_only, source_stuck, source_deeper, source_refuses}

-- ---- tokens with and without their lines

plain-placed : (ts : List Token) → plain (placed ts) ≡ tokens_shown ts
plain-placed [] = refl
plain-placed (t ∷ ts) = ap (λ r. kind_shown t.kind ∷ r) (plain-placed ts)

pub record Split (ts : List Token) (front rest : List Tok) : Type 0 where
  pub before : List Token
  pub after : List Token
  pub apart : ts ≡ before ++ after
  pub first : tokens_shown before ≡ front
  pub second : tokens_shown after ≡ rest

split : (ts : List Token) (front rest : List Tok) → tokens_shown ts ≡ front ++ rest → Split ts front rest
split ts [] rest h = record { before = []; after = ts; apart = refl; first = refl; second = h }
split [] (x ∷ front) rest h = absurd (cc (h))
split (t ∷ ts) (x ∷ front) rest h =
    let here : kind_shown t.kind ≡ x = cc in
    let there : tokens_shown ts ≡ front ++ rest = cc in
    let m = split ts front rest there in
    record { before = t ∷ m.before; after = m.after; apart = ap (λ r. t ∷ r) m.apart; first = ap (λ y. y ∷ tokens_shown m.before) here ∙ ap (λ r. x ∷ r) m.first; second = m.second }

placed-append : (a b : List Token) → placed (a ++ b) ≡ placed a ++ placed b
placed-append [] b = refl
placed-append (t ∷ a) b = ap (λ r. (kind_shown t.kind, t.line) ∷ r) (placed-append a b)

line_head : (text : List ℕ) (ts : List Token) → reading.line_of (line_after text) ts ≡ line_of text (placed ts)
line_head text [] = refl
line_head text (t ∷ ts) = refl

line_split : (text : List ℕ) (end : ℕ) (ts a b : List Token) (rest : List Tok) → end ≡ line_after text → ts ≡ a ++ b → tokens_shown b ≡ rest → line_at ts end (length rest) ≡ line_of text (placed b)
line_split text end ts a b rest is apart second =
    let size : length rest ≡ length b = sym (ap length second) ∙ length-map b (λ t. kind_shown t.kind) in
    let gap : length (a ++ b) - length rest ≡ length a = omega (arith, length-append a b) in
    ap (λ ts. line_at ts end (length rest)) apart ∙ ap (λ n. reading.line_of end (drop n (a ++ b))) gap ∙ ap (reading.line_of end) (drop-append_seam a b) ∙ ap (λ e. reading.line_of e b) is ∙ line_head text b

-- each line is that of the text's tokens
lines_left : (text : List ℕ) (ts : List Token) (end left : ℕ) → end ≡ line_after text → line_at ts end left ≡ line_left text (placed ts) left
lines_left text ts end left is =
    let many : length (placed ts) ≡ length ts = length-map {B = Tok × ℕ} ts (λ t. (kind_shown t.kind, t.line)) in
    let more : drop (length ts - left) (placed ts) ≡ placed (drop (length ts - left) ts) = drop-map (λ (t : Token). (kind_shown t.kind, t.line)) (length ts - left) ts in
    ap (λ e. line_at ts e left) is ∙ line_head text (drop (length ts - left) ts) ∙ sym (ap (line_of text) more) ∙ sym (ap (λ n. line_of text (drop (n - left) (placed ts))) many)

-- the tokens of a text are tokens that a text can hold
written : (w : List ℕ) (t : Tok) → Writes w t → IsToken t
written w (tokens.number n) h = h.2
written w (tokens.name s) h = subst IsToken-name (sym h.0) h.1
  where
    IsToken-name : List ℕ → Type 0
    IsToken-name s = IsToken (tokens.name s)
written w (terminal t) h = tt

covered : (before : List ℕ) (ps : List Piece) (text rest : List ℕ) → Covers ps text rest → AreTokens (plain (tokens_after before ps))
covered before [] text rest h = tt
covered before (blank b ∷ ps) text rest h = covered (before ++ b ∷ []) ps h.0 rest h.3
covered before (comment c ∷ ps) text rest h = covered (before ++ 37 ∷ c) ps h.0 rest h.3
covered before (token w t ∷ ps) text rest h = (written w t h.2.0, covered (before ++ w) ps h.0 rest h.3)

pub lexed_tokens : (text : List ℕ) (ts : List Token) → Lexes text (placed ts) → AreTokens (tokens_shown ts)
lexed_tokens text ts h = subst AreTokens (sym (ap plain h.2) ∙ plain-placed ts) (covered [] h.0 text [] h.1)

-- ---- the answer

-- a text that was not refused as too long is not
pub short_of : {T E : Type 0} (v : T) (e : E) (n : ℕ) → (LIMITS.text < n → ◌≡◌ {A = Result T E} (Ok v) (Err e)) → n ≤ LIMITS.text
short_of {T} {E} v e n h = by (nat_lt LIMITS.text n) refl
  where
    by : (b : Bool) → nat_lt LIMITS.text n ≡ b → n ≤ LIMITS.text
    by true far = let long : LIMITS.text < n = grind (arith, nat_tests) in let never = h long in absurd (cc)
    by false near = grind (arith, nat_tests)

pub source_kept : (ts : List Token) (end : ℕ) (ds : List Declaration) → AreTokens (tokens_shown ts) → source LIMITS.depth (line_at ts end) (tokens_shown ts) ≡ Ok (tree_of ds) → IsSource (tree_of ds)
source_kept ts end ds legal h = let f = source_found LIMITS.depth (line_at ts end) (tokens_shown ts) (tree_of ds) h in ((tokens_shown ts, legal, f.0), f.1)

refused_by : (e : Refusal) (read : Result SourceTree Refusal) → Refuses e read → (e ≡ refusals.OutOfMemory) ⊎ (read ≡ Err e)
refused_by refusals.OutOfMemory read h = inl refl
refused_by refusals.TextTooLong read h = inr h
refused_by (refusals.BadByte line) read h = inr h
refused_by (refusals.Syntax line) read h = inr h
refused_by (refusals.TooDeep line) read h = inr h
refused_by (refusals.DuplicateName line) read h = inr h
refused_by (refusals.UnknownName line) read h = inr h
refused_by (refusals.TypeMismatch line) read h = inr h
refused_by (refusals.BadSignature line) read h = inr h
refused_by (refusals.NoProposal line) read h = inr h
refused_by (refusals.TooMany line) read h = inr h
refused_by (refusals.TooWide line) read h = inr h
refused_by (refusals.ArgMismatch c) read h = inr h
refused_by (refusals.CrashName c) read h = inr h
refused_by (refusals.Clash c d name) read h = inr h
refused_by (refusals.HiddenUnknown name) read h = inr h
refused_by (refusals.StartFault c f) read h = inr h
refused_by refusals.NoComposition read h = inr h

module _ (text : List ℕ) (ts : List Token) (end : ℕ) (lexed : Lexes text (placed ts)) (last : end ≡ line_after text) (small : length text ≤ LIMITS.text) where
  abbrev read : Result SourceTree Refusal
  read = source LIMITS.depth (line_at ts end) (tokens_shown ts)

  pub parsed_found : (result : Result (List Declaration) Refusal) → ReturnsSource tree_of result read → IfOk result (λ s. (us : List (Tok × ℕ)) × Lexes text us × SpellsSource (tree_of s) (plain us))
  parsed_found (Ok s) h = (placed ts, lexed, subst (SpellsSource (tree_of s)) (sym (plain-placed ts)) (source_found LIMITS.depth (line_at ts end) (tokens_shown ts) (tree_of s) h).0)
  parsed_found (Err e) h = tt

  -- whatever comes of the tokens is the answer
  pub parsed_as_read : (result : Result (List Declaration) Refusal) → ReturnsSource tree_of result read → (us : List (Tok × ℕ)) → placed ts ≡ us
      → ReturnsSource tree_of result (source LIMITS.depth (line_left text us) (plain us))
  parsed_as_read result h us same =
      let lines : line_at ts end ≡ line_left text (placed ts) = fun_ext (λ left. lines_left text ts end left last) in
      let as_placed : read ≡ source LIMITS.depth (line_left text (placed ts)) (plain (placed ts)) =
      ap (λ l. source LIMITS.depth l (tokens_shown ts)) lines ∙ ap (source LIMITS.depth (line_left text (placed ts))) (sym (plain-placed ts)) in
      subst (λ (vs : List (Tok × ℕ)). ReturnsSource tree_of result (source LIMITS.depth (line_left text vs) (plain vs))) same (subst (ReturnsSource tree_of result) as_placed h)

  parsed_stuck : (line : ℕ) → read ≡ Err (refusals.Syntax line) → IsRefused text (refusals.Syntax line)
  parsed_stuck line h =
      let s = source_stuck LIMITS.depth (line_at ts end) (tokens_shown ts) line h in
      let m = split ts s.front s.rest s.apart in
      let here : Lexes text (placed m.before ++ placed m.after) = subst (Lexes text) (ap placed m.apart ∙ placed-append m.before m.after) lexed in
      let on : line ≡ line_of text (placed m.after) = s.on ∙ line_split text end ts m.before m.after s.rest last m.apart m.second in
      let front : s.front ≡ plain (placed m.before) = sym m.first ∙ sym (plain-placed m.before) in
      let rest : s.rest ≡ plain (placed m.after) = sym m.second ∙ sym (plain-placed m.after) in
      (small, (placed m.before, placed m.after, here, on, subst (IsDeadEnd (plain (placed m.before))) rest (subst (λ z. IsDeadEnd z s.rest) front s.dead)))

  parsed_deep : (line : ℕ) → read ≡ Err (refusals.TooDeep line) → IsRefused text (refusals.TooDeep line)
  parsed_deep line h =
      let s = source_deeper LIMITS.depth (line_at ts end) (tokens_shown ts) line h in
      let many : LIMITS.depth < length (placed ts) = omega (arith, s.0, length-map ts (λ t. kind_shown t.kind), length-map {B = Tok × ℕ} ts (λ t. (kind_shown t.kind, t.line))) in
      (small, (placed ts, lexed, many, λ t spelled. by t (s.1 t (subst (SpellsSource t) (plain-placed ts) spelled))))
    where
      by : (t : SourceTree) → whole.Deep LIMITS.depth (line_at ts end) (tokens_shown ts) t line → BeginsTooDeep text (placed ts) t line
      by t d =
          let m = split ts d.front d.rest d.apart in
          record {
            before = d.before;
            too_deep = d.too_deep;
            after = d.after;
            front = placed m.before;
            rest = placed m.after;
            is = d.made;
            apart = ap placed m.apart ∙ placed-append m.before m.after;
            spells = subst (SpellsSource d.before) (sym m.first ∙ sym (plain-placed m.before)) d.spells;
            goes_on = subst (SpellsSource (d.too_deep ∷ d.after)) (sym m.second ∙ sym (plain-placed m.after)) d.goes_on;
            within = d.within;
            beyond = d.beyond;
            on = d.on ∙ line_split text end ts m.before m.after d.rest last m.apart m.second;
          }

  parsed_err : (e : Refusal) → (e ≡ refusals.OutOfMemory) ⊎ (read ≡ Err e) → IsRefused text e
  parsed_err e (inl is) = subst (IsRefused text) (sym is) small
  parsed_err e (inr h) =
      elim (source_refuses LIMITS.depth (line_at ts end) (tokens_shown ts) e h) [
        | inl s ↦ subst (IsRefused text) (sym s.1) (parsed_stuck s.0 (h ∙ ap Err s.1))
        | inr d ↦ subst (IsRefused text) (sym d.1) (parsed_deep d.0 (h ∙ ap Err d.1))
      ]

  pub parsed_refused : (result : Result (List Declaration) Refusal) → ReturnsSource tree_of result read → IfErr result (λ e. IsRefused text e)
  parsed_refused (Ok s) h = tt
  parsed_refused (Err e) h = parsed_err e (refused_by e read h)

  -- a tree that is spelled within the depth is the answer
  pub parsed_only : (result : Result (List Declaration) Refusal) → ReturnsSource tree_of result read → (t : SourceTree) → SpellsSource t (plain (placed ts)) → source_deep t ≤ LIMITS.depth →
      MatchResult result (λ s. tree_of s ≡ t) (λ e. e ≡ refusals.OutOfMemory)
  parsed_only result h t spelled d = by result h
    where
      ok : read ≡ Ok t
      ok = source_only LIMITS.depth (line_at ts end) (tokens_shown ts) t (subst (SpellsSource t) (plain-placed ts) spelled) d

      none : (e : Refusal) → (e ≡ refusals.OutOfMemory) ⊎ (read ≡ Err e) → e ≡ refusals.OutOfMemory
      none e (inl is) = is
      none e (inr h) = let never = sym ok ∙ h in absurd (cc)

      by : (result : Result (List Declaration) Refusal) → ReturnsSource tree_of result read → MatchResult result (λ s. tree_of s ≡ t) (λ e. e ≡ refusals.OutOfMemory)
      by (Ok s) h = let both = sym h ∙ ok in cc
      by (Err e) h = none e (refused_by e read h)

  -- no answer is one of the lexer's
  pub parsed_short : (result : Result (List Declaration) Refusal) → ReturnsSource tree_of result read → result ≡ Err refusals.TextTooLong → ⊥
  parsed_short (Ok s) h is = absurd (cc (is))
  parsed_short (Err e) h is = by (refused_by e read h)
    where
      long : e ≡ refusals.TextTooLong
      long = cc

      by : (e ≡ refusals.OutOfMemory) ⊎ (read ≡ Err e) → ⊥
      by (inl memory) = let never = sym memory ∙ long in cc
      by (inr h) =
          elim (source_refuses LIMITS.depth (line_at ts end) (tokens_shown ts) e h) [
            | inl s ↦ let never = sym s.1 ∙ long in cc
            | inr d ↦ let never = sym d.1 ∙ long in cc
          ]
