-- One turn of the lexer: the pieces so far, and one more.
use Rattle.std.proofs.Common.{◌≡◌, ◌≢◌, ℕ, ◌+◌, ◌≤◌, ◌<◌, ◌⊎◌, ⊎_elim, cond, eqb, List, [], ◌∷◌, ◌++◌, length, take, drop, get_or, count_by, Option, Some, None, refl, sym, ap, ◌∙◌, subst, add-zero, arith}
use Rattle.std.specs.List.{flat_map}
use Rattle.std.proofs.lemmas.List.{append_cancel_right, length-append, take-append-drop, drop-drop, drop_all, length-drop, take_at, get_or-drop, map_push, append-nil}
use Rattle.std.proofs.lemmas.Bool.{cond-true, cond-false, eq-eqb, ne_eqb}
use Rattle.std.proofs.lemmas.List.Sums.{sum_by-append}
use Rattle.std.proofs.Math.Seq.{take-add}
use Rattle.ioa_value.specs.declared.limits.TheConstants.{LIMITS}
use Rattle.ioa_lex.specs.declared.token.Kind.{Kind}
use Rattle.ioa_lex.specs.declared.token.Token.{Token}
use Rattle.ioa_lex.specs.declared.refusal.Refusal.{Refusal}
use Rattle.ioa_lex.specs.declared.refusal.Refusal.TheVariants as refusals
use Rattle.ioa_lex.specs.Tokens.{Tok, kind_shown}
use Rattle.ioa_lex.specs.Lexing.{Piece, blank, comment, token, bytes_of, MayStandBefore, Covers, NoneStands, line_after, tokens_after, Lexes, StopsOn, IsRefused, placed}
use Rattle.ioa_lex.specs.Fronts.{IsPiece, IsFront, NoFront}
use Rattle.ioa_lex.proofs.Texts.{head, head_of_front}
use Rattle.ioa_lex.proofs.Pieces.{lines_of, piece_some}
use Rattle.ioa_lex.proofs.Covers.{covers_more, covers_front, tokens_more}

-- the text up to a place gives these tokens
pub record IsLexedTo (text : List ℕ) (at : ℕ) (ts : List (Tok × ℕ)) : Type 0 where
  pub pieces : List Piece
  pub covers : Covers pieces text (drop at text)
  pub tokens : ts ≡ tokens_after [] pieces

-- the token that was found, if there is one
abbrev pub found_on : ℕ → Option Kind → List (Tok × ℕ)
found_on line None = []
found_on line (Some k) = (kind_shown k, line) ∷ []

pub lexed_none : (text : List ℕ) → IsLexedTo text 0 []
lexed_none text = record { pieces = []; covers = refl; tokens = refl }

before_of : (text : List ℕ) (at : ℕ) (ts : List (Tok × ℕ)) → (h : IsLexedTo text at ts) → flat_map bytes_of h.pieces ≡ take at text
before_of text at ts h =
    append_cancel_right (flat_map bytes_of h.pieces) (take at text) (drop at text) (sym (covers_front h.pieces text (drop at text) h.covers) ∙ sym (take-append-drop at text))

token_of : (before : List ℕ) (kind : Option Kind) (p : Piece) (line : ℕ) → line ≡ line_after before → IsPiece kind p → tokens_after before (p ∷ []) ≡ found_on line kind
token_of before None (blank b) line e h = refl
token_of before None (comment c) line e h = refl
token_of before None (token w t) line e h = absurd h
token_of before (Some k) (blank b) line e h = absurd h
token_of before (Some k) (comment c) line e h = absurd h
token_of before (Some k) (token w t) line e h = cc

pub lexed_more : (text : List ℕ) (at line len : ℕ) (ts : List (Tok × ℕ)) (kind : Option Kind) → IsLexedTo text at ts → line ≡ line_after (take at text) → IsFront (drop at text) kind len → IsLexedTo text (at + len) (ts ++ found_on line kind)
lexed_more text at line len ts kind h here f =
    let rest : drop len (drop at text) ≡ drop (at + len) text = drop-drop len at text in
    let split : drop at text ≡ bytes_of f.piece ++ drop (at + len) text = f.split ∙ ap (λ x. bytes_of f.piece ++ x) rest in
    let stands : MayStandBefore f.piece (drop (at + len) text) = subst (λ x. MayStandBefore f.piece x) rest f.stands in
    let before : line ≡ line_after (flat_map bytes_of h.pieces) = here ∙ ap line_after (sym (before_of text at ts h)) in
    let own : tokens_after (flat_map bytes_of h.pieces) (f.piece ∷ []) ≡ found_on line kind = token_of (flat_map bytes_of h.pieces) kind f.piece line before f.kept in
    let more : tokens_after [] (h.pieces ++ f.piece ∷ []) ≡ tokens_after [] h.pieces ++ tokens_after (flat_map bytes_of h.pieces) (f.piece ∷ []) = tokens_more h.pieces [] f.piece in
    record {
      pieces = h.pieces ++ f.piece ∷ [];
      covers = covers_more h.pieces text (drop at text) (drop (at + len) text) f.piece h.covers split stands;
      tokens = ap (λ x. x ++ found_on line kind) h.tokens ∙ ap (λ x. tokens_after [] h.pieces ++ x) (sym own) ∙ sym more;
    }

-- how far a piece goes
pub within_more : (text : List ℕ) (at len : ℕ) (kind : Option Kind) → at ≤ length text → IsFront (drop at text) kind len → (0 < len) × (at + len ≤ length text)
within_more text at len kind h f =
    let some = piece_some f.piece (drop len (drop at text)) f.stands in
    let whole : length (drop at text) ≡ length (bytes_of f.piece) + length (drop len (drop at text)) = ap length f.split ∙ length-append (bytes_of f.piece) (drop len (drop at text)) in
    (omega (arith, f.size), omega (arith, whole, f.size, length-drop at text))

pub lexed_all : (text : List ℕ) (at : ℕ) (ts : List (Tok × ℕ)) → IsLexedTo text at ts → length text ≤ at → Lexes text ts
lexed_all text at ts h end = (h.pieces, subst (λ x. Covers h.pieces text x) (drop_all at text end) h.covers, h.tokens)

pub stopped_at : (text : List ℕ) (at line : ℕ) (ts : List (Tok × ℕ)) → at < length text → IsLexedTo text at ts → line ≡ line_after (take at text) → NoneStands (drop at text) → StopsOn text line
stopped_at text at line ts within h here none =
    let more : drop at text ≢ [] = λ e. omega (arith, ap length e, length-drop at text) in
    (h.pieces, drop at text, h.covers, more, none, here ∙ ap line_after (sym (before_of text at ts h)))

-- the line after a piece
pub line_more : (text : List ℕ) (at len : ℕ) (kind : Option Kind) → IsFront (drop at text) kind len → line_after (take (at + len) text) ≡ line_after (take at text) + cond (eqb (get_or text at 0) 10) 1 0
line_more text at len kind f =
    let stands = f.stands in
    let rest = drop len (drop at text) in
    let own : take len (drop at text) ≡ bytes_of f.piece = ap (take len) f.split ∙ take_at (bytes_of f.piece) rest len f.size in
    let front : take (at + len) text ≡ take at text ++ bytes_of f.piece = take-add at len text ∙ ap (λ x. take at text ++ x) own in
    let first : head (bytes_of f.piece) ≡ get_or text at 0 =
    head_of_front (bytes_of f.piece) rest (drop at text) f.split (piece_some f.piece rest stands) ∙ get_or-drop at text 0 0 ∙ ap (λ i. get_or text i 0) (add-zero at) in
    let lines : count_by (λ b. eqb b 10) (bytes_of f.piece) ≡ cond (eqb (get_or text at 0) 10) 1 0 =
    lines_of f.piece rest stands ∙ ap (λ b. cond (eqb b 10) 1 0) first in
    let both : count_by (λ b. eqb b 10) (take (at + len) text) ≡ count_by (λ b. eqb b 10) (take at text) + count_by (λ b. eqb b 10) (bytes_of f.piece) =
    ap (count_by (λ b. eqb b 10)) front ∙ sum_by-append (λ b. cond (eqb b 10) 1 0) (take at text) (bytes_of f.piece) in
    omega (arith, both, lines)

-- the line that the code counts, before and after a piece
pub line_kept : (before after b line new : ℕ) → after ≡ before + cond (eqb b 10) 1 0 → line ≡ before → ((b ≡ 10) × (new ≡ line + 1)) ⊎ ((b ≡ 10 → ⊥) × (new ≡ line)) → new ≡ after
line_kept before after b line new more here h =
    let ones : ℕ = 1 in
    let none : ℕ = 0 in
    ⊎_elim (λ k. let e : cond (eqb b 10) ones none ≡ ones = cond-true (eqb b 10) ones none (eq-eqb b 10 k.0) in omega (arith, e, k.1, more, here)) (λ k. let e : cond (eqb b 10) ones none ≡ none = cond-false (eqb b 10) ones none (ne_eqb b 10 k.0) in omega (arith, e, k.1, more, here)) h

pub kept_some : (ts us : List Token) (t : Token) (kind : Option Kind) → kind ≡ Some t.kind → us ≡ ts ++ t ∷ [] → placed us ≡ placed ts ++ found_on t.line kind
kept_some ts us t kind is e =
    ap placed e ∙ map_push (λ u. (kind_shown u.kind, u.line)) ts t ∙ ap (λ k. placed ts ++ found_on t.line k) (sym is)

pub kept_none : (ts us : List Token) (line : ℕ) (kind : Option Kind) → kind ≡ None → us ≡ ts → placed us ≡ placed ts ++ found_on line kind
kept_none ts us line kind is e = ap placed e ∙ sym (append-nil (placed ts)) ∙ ap (λ k. placed ts ++ found_on line k) (sym is)

pub refused_by : (text : List ℕ) (at line : ℕ) (ts : List (Tok × ℕ)) (e : Refusal) → length text ≤ LIMITS.text → at < length text → IsLexedTo text at ts → line ≡ line_after (take at text) → NoFront (drop at text) line e → IsRefused text e
refused_by text at line ts (refusals.BadByte n) short within h here none = (short, subst (StopsOn text) (sym none.0) (stopped_at text at line ts within h here none.1))
refused_by text at line ts refusals.OutOfMemory short within h here none = short
refused_by text at line ts refusals.TextTooLong short within h here none = absurd none
refused_by text at line ts _ short within h here none = absurd none
