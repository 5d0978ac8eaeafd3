-- Sources: what the model answers, and what the tokens spell.
use Rattle.std.proofs.Common.{◌≡◌, ℕ, zero, suc, ◌+◌, ◌-◌, ◌<◌, ◌≤◌, ◌⊎◌, inl, inr, Bool, true, false, nat_le, List, [], ◌∷◌, ◌++◌, length, take, drop, refl, sym, ap, ◌∙◌, subst, arith, Result, Ok, Err, length-append, append_assoc, append-nil}
use Rattle.std.proofs.lemmas.Bool.Decides.{nat_tests}
use Rattle.std.proofs.lemmas.List.{take-append-drop, length-drop}
use Rattle.ioa_lex.specs.declared.refusal.Refusal.{Refusal}
use Rattle.ioa_lex.specs.declared.refusal.Refusal.TheVariants as refusals
use Rattle.ioa_lex.specs.Tokens.{Tok}
use Rattle.ioa_grammar.specs.declared.fault.Fault.{Fault}
use Rattle.ioa_grammar.specs.declared.fault.Fault.TheVariants.{Syntax, TooDeep}
use Rattle.ioa_tree.specs.Tree.{DeclarationTree, SourceTree}
use Rattle.ioa_tree.specs.Depth.{deep, source_deep}
use Rattle.ioa_grammar.specs.Grammar.{SpellsSource, SpellsDeclaration, IsDeadEnd}
use Rattle.ioa_grammar.specs.Reading.{Outcome, Reader, ◌>>=◌, many, many_from, declaration, source, source_from, declared_by, refusal_of}
use Rattle.ioa_declarations.proofs.Outcomes.{bind_ok, ok_pair, Past, AtMost}
use Rattle.ioa_declarations.proofs.Sound.{le_of}
use Rattle.ioa_declarations.proofs.DeclarationProductions.{AfterDeclaration, some_left, declaration_exact, declaration_some, declaration_leads, at_type, at_automaton, at_composition, at_invariant, at_end, all_exact}

-- all of the tokens, as an outcome
abbrev pub all : ℕ → Reader SourceTree
all b = many some_left (declaration b)

abbrev run : ℕ → ℕ → SourceTree → Reader SourceTree
run b n found ts = many_from some_left (declaration b) n found ts

shorter : (b : ℕ) (ts : List Tok) (d : DeclarationTree) (left : List Tok) → declaration b ts ≡ Ok (d, left) → length left < length ts
shorter b ts d left h = let f = declaration_exact.sound b ts d left h in omega (arith, ap length f.apart, length-append f.front left, declaration_some d f.front f.spells)

run_some : (b n : ℕ) (found : SourceTree) (x : Tok) (ts : List Tok) → run b (suc n) found (x ∷ ts) ≡ (declaration b (x ∷ ts) >>= λ p. run b n (found ++ p.0 ∷ []) p.1)
unfolding many_from
run_some b n found x ts = refl

run_none : (b n : ℕ) (found : SourceTree) → run b n found [] ≡ Ok (found, [])
unfolding many_from
run_none b zero found = refl
run_none b (suc n) found = refl

module _ (b : ℕ) (lines : ℕ → ℕ) where
  abbrev from : ℕ → SourceTree → List Tok → Result SourceTree Refusal
  from n found ts = source_from b lines n found ts

  from_none : (n : ℕ) (found : SourceTree) → from n found [] ≡ Ok found
  unfolding source_from
  from_none zero found = refl
  from_none (suc n) found = refl

  from_some : (n : ℕ) (found : SourceTree) (x : Tok) (ts : List Tok) → from (suc n) found (x ∷ ts) ≡ declared_by b lines (λ d left. from n (found ++ d ∷ []) left) (length (x ∷ ts)) (declaration b (x ∷ ts))
  unfolding source_from
  from_some n found x ts = refl

  run_ok : (n : ℕ) (found : SourceTree) (ts : List Tok) (t : SourceTree) (left : List Tok) → length ts ≤ n → run b n found ts ≡ Ok (t, left) → (left ≡ []) × (from n found ts ≡ Ok t)
  run_ok n found [] t left fuel h = let same = ok_pair found t [] left (sym (run_none b n found) ∙ h) in (sym same.1, from_none n found ∙ ap Ok same.0)
  run_ok zero found (x ∷ ts) t left fuel h = absurd (omega arith)
  run_ok (suc n) found (x ∷ ts) t left fuel h =
      let first = bind_ok (declaration b (x ∷ ts)) (λ p. run b n (found ++ p.0 ∷ []) p.1) (t, left) (sym (run_some b n found x ts) ∙ h) in
      let more = run_ok n (found ++ first.0.0 ∷ []) first.0.1 t left (omega (arith, shorter b (x ∷ ts) first.0.0 first.0.1 first.1)) first.2 in
      (more.0, from_some n found x ts ∙ ap (declared_by b lines (λ d left. from n (found ++ d ∷ []) left) (length (x ∷ ts))) first.1 ∙ more.1)

  -- where the reading of a declaration stopped
  record Stopped (n : ℕ) (found : SourceTree) (ts : List Tok) (f : Fault) : Type 0 where
    front : List Tok
    rest : List Tok
    apart : ts ≡ front ++ rest
    is : from n found ts ≡ Err (refusal_of lines (length rest) f)

  run_err : (n : ℕ) (found : SourceTree) (ts : List Tok) (f : Fault) → length ts ≤ n → run b n found ts ≡ Err f → Stopped n found ts f
  run_err n found [] f fuel h = let never = sym (run_none b n found) ∙ h in absurd (cc)
  run_err zero found (x ∷ ts) f fuel h = absurd (omega arith)
  run_err (suc n) found (x ∷ ts) f fuel h = by (run_err n) (declaration b (x ∷ ts)) refl (sym (run_some b n found x ts) ∙ h)
    where
      by : ((found : SourceTree) (ts : List Tok) (f : Fault) → length ts ≤ n → run b n found ts ≡ Err f → Stopped n found ts f) →
          (o : Outcome DeclarationTree) → declaration b (x ∷ ts) ≡ o → (o >>= λ p. run b n (found ++ p.0 ∷ []) p.1) ≡ Err f → Stopped (suc n) found (x ∷ ts) f
      by again (Ok p) e h =
          let m = again (found ++ p.0 ∷ []) p.1 f (omega (arith, shorter b (x ∷ ts) p.0 p.1 e)) h in
          let s = declaration_exact.sound b (x ∷ ts) p.0 p.1 e in
          record {
            front = s.front ++ m.front;
            rest = m.rest;
            apart = s.apart ∙ ap (λ z. s.front ++ z) m.apart ∙ sym (append_assoc s.front m.front m.rest);
            is = from_some n found x ts ∙ ap (declared_by b lines (λ d left. from n (found ++ d ∷ []) left) (length (x ∷ ts))) e ∙ m.is;
          }
      by again (Err g) e h =
          let same : g ≡ f = cc in
          record {
            front = [];
            rest = x ∷ ts;
            apart = refl;
            is = from_some n found x ts ∙ ap (declared_by b lines (λ d left. from n (found ++ d ∷ []) left) (length (x ∷ ts))) e ∙ ap (λ f. Err (refusal_of lines (length (x ∷ ts)) f)) same;
          }

  -- ---- which declaration is too deep

  after_all : (es : SourceTree) (ts : List Tok) → SpellsSource es ts → AfterDeclaration ts
  after_all [] ts s = subst AfterDeclaration (sym s) at_end
  after_all (e ∷ es) ts s = subst AfterDeclaration (sym s.4) (declaration_leads AfterDeclaration e s.0 s.1 at_type at_automaton at_composition at_invariant s.2)

  -- what is read stays so at a greater depth
  deeper : (c : ℕ) → b ≤ c → (ts : List Tok) (d : DeclarationTree) (left : List Tok) → declaration b ts ≡ Ok (d, left) → declaration c ts ≡ Ok (d, left)
  deeper c le ts d left h =
      let whole : declaration b (ts ++ []) ≡ Ok (d, left) = ap (declaration b) (append-nil ts) ∙ h in
      elim (declaration_exact.alike b c le [] [] tt ts) [
        | inl past ↦ let far : Past [] (Ok (d, left)) = subst (Past []) whole past in absurd (omega arith)
        | inr (inl r) ↦ let never = sym r.was ∙ whole in absurd (cc)
        | inr (inr g) ↦
            let same = ok_pair g.found d (g.front ++ []) left (sym g.was ∙ whole) in
            ap (declaration c) (sym (append-nil ts)) ∙ g.is ∙ ap (λ d. Ok (d, g.front ++ [])) same.0 ∙ ap (λ z. Ok (d, z)) same.1
      ]

  record First (n : ℕ) (found : SourceTree) (ts : List Tok) (t : SourceTree) : Type 0 where
    before : SourceTree
    too_deep : DeclarationTree
    after : SourceTree
    front : List Tok
    rest : List Tok
    made : t ≡ before ++ too_deep ∷ after
    apart : ts ≡ front ++ rest
    spells : SpellsSource before front
    goes_on : SpellsSource (too_deep ∷ after) rest
    within : source_deep before ≤ b
    beyond : b < deep too_deep
    is : from n found ts ≡ Err (refusals.TooDeep (lines (length rest)))

  first_deep : (n : ℕ) (found : SourceTree) (ts : List Tok) (t : SourceTree) → length ts ≤ n → run b n found ts ≡ Err TooDeep → SpellsSource t ts → First n found ts t
  first_deep n found [] t fuel h s = let never = sym (run_none b n found) ∙ h in absurd (cc)
  first_deep zero found (x ∷ ts) t fuel h s = absurd (omega arith)
  first_deep (suc n) found (x ∷ ts) [] fuel h s = absurd (cc (s))
  first_deep (suc n) found (x ∷ ts) (e ∷ es) fuel h s = by (first_deep n) (declaration b (x ∷ ts)) refl (sym (run_some b n found x ts) ∙ h)
    where
      reads : (c : ℕ) → deep e ≤ c → declaration c (x ∷ ts) ≡ Ok (e, s.1)
      reads c le = ap (declaration c) s.4 ∙ declaration_exact.complete c e s.0 s.1 s.2 le (after_all es s.1 s.3)

      too_far : declaration b (x ∷ ts) ≡ Err TooDeep → (v : Bool) → nat_le (deep e) b ≡ v → b < deep e
      too_far h true fits = let never = sym (reads b (le_of _ _ fits)) ∙ h in absurd (cc)
      too_far h false fails = grind (arith, nat_tests)

      by : ((found : SourceTree) (ts : List Tok) (t : SourceTree) → length ts ≤ n → run b n found ts ≡ Err TooDeep → SpellsSource t ts → First n found ts t) →
          (o : Outcome DeclarationTree) → declaration b (x ∷ ts) ≡ o → (o >>= λ p. run b n (found ++ p.0 ∷ []) p.1) ≡ Err TooDeep → First (suc n) found (x ∷ ts) (e ∷ es)
      by again (Ok p) read h =
          let c : ℕ = b + deep e in
          let same = ok_pair p.0 e p.1 s.1 (sym (deeper c (omega arith) (x ∷ ts) p.0 p.1 read) ∙ reads c (omega arith)) in
          let m = again (found ++ p.0 ∷ []) p.1 es (omega (arith, shorter b (x ∷ ts) p.0 p.1 read)) h (subst (SpellsSource es) (sym same.1) s.3) in
          let f = declaration_exact.sound b (x ∷ ts) p.0 p.1 read in
          let small : deep e ≤ b = subst (λ d. deep d ≤ b) same.0 f.within in
          record {
            before = e ∷ m.before;
            too_deep = m.too_deep;
            after = m.after;
            front = f.front ++ m.front;
            rest = m.rest;
            made = ap (λ r. e ∷ r) m.made;
            apart = f.apart ∙ ap (λ z. f.front ++ z) m.apart ∙ sym (append_assoc f.front m.front m.rest);
            spells = (f.front, m.front, subst (λ d. SpellsDeclaration d f.front) same.0 f.spells, m.spells, refl);
            goes_on = m.goes_on;
            within = omega (arith, m.within);
            beyond = m.beyond;
            is = from_some n found x ts ∙ ap (declared_by b lines (λ d left. from n (found ++ d ∷ []) left) (length (x ∷ ts))) read ∙ m.is;
          }
      by again (Err g) read h =
          let same : g ≡ TooDeep = cc in
          record {
            before = [];
            too_deep = e;
            after = es;
            front = [];
            rest = x ∷ ts;
            made = refl;
            apart = refl;
            spells = refl;
            goes_on = s;
            within = omega arith;
            beyond = too_far (read ∙ ap Err same) (nat_le (deep e) b) refl;
            is = from_some n found x ts ∙ ap (declared_by b lines (λ d left. from n (found ++ d ∷ []) left) (length (x ∷ ts))) (read ∙ ap Err same);
          }

  -- ---- all of the tokens

  all_ok : (ts : List Tok) (t : SourceTree) (left : List Tok) → all b ts ≡ Ok (t, left) → (left ≡ []) × (source b lines ts ≡ Ok t)
  unfolding many source
  all_ok ts t left h = run_ok (length ts) [] ts t left (omega arith) h

  all_err : (ts : List Tok) (f : Fault) → all b ts ≡ Err f → Stopped (length ts) [] ts f
  unfolding many
  all_err ts f h = run_err (length ts) [] ts f (omega arith) h

  source_is : (ts : List Tok) → source b lines ts ≡ from (length ts) [] ts
  unfolding source
  source_is ts = refl

  -- what is read is spelled
  pub source_found : (ts : List Tok) (t : SourceTree) → source b lines ts ≡ Ok t → SpellsSource t ts × (source_deep t ≤ b)
  source_found ts t h = by (all b ts) refl
    where
      by : (o : Outcome SourceTree) → all b ts ≡ o → SpellsSource t ts × (source_deep t ≤ b)
      by (Ok p) e =
          let whole = all_ok ts p.0 p.1 e in
          let f = all_exact.sound b ts p.0 p.1 e in
          let same : p.0 ≡ t = let both = sym whole.1 ∙ h in cc in
          let is : f.front ≡ ts = sym (f.apart ∙ ap (λ z. f.front ++ z) whole.0 ∙ append-nil f.front) in
          (subst (λ t. SpellsSource t ts) same (subst (SpellsSource p.0) is f.spells), subst (λ t. source_deep t ≤ b) same f.within)
      by (Err f) e = let stop = all_err ts f e in let never = sym h ∙ (source_is ts ∙ stop.is) in absurd (cc)

  -- what is spelled is read
  pub source_only : (ts : List Tok) (t : SourceTree) → SpellsSource t ts → source_deep t ≤ b → source b lines ts ≡ Ok t
  source_only ts t s d = (all_ok ts t [] (ap (all b) (sym (append-nil ts)) ∙ all_exact.complete b t ts [] s d (at_end, refl))).1

  -- ---- faults

  pub record Stuck (ts : List Tok) (line : ℕ) : Type 0 where
    pub front : List Tok
    pub rest : List Tok
    pub apart : ts ≡ front ++ rest
    pub on : line ≡ lines (length rest)
    pub dead : IsDeadEnd front rest

  dead_end : (front rest : List Tok) → all b (front ++ rest) ≡ Err (Syntax (length rest)) → IsDeadEnd front rest
  dead_end front rest h others t same s =
      let c : ℕ = b + source_deep t in
      let ok : all c (front ++ others) ≡ Ok (t, []) = ap (all c) (sym (append-nil (front ++ others))) ∙ all_exact.complete c t (front ++ others) [] s (omega arith) (at_end, refl) in
      elim (all_exact.alike b c (omega arith) rest others same front) [
        | inl past ↦ let far : length rest < length rest = subst (Past rest) h past in omega arith
        | inr (inl r) ↦ let never = sym r.is ∙ ok in cc
        | inr (inr g) ↦ let never = sym g.was ∙ h in cc
      ]

  stuck_at : (ts : List Tok) (l : ℕ) → all b ts ≡ Err (Syntax l) → Stuck ts (lines l)
  stuck_at ts l h =
      let low : l ≤ length ts = subst (AtMost (length ts)) h (all_exact.shrinks b ts) in
      let front : List Tok = take (length ts - l) ts in
      let rest : List Tok = drop (length ts - l) ts in
      let apart : ts ≡ front ++ rest = sym (take-append-drop (length ts - l) ts) in
      let size : length rest ≡ l = length-drop (length ts - l) ts ∙ (omega arith) in
      record { front = front; rest = rest; apart = apart; on = ap lines (sym size); dead = dead_end front rest (ap (all b) (sym apart) ∙ h ∙ ap (λ l. Err (Syntax l)) (sym size)) }

  pub source_stuck : (ts : List Tok) (line : ℕ) → source b lines ts ≡ Err (refusals.Syntax line) → Stuck ts line
  source_stuck ts line h = by (all b ts) refl
    where
      by : (o : Outcome SourceTree) → all b ts ≡ o → Stuck ts line
      by (Ok p) e = let whole = all_ok ts p.0 p.1 e in let never = sym whole.1 ∙ h in absurd (cc)
      by (Err (Syntax l)) e =
          let stop = all_err ts (Syntax l) e in
          let both = sym (source_is ts ∙ stop.is) ∙ h in
          let same : lines l ≡ line = cc in
          subst (Stuck ts) same (stuck_at ts l e)
      by (Err TooDeep) e = let stop = all_err ts TooDeep e in let never = sym (source_is ts ∙ stop.is) ∙ h in absurd (cc)

  pub record Deep (ts : List Tok) (t : SourceTree) (line : ℕ) : Type 0 where
    pub before : SourceTree
    pub too_deep : DeclarationTree
    pub after : SourceTree
    pub front : List Tok
    pub rest : List Tok
    pub made : t ≡ before ++ too_deep ∷ after
    pub apart : ts ≡ front ++ rest
    pub spells : SpellsSource before front
    pub goes_on : SpellsSource (too_deep ∷ after) rest
    pub within : source_deep before ≤ b
    pub beyond : b < deep too_deep
    pub on : line ≡ lines (length rest)

  deep_at : (ts : List Tok) (line : ℕ) → source b lines ts ≡ Err (refusals.TooDeep line) → all b ts ≡ Err TooDeep → (t : SourceTree) → SpellsSource t ts → Deep ts t line
  unfolding many source
  deep_at ts line h e t s =
      let f = first_deep (length ts) [] ts t (omega arith) e s in
      let both = sym f.is ∙ h in
      let same : lines (length f.rest) ≡ line = cc in
      record { before = f.before; too_deep = f.too_deep; after = f.after; front = f.front; rest = f.rest; made = f.made; apart = f.apart; spells = f.spells; goes_on = f.goes_on; within = f.within; beyond = f.beyond; on = sym same }

  pub source_deeper : (ts : List Tok) (line : ℕ) → source b lines ts ≡ Err (refusals.TooDeep line) → (b < length ts) × ((t : SourceTree) → SpellsSource t ts → Deep ts t line)
  source_deeper ts line h = by (all b ts) refl
    where
      by : (o : Outcome SourceTree) → all b ts ≡ o → (b < length ts) × ((t : SourceTree) → SpellsSource t ts → Deep ts t line)
      by (Ok p) e = let whole = all_ok ts p.0 p.1 e in let never = sym whole.1 ∙ h in absurd (cc)
      by (Err (Syntax l)) e = let stop = all_err ts (Syntax l) e in let never = sym (source_is ts ∙ stop.is) ∙ h in absurd (cc)
      by (Err TooDeep) e = (all_exact.long b ts e, deep_at ts line h e)

  -- the model refuses in no other way
  pub source_refuses : (ts : List Tok) (e : Refusal) → source b lines ts ≡ Err e → ((line : ℕ) × (e ≡ refusals.Syntax line)) ⊎ ((line : ℕ) × (e ≡ refusals.TooDeep line))
  source_refuses ts e h = by (all b ts) refl
    where
      by : (o : Outcome SourceTree) → all b ts ≡ o → ((line : ℕ) × (e ≡ refusals.Syntax line)) ⊎ ((line : ℕ) × (e ≡ refusals.TooDeep line))
      by (Ok p) g = let whole = all_ok ts p.0 p.1 g in let never = sym whole.1 ∙ h in absurd (cc)
      by (Err (Syntax l)) g = let stop = all_err ts (Syntax l) g in let both = sym h ∙ (source_is ts ∙ stop.is) in let same : e ≡ refusals.Syntax (lines l) = cc in inl (lines l, same)
      by (Err TooDeep) g = let stop = all_err ts TooDeep g in let both = sym h ∙ (source_is ts ∙ stop.is) in let same : e ≡ refusals.TooDeep (lines (length stop.rest)) = cc in inr (lines (length stop.rest), same)

-- tokens spell one source
pub one_source : (ts : List Tok) (t u : SourceTree) → SpellsSource t ts → SpellsSource u ts → t ≡ u
one_source ts t u s r =
    let c : ℕ = source_deep t + source_deep u in
    let both = sym (source_only c (λ n. n) ts t s (omega arith)) ∙ source_only c (λ n. n) ts u r (omega arith) in
    cc
