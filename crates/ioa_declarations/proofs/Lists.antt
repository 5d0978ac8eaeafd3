-- Readers of lists.
use Rattle.std.proofs.Common.{◌≡◌, ℕ, zero, suc, ◌<◌, ◌≤◌, ◌⊎◌, inl, inr, Bool, true, false, ◌&&◌, List, [], ◌∷◌, ◌++◌, length, refl, sym, ap, ◌∙◌, subst, arith, Ok, Err, if◌then◌else◌, length-append, append_assoc, append-nil}
use Rattle.ioa_value.specs.declared.terminal.Terminal.{Terminal}
use Rattle.ioa_lex.specs.Tokens.{Tok, terminal}
use Rattle.ioa_grammar.specs.declared.fault.Fault.TheVariants.{Syntax, TooDeep}
use Rattle.ioa_tree.specs.Depth.{deepest}
use Rattle.ioa_grammar.specs.Grammar as grammar
use Rattle.ioa_grammar.specs.Grammar.{Language, SameHead, ◌▹◌, word, perhaps, each_after}
use Rattle.ioa_grammar.specs.Reading.{Outcome, Reader, ◌>>=◌, rest, sees, after, always, items_from, separated, terminated, many_from, many}
use Rattle.ioa_declarations.proofs.Outcomes.{bind_ok, bind_err, ok_pair, AtMost, at_most_more, at_most_then, Alike, Past, past_at_most, alike_then, went, same_head, LooksAhead, rest_length}
use Rattle.ioa_declarations.proofs.Exact.{Found, ExactFor}
use Rattle.ioa_declarations.proofs.Singles.{sees_word, seen, sees_alike, after_seen, after_unseen}

none_left : (c s : List Tok) → length (c ++ s) ≤ 0 → (c ≡ []) × (s ≡ [])
none_left [] [] h = (refl, refl)
none_left [] (x ∷ s) h = absurd (omega arith)
none_left (x ∷ c) s h = absurd (omega arith)

same_end : (s : List Tok) → SameHead [] s → s ≡ []
same_end [] h = refl
same_end (x ∷ s) h = absurd h

end_same : (s : List Tok) → SameHead s [] → s ≡ []
end_same [] h = refl
end_same (x ∷ s) h = absurd h

module _ (goes_on : List Tok → Bool) (look : LooksAhead goes_on) (separator : Terminal) {I : Type 0} {size : I → ℕ} {A : Type 0} {L : A → Language} {D : A → ℕ} {F : Language} {P : I → Reader A}
    (p : ExactFor size L D F P) (some : (x : A) (ts : List Tok) → L x ts → 0 < length ts) where
  abbrev items : I → ℕ → List A → Reader (List A)
  items b = items_from goes_on separator (P b)

  abbrev next : I → ℕ → List A → A × List Tok → Outcome (List A)
  next b n found x = if sees separator x.1 && goes_on (after separator x.1) then items b n (found ++ x.0 ∷ []) (after separator x.1) else Ok (found ++ x.0 ∷ [], after separator x.1)

  items_zero : (b : I) (found : List A) (ts : List Tok) → items b zero found ts ≡ Err (Syntax (length ts))
  unfolding items_from
  items_zero b found ts = refl

  items_suc : (b : I) (n : ℕ) (found : List A) (ts : List Tok) → items b (suc n) found ts ≡ (P b ts >>= next b n found)
  unfolding items_from
  items_suc b n found ts = refl

  -- what comes after an item
  data Turn (ts : List Tok) : Type 0 where
    more : sees separator ts ≡ true → goes_on (rest ts) ≡ true → Turn ts
    last : sees separator ts ≡ true → goes_on (rest ts) ≡ false → Turn ts
    over : sees separator ts ≡ false → Turn ts

  turn : (ts : List Tok) → Turn ts
  turn ts = by (sees separator ts) (goes_on (rest ts)) refl refl
    where
      by : (v w : Bool) → sees separator ts ≡ v → goes_on (rest ts) ≡ w → Turn ts
      by true true e f = more e f
      by true false e f = last e f
      by false w e f = over e

  next_more : (b : I) (n : ℕ) (found : List A) (x : A) (ts : List Tok) → sees separator ts ≡ true → goes_on (rest ts) ≡ true → next b n found (x, ts) ≡ items b n (found ++ x ∷ []) (rest ts)
  next_more b n found x ts e f =
      let is = after_seen separator ts e in
      let yes : (sees separator ts && goes_on (after separator ts)) ≡ true = ap (λ v. v && goes_on (after separator ts)) e ∙ ap goes_on is ∙ f in
      let here : next b n found (x, ts) ≡ items b n (found ++ x ∷ []) (after separator ts) = ap (λ (v : Bool). if v then items b n (found ++ x ∷ []) (after separator ts) else Ok (found ++ x ∷ [], after separator ts)) yes in
      here ∙ ap (items b n (found ++ x ∷ [])) is

  next_last : (b : I) (n : ℕ) (found : List A) (x : A) (ts : List Tok) → sees separator ts ≡ true → goes_on (rest ts) ≡ false → next b n found (x, ts) ≡ Ok (found ++ x ∷ [], rest ts)
  next_last b n found x ts e f =
      let is = after_seen separator ts e in
      let yes : (sees separator ts && goes_on (after separator ts)) ≡ false = ap (λ v. v && goes_on (after separator ts)) e ∙ ap goes_on is ∙ f in
      let here : next b n found (x, ts) ≡ Ok (found ++ x ∷ [], after separator ts) = ap (λ (v : Bool). if v then items b n (found ++ x ∷ []) (after separator ts) else Ok (found ++ x ∷ [], after separator ts)) yes in
      here ∙ ap (λ z. Ok (found ++ x ∷ [], z)) is

  next_over : (b : I) (n : ℕ) (found : List A) (x : A) (ts : List Tok) → sees separator ts ≡ false → next b n found (x, ts) ≡ Ok (found ++ x ∷ [], ts)
  next_over b n found x ts e =
      let is = after_unseen separator ts e in
      let yes : (sees separator ts && goes_on (after separator ts)) ≡ false = ap (λ v. v && goes_on (after separator ts)) e in
      let here : next b n found (x, ts) ≡ Ok (found ++ x ∷ [], after separator ts) = ap (λ (v : Bool). if v then items b n (found ++ x ∷ []) (after separator ts) else Ok (found ++ x ∷ [], after separator ts)) yes in
      here ∙ ap (λ z. Ok (found ++ x ∷ [], z)) is

  -- ---- what is read is spelled

  record Listed (b : I) (found : List A) (ts : List Tok) (all : List A) (left : List Tok) : Type 0 where
    xs : List A
    front : List Tok
    tail : List Tok
    spells : grammar.separated separator L xs front
    ends : (tail ≡ []) ⊎ ((tail ≡ terminal separator ∷ []) × (goes_on left ≡ false))
    are : all ≡ found ++ xs
    apart : ts ≡ front ++ (tail ++ left)
    within : deepest D xs ≤ size b

  each_of : (xs : List A) (ts : List Tok) → grammar.separated separator L xs ts → each_after separator L xs (terminal separator ∷ ts)
  each_of [] ts s = absurd s
  each_of (x ∷ xs) ts s = (terminal separator ∷ [], ts, refl, s, refl)

  abbrev one : (x : A) (ts : List Tok) → L x ts → grammar.separated separator L (x ∷ []) ts
  one x ts s = (ts, [], s, refl, sym (append-nil ts))

  items_sound : (b : I) (n : ℕ) (found : List A) (ts : List Tok) (all : List A) (left : List Tok) → items b n found ts ≡ Ok (all, left) → Listed b found ts all left
  items_sound b zero found ts all left h = let never = sym (items_zero b found ts) ∙ h in absurd (cc)
  items_sound b (suc n) found ts all left h =
      let again = items_sound b n in
      let first = bind_ok (P b ts) (next b n found) (all, left) (sym (items_suc b n found ts) ∙ h) in
      let f = p.sound b ts first.0.0 first.0.1 first.1 in
      elim (turn first.0.1) [
        | more e g ↦
            let m = again (found ++ first.0.0 ∷ []) (rest first.0.1) all left (sym (next_more b n found first.0.0 first.0.1 e g) ∙ first.2) in
            record {
              xs = first.0.0 ∷ m.xs;
              front = f.front ++ terminal separator ∷ m.front;
              tail = m.tail;
              spells = (f.front, terminal separator ∷ m.front, f.spells, each_of m.xs m.front m.spells, refl);
              ends = m.ends;
              are = m.are ∙ append_assoc found (first.0.0 ∷ []) m.xs;
              apart = f.apart ∙ ap (λ z. f.front ++ z) (seen separator first.0.1 e ∙ ap (λ z. terminal separator ∷ z) m.apart) ∙ sym (append_assoc f.front (terminal separator ∷ m.front) (m.tail ++ left));
              within = omega (arith, f.within, m.within);
            }
        | last e g ↦
            let same = ok_pair (found ++ first.0.0 ∷ []) all (rest first.0.1) left (sym (next_last b n found first.0.0 first.0.1 e g) ∙ first.2) in
            record {
              xs = first.0.0 ∷ [];
              front = f.front;
              tail = terminal separator ∷ [];
              spells = one first.0.0 f.front f.spells;
              ends = inr (refl, ap goes_on (sym same.1) ∙ g);
              are = sym same.0;
              apart = f.apart ∙ ap (λ z. f.front ++ z) (seen separator first.0.1 e ∙ ap (λ z. terminal separator ∷ z) same.1);
              within = omega (arith, f.within);
            }
        | over e ↦
            let same = ok_pair (found ++ first.0.0 ∷ []) all first.0.1 left (sym (next_over b n found first.0.0 first.0.1 e) ∙ first.2) in
            record {
              xs = first.0.0 ∷ [];
              front = f.front;
              tail = [];
              spells = one first.0.0 f.front f.spells;
              ends = inl refl;
              are = sym same.0;
              apart = f.apart ∙ ap (λ z. f.front ++ z) same.1;
              within = omega (arith, f.within);
            }
      ]

  -- ---- what is spelled is read

  module _ (follows : (ts : List Tok) → F (terminal separator ∷ ts)) (begins : (x : A) (ts left : List Tok) → L x ts → goes_on (ts ++ left) ≡ true) where
    abbrev Ends : List Tok → List Tok → Type 0
    Ends tail left = ((tail ≡ []) × (sees separator left ≡ false)) ⊎ ((tail ≡ terminal separator ∷ []) × (goes_on left ≡ false))

    next_ends : (b : I) (n : ℕ) (found : List A) (x : A) (tail left : List Tok) → Ends tail left → next b n found (x, tail ++ left) ≡ Ok (found ++ x ∷ [], left)
    next_ends b n found x tail left (inl e) = ap (λ z. next b n found (x, z ++ left)) e.0 ∙ next_over b n found x left e.1
    next_ends b n found x tail left (inr e) = ap (λ z. next b n found (x, z ++ left)) e.0 ∙ next_last b n found x (terminal separator ∷ left) (sees_word separator left) e.1

    items_complete : (b : I) (xs : List A) (ts tail left : List Tok) → grammar.separated separator L xs ts → deepest D xs ≤ size b → Ends tail left → F (tail ++ left) →
        (n : ℕ) → length ts ≤ n → (found : List A) → items b n found (ts ++ (tail ++ left)) ≡ Ok (found ++ xs, left)
    items_complete b [] ts tail left s d e f n fuel found = absurd s
    items_complete b (x ∷ xs) ts tail left s d e f zero fuel found = absurd (omega (arith, ap length s.4, length-append s.0 s.1, some x s.0 s.2))
    items_complete b (x ∷ []) ts tail left s d e f (suc n) fuel found =
        let is : ts ≡ s.0 = s.4 ∙ ap (λ z. s.0 ++ z) s.3 ∙ append-nil s.0 in
        let read : P b (s.0 ++ (tail ++ left)) ≡ Ok (x, tail ++ left) = p.complete b x s.0 (tail ++ left) s.2 (omega arith) f in
        ap (λ z. items b (suc n) found (z ++ (tail ++ left))) is ∙ items_suc b n found (s.0 ++ (tail ++ left)) ∙ ap (λ o. o >>= next b n found) read ∙ next_ends b n found x tail left e
    items_complete b (x ∷ y ∷ ys) ts tail left s d e f (suc n) fuel found =
        let m = s.3 in
        let z : List Tok = m.1 ++ (tail ++ left) in
        let mine : s.1 ≡ terminal separator ∷ m.1 = m.4 ∙ ap (λ r. r ++ m.1) m.2 in
        let is : ts ++ (tail ++ left) ≡ s.0 ++ (terminal separator ∷ z) = ap (λ r. r ++ (tail ++ left)) (s.4 ∙ ap (λ r. s.0 ++ r) mine) ∙ append_assoc s.0 (terminal separator ∷ m.1) (tail ++ left) in
        let read : P b (s.0 ++ (terminal separator ∷ z)) ≡ Ok (x, terminal separator ∷ z) = p.complete b x s.0 (terminal separator ∷ z) s.2 (omega arith) (follows z) in
        let goes : goes_on z ≡ true = ap goes_on (ap (λ r. r ++ (tail ++ left)) m.3.4 ∙ append_assoc m.3.0 m.3.1 (tail ++ left)) ∙ begins y m.3.0 (m.3.1 ++ (tail ++ left)) m.3.2 in
        let short : length m.1 ≤ n = omega (arith, ap length s.4, length-append s.0 s.1, ap length mine, some x s.0 s.2) in
        let again = items_complete b (y ∷ ys) m.1 tail left m.3 (omega arith) e f n short (found ++ x ∷ []) in
        ap (items b (suc n) found) is ∙ items_suc b n found (s.0 ++ (terminal separator ∷ z)) ∙ ap (λ o. o >>= next b n found) read
        ∙ next_more b n found x (terminal separator ∷ z) (sees_word separator z) goes ∙ again ∙ ap (λ r. Ok (r, left)) (append_assoc found (x ∷ []) (y ∷ ys))

  -- ---- what is left, and faults

  next_shrinks : (b : I) (n : ℕ) (found : List A) (x : A × List Tok) → ((found : List A) (ts : List Tok) → AtMost (length ts) (items b n found ts)) → AtMost (length x.1) (next b n found x)
  next_shrinks b n found x again =
      elim (turn x.1) [
        | more e g ↦ subst (AtMost (length x.1)) (sym (next_more b n found x.0 x.1 e g)) (at_most_more (length (rest x.1)) (length x.1) (items b n (found ++ x.0 ∷ []) (rest x.1)) (rest_length x.1) (again (found ++ x.0 ∷ []) (rest x.1)))
        | last e g ↦ subst (AtMost (length x.1)) (sym (next_last b n found x.0 x.1 e g)) (rest_length x.1)
        | over e ↦ subst (AtMost (length x.1)) (sym (next_over b n found x.0 x.1 e)) (omega arith)
      ]

  items_shrinks : (b : I) (n : ℕ) (found : List A) (ts : List Tok) → AtMost (length ts) (items b n found ts)
  items_shrinks b zero found ts = subst (AtMost (length ts)) (sym (items_zero b found ts)) (omega arith)
  items_shrinks b (suc n) found ts =
      let again = items_shrinks b n in
      subst (AtMost (length ts)) (sym (items_suc b n found ts))
      (at_most_then (length ts) (P b ts) (next b n found) (p.shrinks b ts) (λ x h. at_most_more (length x.1) (length ts) (next b n found x) h (next_shrinks b n found x again)))

  shorter : (b : I) (ts : List Tok) (x : A) (left : List Tok) → P b ts ≡ Ok (x, left) → length left < length ts
  shorter b ts x left h = let f = p.sound b ts x left h in omega (arith, ap length f.apart, length-append f.front left, some x f.front f.spells)

  -- at the end of the tokens no item comes, at any depth
  end_faults : (b b' : I) → size b ≤ size b' → (l : ℕ) × (l' : ℕ) × (P b [] ≡ Err (Syntax l)) × (P b' [] ≡ Err (Syntax l'))
  end_faults b b' le =
      elim (p.alike b b' le [] [] tt []) [
        | inl past ↦ by (P b []) refl past
        | inr (inl r) ↦ (r.left, r.left', r.was, r.is)
        | inr (inr g) ↦ absurd (omega (arith, shorter b [] g.found (g.front ++ []) g.was))
      ]
    where
      by : (o : Outcome A) → P b [] ≡ o → Past [] o → (l : ℕ) × (l' : ℕ) × (P b [] ≡ Err (Syntax l)) × (P b' [] ≡ Err (Syntax l'))
      by (Ok x) e h = absurd (omega arith)
      by (Err (Syntax l)) e h = absurd (omega arith)
      by (Err TooDeep) e h = absurd (omega (arith, p.long b [] e))

  items_end : (b b' : I) (n n' : ℕ) → size b ≤ size b' → (found : List A) → Alike [] [] (items b n found []) (items b' n' found [])
  items_end b b' n n' le found =
      refuse_both (first n) (second n')
    where
      first : (n : ℕ) → (l : ℕ) × (items b n found [] ≡ Err (Syntax l))
      first zero = (0, items_zero b found [])
      first (suc n) = let e = end_faults b b' le in (e.0, items_suc b n found [] ∙ ap (λ o. o >>= next b n found) e.2)

      second : (n : ℕ) → (l : ℕ) × (items b' n found [] ≡ Err (Syntax l))
      second zero = (0, items_zero b' found [])
      second (suc n) = let e = end_faults b b' le in (e.1, items_suc b' n found [] ∙ ap (λ o. o >>= next b' n found) e.3)

      refuse_both : (l : ℕ) × (items b n found [] ≡ Err (Syntax l)) → (l' : ℕ) × (items b' n' found [] ≡ Err (Syntax l')) → Alike [] [] (items b n found []) (items b' n' found [])
      refuse_both x y = inr (inl (record { left = x.0; left' = y.0; was = x.1; low = omega arith; is = y.1 }))

  module _ (b b' : I) (le : size b ≤ size b') (s s' : List Tok) (same : SameHead s s') where
    abbrev ItemsAlike : ℕ → ℕ → Type 0
    ItemsAlike n n' = (found : List A) (c : List Tok) → length (c ++ s) ≤ n → length (c ++ s') ≤ n' → Alike s s' (items b n found (c ++ s)) (items b' n' found (c ++ s'))

    next_past : (n : ℕ) (found : List A) (x : A × List Tok) → length x.1 < length s → Past s (next b n found x)
    next_past n found x h = past_at_most s (length x.1) (next b n found x) h (next_shrinks b n found x (λ found ts. items_shrinks b n found ts))

    next_alike : (n n' : ℕ) → ItemsAlike n n' → (found : List A) (x : A) (c : List Tok) → length (c ++ s) ≤ suc n → length (c ++ s') ≤ suc n' → Alike s s' (next b n found (x, c ++ s)) (next b' n' found (x, c ++ s'))
    next_alike n n' again found x c fuel fuel' = by c fuel fuel' (turn (c ++ s))
      where
        alike_of : (c : List Tok) (o : Outcome (List A)) (o' : Outcome (List A)) → next b n found (x, c ++ s) ≡ o → next b' n' found (x, c ++ s') ≡ o' → Alike s s' o o' → Alike s s' (next b n found (x, c ++ s)) (next b' n' found (x, c ++ s'))
        alike_of c o o' e e' a = subst (λ o'. Alike s s' (next b n found (x, c ++ s)) o') (sym e') (subst (λ o. Alike s s' o o') (sym e) a)

        past_here : (s : List Tok) → 0 < length s → AtMost (length (rest s)) (next b n found (x, s)) → Past s (next b n found (x, s))
        past_here [] some h = absurd (omega arith)
        past_here (y ∷ r) some h = past_at_most (y ∷ r) (length r) (next b n found (x, y ∷ r)) (omega arith) h

        by : (c : List Tok) → length (c ++ s) ≤ suc n → length (c ++ s') ≤ suc n' → Turn (c ++ s) → Alike s s' (next b n found (x, c ++ s)) (next b' n' found (x, c ++ s'))
        by c fuel fuel' (over e) =
            let e' : sees separator (c ++ s') ≡ false = sym (sees_alike separator (c ++ s) (c ++ s') (same_head s s' same c)) ∙ e in
            alike_of c (Ok (found ++ x ∷ [], c ++ s)) (Ok (found ++ x ∷ [], c ++ s')) (next_over b n found x (c ++ s) e) (next_over b' n' found x (c ++ s') e') (went s s' (found ++ x ∷ []) c)
        by [] fuel fuel' (last e g) =
            let some_here : 0 < length s = omega (arith, ap length (seen separator s e)) in
            inl (past_here s some_here (subst (AtMost (length (rest s))) (sym (next_last b n found x s e g)) (omega arith)))
        by [] fuel fuel' (more e g) =
            let some_here : 0 < length s = omega (arith, ap length (seen separator s e)) in
            inl (past_here s some_here (subst (AtMost (length (rest s))) (sym (next_more b n found x s e g)) (items_shrinks b n (found ++ x ∷ []) (rest s))))
        by (y ∷ c) fuel fuel' (last e g) =
            let e' : sees separator (y ∷ (c ++ s')) ≡ true = sym (sees_alike separator (y ∷ (c ++ s)) (y ∷ (c ++ s')) refl) ∙ e in
            let g' : goes_on (c ++ s') ≡ false = sym (look (c ++ s) (c ++ s') (same_head s s' same c)) ∙ g in
            alike_of (y ∷ c) (Ok (found ++ x ∷ [], c ++ s)) (Ok (found ++ x ∷ [], c ++ s')) (next_last b n found x (y ∷ (c ++ s)) e g) (next_last b' n' found x (y ∷ (c ++ s')) e' g') (went s s' (found ++ x ∷ []) c)
        by (y ∷ c) fuel fuel' (more e g) =
            let e' : sees separator (y ∷ (c ++ s')) ≡ true = sym (sees_alike separator (y ∷ (c ++ s)) (y ∷ (c ++ s')) refl) ∙ e in
            let g' : goes_on (c ++ s') ≡ true = sym (look (c ++ s) (c ++ s') (same_head s s' same c)) ∙ g in
            alike_of (y ∷ c) (items b n (found ++ x ∷ []) (c ++ s)) (items b' n' (found ++ x ∷ []) (c ++ s')) (next_more b n found x (y ∷ (c ++ s)) e g) (next_more b' n' found x (y ∷ (c ++ s')) e' g')
            (again (found ++ x ∷ []) c (omega arith) (omega arith))

    items_alike : (n n' : ℕ) → ItemsAlike n n'
    items_alike zero n' found c fuel fuel' =
        let none = none_left c s fuel in
        let none' : s' ≡ [] = same_end s' (subst (λ s. SameHead s s') none.1 same) in
        rw (none.0, none.1, none') (items_end b b' zero n' le found)
    items_alike (suc n) zero found c fuel fuel' =
        let none = none_left c s' fuel' in
        let none' : s ≡ [] = end_same s (subst (λ s'. SameHead s s') none.1 same) in
        rw (none.0, none.1, none') (items_end b b' (suc n) zero le found)
    items_alike (suc n) (suc n') found c fuel fuel' =
        let again = items_alike n n' in
        subst (λ o. Alike s s' o (items b' (suc n') found (c ++ s'))) (sym (items_suc b n found (c ++ s)))
        (subst (λ o. Alike s s' (P b (c ++ s) >>= next b n found) o) (sym (items_suc b' n' found (c ++ s')))
        (alike_then s s' (P b (c ++ s)) (P b' (c ++ s')) (next b n found) (next b' n' found) (p.alike b b' le s s' same c) (λ x h. next_past n found x h)
        (λ x d was is. next_alike n n' again found x d (omega (arith, shorter b (c ++ s) x (d ++ s) was)) (omega (arith, shorter b' (c ++ s') x (d ++ s') is)))))

  items_long : (b : I) (n : ℕ) (found : List A) (ts : List Tok) → items b n found ts ≡ Err TooDeep → size b < length ts
  items_long b zero found ts h = let never = sym (items_zero b found ts) ∙ h in absurd (cc)
  items_long b (suc n) found ts h =
      let again = items_long b n in
      elim (bind_err (P b ts) (next b n found) TooDeep (sym (items_suc b n found ts) ∙ h)) [
        | inl deep ↦ p.long b ts deep
        | inr later ↦
            let small = shorter b ts later.0.0 later.0.1 later.1 in
            elim (turn later.0.1) [
              | more e g ↦
                  let far = again (found ++ later.0.0 ∷ []) (rest later.0.1) (sym (next_more b n found later.0.0 later.0.1 e g) ∙ later.2) in
                  omega (arith, rest_length later.0.1)
              | last e g ↦ let never = sym (next_last b n found later.0.0 later.0.1 e g) ∙ later.2 in absurd (cc)
              | over e ↦ let never = sym (next_over b n found later.0.0 later.0.1 e) ∙ later.2 in absurd (cc)
            ]
      ]

  -- ---- lists with a separator between

  abbrev Unseparated : Language
  Unseparated left = F left × (sees separator left ≡ false)

  abbrev Unterminated : Language
  Unterminated left = F left × (sees separator left ≡ false) × (goes_on left ≡ false)

  whole_complete : (follows : (ts : List Tok) → F (terminal separator ∷ ts)) (begins : (x : A) (ts left : List Tok) → L x ts → goes_on (ts ++ left) ≡ true) →
      (b : I) (xs : List A) (ts left : List Tok) → grammar.terminated separator L xs ts → deepest D xs ≤ size b → Unterminated left → items b (length (ts ++ left)) [] (ts ++ left) ≡ Ok (xs, left)
  whole_complete follows begins b xs ts left s d f = by s.1 s.3 s.4
    where
      read : (tail : List Tok) → Ends follows begins tail left → F (tail ++ left) → ts ≡ s.0 ++ tail → items b (length (ts ++ left)) [] (ts ++ left) ≡ Ok (xs, left)
      read tail e g is =
          let apart : ts ++ left ≡ s.0 ++ (tail ++ left) = ap (λ z. z ++ left) is ∙ append_assoc s.0 tail left in
          let fuel : length s.0 ≤ length (ts ++ left) = omega (arith, ap length apart, length-append s.0 (tail ++ left)) in
          ap (items b (length (ts ++ left)) []) apart ∙ items_complete follows begins b xs s.0 tail left s.2 d e g (length (ts ++ left)) fuel []

      by : (tail : List Tok) → perhaps separator tail → ts ≡ s.0 ++ tail → items b (length (ts ++ left)) [] (ts ++ left) ≡ Ok (xs, left)
      by tail (inl is) apart = read tail (inr (is, f.2)) (subst (λ z. F (z ++ left)) (sym is) (follows left)) apart
      by tail (inr is) apart = read tail (inl (is, f.1)) (subst (λ z. F (z ++ left)) (sym is) f.0) apart

  whole_alike : (b b' : I) → size b ≤ size b' → (s s' : List Tok) → SameHead s s' → (c : List Tok) → Alike s s' (items b (length (c ++ s)) [] (c ++ s)) (items b' (length (c ++ s')) [] (c ++ s'))
  whole_alike b b' le s s' same c = items_alike b b' le s s' same (length (c ++ s)) (length (c ++ s')) [] c (omega arith) (omega arith)

  listed_ends : (left tail : List Tok) → (tail ≡ []) ⊎ ((tail ≡ terminal separator ∷ []) × (goes_on left ≡ false)) → perhaps separator tail
  listed_ends left tail (inl e) = inr e
  listed_ends left tail (inr e) = inl e.0

  whole_sound : (b : I) (ts : List Tok) (xs : List A) (left : List Tok) → items b (length ts) [] ts ≡ Ok (xs, left) → Found (grammar.terminated separator L) (deepest D) (size b) ts xs left
  whole_sound b ts xs left h =
      let m = items_sound b (length ts) [] ts xs left h in
      let same : m.xs ≡ xs = sym m.are in
      record {
        front = m.front ++ m.tail;
        spells = subst (λ xs. grammar.terminated separator L xs (m.front ++ m.tail)) same (m.front, m.tail, m.spells, listed_ends left m.tail m.ends, refl);
        apart = m.apart ∙ sym (append_assoc m.front m.tail left);
        within = subst (λ xs. deepest D xs ≤ size b) same m.within;
      }

  pub terminated_exact : (follows : (ts : List Tok) → F (terminal separator ∷ ts)) (begins : (x : A) (ts left : List Tok) → L x ts → goes_on (ts ++ left) ≡ true) →
      ExactFor size (grammar.terminated separator L) (deepest D) Unterminated (λ b. terminated goes_on separator (P b))
  unfolding terminated
  terminated_exact follows begins = record {
    complete = whole_complete follows begins;
    sound = whole_sound;
    shrinks = λ b ts. items_shrinks b (length ts) [] ts;
    alike = whole_alike;
    long = λ b ts h. items_long b (length ts) [] ts h;
  }

  pub separated_some : (xs : List A) (ts : List Tok) → grammar.separated separator L xs ts → 0 < length ts
  separated_some [] ts s = absurd s
  separated_some (x ∷ xs) ts s = omega (arith, ap length s.4, length-append s.0 s.1, some x s.0 s.2)

-- commas: after a separator an item has to follow
module _ (separator : Terminal) {I : Type 0} {size : I → ℕ} {A : Type 0} {L : A → Language} {D : A → ℕ} {F : Language} {P : I → Reader A}
    (p : ExactFor size L D F P) (some : (x : A) (ts : List Tok) → L x ts → 0 < length ts) where
  abbrev Unparted : Language
  Unparted left = F left × (sees separator left ≡ false)

  parted_sound : (b : I) (ts : List Tok) (xs : List A) (left : List Tok) → items_from always separator (P b) (length ts) [] ts ≡ Ok (xs, left) → Found (grammar.separated separator L) (deepest D) (size b) ts xs left
  parted_sound b ts xs left h =
      let m = items_sound always (λ s s' h. refl) separator p some b (length ts) [] ts xs left h in
      let same : m.xs ≡ xs = sym m.are in
      let none : m.tail ≡ [] = elim m.ends [ inl e ↦ e | inr e ↦ absurd (cc (e.1)) ] in
      record {
        front = m.front;
        spells = subst (λ xs. grammar.separated separator L xs m.front) same m.spells;
        apart = m.apart ∙ ap (λ z. m.front ++ (z ++ left)) none;
        within = subst (λ xs. deepest D xs ≤ size b) same m.within;
      }

  parted_complete : (follows : (ts : List Tok) → F (terminal separator ∷ ts)) → (b : I) (xs : List A) (ts left : List Tok) → grammar.separated separator L xs ts → deepest D xs ≤ size b → Unparted left →
      items_from always separator (P b) (length (ts ++ left)) [] (ts ++ left) ≡ Ok (xs, left)
  parted_complete follows b xs ts left s d f =
      items_complete always (λ s s' h. refl) separator p some follows (λ x ts left s. refl) b xs ts [] left s d (inl (refl, f.1)) f.0 (length (ts ++ left)) (omega (arith, length-append ts left)) []

  pub separated_exact : (follows : (ts : List Tok) → F (terminal separator ∷ ts)) → ExactFor size (grammar.separated separator L) (deepest D) Unparted (λ b. separated separator (P b))
  unfolding separated
  separated_exact follows = record {
    complete = parted_complete follows;
    sound = parted_sound;
    shrinks = λ b ts. items_shrinks always (λ s s' h. refl) separator p some b (length ts) [] ts;
    alike = whole_alike always (λ s s' h. refl) separator p some;
    long = λ b ts h. items_long always (λ s s' h. refl) separator p some b (length ts) [] ts h;
  }

-- ---- any number of items, as long as the tokens begin one

module _ (begins : List Tok → Bool) (look : LooksAhead begins) (none : begins [] ≡ false) {I : Type 0} {size : I → ℕ} {A : Type 0} {L : A → Language} {D : A → ℕ} {F : Language} {P : I → Reader A}
    (p : ExactFor size L D F P) (some : (x : A) (ts : List Tok) → L x ts → 0 < length ts) where
  abbrev run : I → ℕ → List A → Reader (List A)
  run b = many_from begins (P b)

  abbrev more_of : I → ℕ → List A → A × List Tok → Outcome (List A)
  more_of b n found x = run b n (found ++ x.0 ∷ []) x.1

  run_zero : (b : I) (found : List A) (ts : List Tok) → run b zero found ts ≡ Ok (found, ts)
  unfolding many_from
  run_zero b found ts = refl

  run_more : (b : I) (n : ℕ) (found : List A) (ts : List Tok) → begins ts ≡ true → run b (suc n) found ts ≡ (P b ts >>= more_of b n found)
  unfolding many_from
  run_more b n found ts h = rw h refl

  run_over : (b : I) (n : ℕ) (found : List A) (ts : List Tok) → begins ts ≡ false → run b n found ts ≡ Ok (found, ts)
  unfolding many_from
  run_over b zero found ts h = refl
  run_over b (suc n) found ts h = rw h refl

  run_sound : (b : I) (n : ℕ) (found : List A) (ts : List Tok) (all : List A) (left : List Tok) → run b n found ts ≡ Ok (all, left) →
      (xs : List A) × (all ≡ found ++ xs) × Found (grammar.many L) (deepest D) (size b) ts xs left
  run_sound b zero found ts all left h =
      let same = ok_pair found all ts left (sym (run_zero b found ts) ∙ h) in
      ([], sym same.0 ∙ sym (append-nil found), record { front = []; spells = refl; apart = same.1; within = omega arith })
  run_sound b (suc n) found ts all left h = by (run_sound b n) (begins ts) refl
    where
      by : ((found : List A) (ts : List Tok) (all : List A) (left : List Tok) → run b n found ts ≡ Ok (all, left) → (xs : List A) × (all ≡ found ++ xs) × Found (grammar.many L) (deepest D) (size b) ts xs left) →
          (v : Bool) → begins ts ≡ v → (xs : List A) × (all ≡ found ++ xs) × Found (grammar.many L) (deepest D) (size b) ts xs left
      by again false e =
          let same = ok_pair found all ts left (sym (run_over b (suc n) found ts e) ∙ h) in
          ([], sym same.0 ∙ sym (append-nil found), record { front = []; spells = refl; apart = same.1; within = omega arith })
      by again true e =
          let first = bind_ok (P b ts) (more_of b n found) (all, left) (sym (run_more b n found ts e) ∙ h) in
          let f = p.sound b ts first.0.0 first.0.1 first.1 in
          let m = again (found ++ first.0.0 ∷ []) first.0.1 all left first.2 in (
            first.0.0 ∷ m.0,
            m.1 ∙ append_assoc found (first.0.0 ∷ []) m.0,
            record {
              front = f.front ++ m.2.front;
              spells = (f.front, m.2.front, f.spells, m.2.spells, refl);
              apart = f.apart ∙ ap (λ z. f.front ++ z) m.2.apart ∙ sym (append_assoc f.front m.2.front left);
              within = omega (arith, f.within, m.2.within);
            },
          )

  abbrev Over : Language
  Over left = F left × (begins left ≡ false)

  run_complete : (chain : (x : A) (ts left : List Tok) → L x ts → F (ts ++ left)) (opens : (x : A) (ts left : List Tok) → L x ts → begins (ts ++ left) ≡ true) →
      (b : I) (xs : List A) (ts left : List Tok) → grammar.many L xs ts → deepest D xs ≤ size b → Over left → (n : ℕ) → length ts ≤ n → (found : List A) → run b n found (ts ++ left) ≡ Ok (found ++ xs, left)
  run_complete chain opens b [] ts left s d f n fuel found = ap (λ z. run b n found (z ++ left)) s ∙ run_over b n found left f.1 ∙ ap (λ r. Ok (r, left)) (sym (append-nil found))
  run_complete chain opens b (x ∷ xs) ts left s d f zero fuel found = absurd (omega (arith, ap length s.4, length-append s.0 s.1, some x s.0 s.2))
  run_complete chain opens b (x ∷ xs) ts left s d f (suc n) fuel found =
      let apart : ts ++ left ≡ s.0 ++ (s.1 ++ left) = ap (λ z. z ++ left) s.4 ∙ append_assoc s.0 s.1 left in
      let read : P b (s.0 ++ (s.1 ++ left)) ≡ Ok (x, s.1 ++ left) = p.complete b x s.0 (s.1 ++ left) s.2 (omega arith) (after_item xs s.1 s.3) in
      let again = run_complete chain opens b xs s.1 left s.3 (omega arith) f n (omega (arith, ap length s.4, length-append s.0 s.1, some x s.0 s.2)) (found ++ x ∷ []) in
      ap (run b (suc n) found) apart ∙ run_more b n found (s.0 ++ (s.1 ++ left)) (opens x s.0 (s.1 ++ left) s.2) ∙ ap (λ o. o >>= more_of b n found) read ∙ again ∙ ap (λ r. Ok (r, left)) (append_assoc found (x ∷ []) xs)
    where
      after_item : (xs : List A) (ts : List Tok) → grammar.many L xs ts → F (ts ++ left)
      after_item [] ts s = subst (λ z. F (z ++ left)) (sym s) f.0
      after_item (y ∷ ys) ts s = subst F (sym (ap (λ z. z ++ left) s.4 ∙ append_assoc s.0 s.1 left)) (chain y s.0 (s.1 ++ left) s.2)

  run_shrinks : (b : I) (n : ℕ) (found : List A) (ts : List Tok) → AtMost (length ts) (run b n found ts)
  run_shrinks b zero found ts = subst (AtMost (length ts)) (sym (run_zero b found ts)) (omega arith)
  run_shrinks b (suc n) found ts = by (run_shrinks b n) (begins ts) refl
    where
      by : ((found : List A) (ts : List Tok) → AtMost (length ts) (run b n found ts)) → (v : Bool) → begins ts ≡ v → AtMost (length ts) (run b (suc n) found ts)
      by again false e = subst (AtMost (length ts)) (sym (run_over b (suc n) found ts e)) (omega arith)
      by again true e =
          subst (AtMost (length ts)) (sym (run_more b n found ts e))
          (at_most_then (length ts) (P b ts) (more_of b n found) (p.shrinks b ts) (λ x h. at_most_more (length x.1) (length ts) (more_of b n found x) h (again (found ++ x.0 ∷ []) x.1)))

  nearer : (b : I) (ts : List Tok) (x : A) (left : List Tok) → P b ts ≡ Ok (x, left) → length left < length ts
  nearer b ts x left h = let f = p.sound b ts x left h in omega (arith, ap length f.apart, length-append f.front left, some x f.front f.spells)

  module _ (b b' : I) (le : size b ≤ size b') (s s' : List Tok) (same : SameHead s s') where
    both_over : (n n' : ℕ) (found : List A) (c : List Tok) → begins (c ++ s) ≡ false → Alike s s' (run b n found (c ++ s)) (run b' n' found (c ++ s'))
    both_over n n' found c e =
        let e' : begins (c ++ s') ≡ false = sym (look (c ++ s) (c ++ s') (same_head s s' same c)) ∙ e in
        subst (λ o. Alike s s' o (run b' n' found (c ++ s'))) (sym (run_over b n found (c ++ s) e)) (subst (λ o. Alike s s' (Ok (found, c ++ s)) o) (sym (run_over b' n' found (c ++ s') e')) (went s s' found c))

    run_alike : (n n' : ℕ) (found : List A) (c : List Tok) → length (c ++ s) ≤ n → length (c ++ s') ≤ n' → Alike s s' (run b n found (c ++ s)) (run b' n' found (c ++ s'))
    run_alike zero n' found c fuel fuel' =
        let e = none_left c s fuel in
        both_over zero n' found c (ap begins (ap (λ c. c ++ s) e.0 ∙ e.1) ∙ none)
    run_alike (suc n) zero found c fuel fuel' =
        let e = none_left c s' fuel' in
        let here : s ≡ [] = end_same s (subst (λ s'. SameHead s s') e.1 same) in
        both_over (suc n) zero found c (ap begins (ap (λ c. c ++ s) e.0 ∙ here) ∙ none)
    run_alike (suc n) (suc n') found c fuel fuel' = by (run_alike n n') (begins (c ++ s)) refl
      where
        by : ((found : List A) (c : List Tok) → length (c ++ s) ≤ n → length (c ++ s') ≤ n' → Alike s s' (run b n found (c ++ s)) (run b' n' found (c ++ s'))) →
            (v : Bool) → begins (c ++ s) ≡ v → Alike s s' (run b (suc n) found (c ++ s)) (run b' (suc n') found (c ++ s'))
        by again false e = both_over (suc n) (suc n') found c e
        by again true e =
            let e' : begins (c ++ s') ≡ true = sym (look (c ++ s) (c ++ s') (same_head s s' same c)) ∙ e in
            subst (λ o. Alike s s' o (run b' (suc n') found (c ++ s'))) (sym (run_more b n found (c ++ s) e))
            (subst (λ o. Alike s s' (P b (c ++ s) >>= more_of b n found) o) (sym (run_more b' n' found (c ++ s') e'))
            (alike_then s s' (P b (c ++ s)) (P b' (c ++ s')) (more_of b n found) (more_of b' n' found) (p.alike b b' le s s' same c)
            (λ x h. past_at_most s (length x.1) (more_of b n found x) h (run_shrinks b n (found ++ x.0 ∷ []) x.1))
            (λ x d was is. again (found ++ x ∷ []) d (omega (arith, nearer b (c ++ s) x (d ++ s) was)) (omega (arith, nearer b' (c ++ s') x (d ++ s') is)))))

  run_long : (b : I) (n : ℕ) (found : List A) (ts : List Tok) → run b n found ts ≡ Err TooDeep → size b < length ts
  run_long b zero found ts h = let never = sym (run_zero b found ts) ∙ h in absurd (cc)
  run_long b (suc n) found ts h = by (run_long b n) (begins ts) refl
    where
      by : ((found : List A) (ts : List Tok) → run b n found ts ≡ Err TooDeep → size b < length ts) → (v : Bool) → begins ts ≡ v → size b < length ts
      by again false e = let never = sym (run_over b (suc n) found ts e) ∙ h in absurd (cc)
      by again true e =
          elim (bind_err (P b ts) (more_of b n found) TooDeep (sym (run_more b n found ts e) ∙ h)) [
            | inl deep ↦ p.long b ts deep
            | inr later ↦
                let small = nearer b ts later.0.0 later.0.1 later.1 in
                let far = again (found ++ later.0.0 ∷ []) later.0.1 later.2 in
                omega arith
          ]

  many_sound : (b : I) (ts : List Tok) (xs : List A) (left : List Tok) → run b (length ts) [] ts ≡ Ok (xs, left) → Found (grammar.many L) (deepest D) (size b) ts xs left
  many_sound b ts xs left h = let m = run_sound b (length ts) [] ts xs left h in subst (λ xs. Found (grammar.many L) (deepest D) (size b) ts xs left) (sym m.1) m.2

  pub many_exact : (chain : (x : A) (ts left : List Tok) → L x ts → F (ts ++ left)) (opens : (x : A) (ts left : List Tok) → L x ts → begins (ts ++ left) ≡ true) →
      ExactFor size (grammar.many L) (deepest D) Over (λ b. many begins (P b))
  unfolding many
  many_exact chain opens = record {
    complete = λ b xs ts left s d f. run_complete chain opens b xs ts left s d f (length (ts ++ left)) (omega (arith, length-append ts left)) [];
    sound = many_sound;
    shrinks = λ b ts. run_shrinks b (length ts) [] ts;
    alike = λ b b' le s s' same c. run_alike b b' le s s' same (length (c ++ s)) (length (c ++ s')) [] c (omega arith) (omega arith);
    long = λ b ts h. run_long b (length ts) [] ts h;
  }
