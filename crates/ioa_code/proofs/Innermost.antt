-- The search for the innermost loop round a place.
use Rattle.std.proofs.Common.{◌≡◌, ℕ, suc, ◌-◌, ◌<◌, ◌≤◌, ⊎_elim, List, [], ◌∷◌, ◌++◌, length, Option, Some, None, refl, sym, ap, ◌∙◌, subst, arith}
use Rattle.std.specs.Prelude.{slice_get}
use Rattle.std.proofs.lemmas.Bool.{cases_lt}
use Rattle.std.proofs.lemmas.List.{length-append}
use Rattle.ioa_value.proofs.ItemLemmas.{get_last}
use Rattle.ioa_code.specs.declared.instr.Instr.{Instr}
use Rattle.ioa_code.specs.Loops.{past_at, bodies, first_of, AreInnermost}
use Rattle.ioa_code.proofs.Lists.{get_before}
use Rattle.ioa_code.proofs.Bodies.{first_holds, first_last, none_holds}

-- no loop round the place stands after this one
abbrev pub NoneAfter : List Instr → ℕ → Option ℕ → Type 0
NoneAfter instrs place (Some j) = (j < place) × ((k : ℕ) → k < place → place < past_at instrs k → k ≤ j)
NoneAfter instrs place None = (k : ℕ) → k < place → place < past_at instrs k → ⊥

pub none_first : (instrs : List Instr) (place : ℕ) → NoneAfter instrs place (Some place) → ⊥
none_first instrs place h = let lt = h.0 in omega arith

pub after_last : (instrs : List Instr) (place : ℕ) → 0 < place → NoneAfter instrs place (Some (place - 1))
after_last instrs place some = (omega arith, λ k lt h. omega arith)

pub found_first : (instrs : List Instr) (place j : ℕ) → NoneAfter instrs place (Some j) → place < past_at instrs j → Some j ≡ first_of (bodies instrs place)
found_first instrs place j h at = go (bodies instrs place) refl
  where
    go : (bs : List ℕ) → bodies instrs place ≡ bs → Some j ≡ first_of bs
    go [] e = absurd (none_holds instrs place place e j h.0 at)
    go (k ∷ ks) e =
        let a = first_holds instrs place place k ks e in
        let b = first_last instrs place place k ks e j h.0 at in
        let c = h.1 k a.0 a.1 in
        let same : j ≡ k = omega arith in
        ap Some same

pub found_none : (instrs : List Instr) (place : ℕ) → NoneAfter instrs place None → None ≡ first_of (bodies instrs place)
found_none instrs place h = go (bodies instrs place) refl
  where
    go : (bs : List ℕ) → bodies instrs place ≡ bs → None ≡ first_of bs
    go [] e = refl
    go (k ∷ ks) e = let a = first_holds instrs place place k ks e in absurd (h k a.0 a.1)

pub none_round : (instrs : List Instr) → None ≡ first_of (bodies instrs 0)
none_round instrs = refl

-- a loop that has ended leads to the one round it
pub next_out : (instrs : List Instr) (place j : ℕ) (o : Option ℕ) → NoneAfter instrs place (Some j) → past_at instrs j ≤ place → o ≡ first_of (bodies instrs j) → NoneAfter instrs place o
next_out instrs place j o h le e = subst (NoneAfter instrs place) (sym e) (go (bodies instrs j) refl)
  where
    go : (bs : List ℕ) → bodies instrs j ≡ bs → NoneAfter instrs place (first_of bs)
    go [] f = λ k lt at.
        let a = h.1 k lt at in
        ⊎_elim
        (λ (less : k < j). let b = h.0 in none_holds instrs j j f k less (omega arith))
        (λ (ge : j ≤ k). let same : k ≡ j = omega arith in let b = ap (past_at instrs) same in absurd (omega arith))
        (cases_lt k j)
    go (i ∷ is) f =
        let first = first_holds instrs j j i is f in
        let b = h.0 in
        let c = first.0 in (
          omega arith,
          λ k lt at.
              let a = h.1 k lt at in
              ⊎_elim
              (λ (less : k < j). first_last instrs j j i is f k less (omega arith))
              (λ (ge : j ≤ k). let same : k ≡ j = omega arith in let d = ap (past_at instrs) same in absurd (omega arith))
              (cases_lt k j),
        )

pub innermost_more : (instrs : List Instr) (inner : List (Option ℕ)) (o : Option ℕ) → AreInnermost instrs inner → o ≡ first_of (bodies instrs (length inner)) → AreInnermost instrs (inner ++ o ∷ [])
innermost_more instrs inner o h e q lt =
    let len = length-append inner (o ∷ []) in
    ⊎_elim
    (λ (less : q < length inner). sym (get_before inner (o ∷ []) q less) ∙ h q less)
    (λ (ge : length inner ≤ q).
    let same : length inner ≡ q = omega arith in
    subst (λ n. slice_get (inner ++ o ∷ []) n ≡ Some (first_of (bodies instrs n))) same (get_last inner o ∙ ap Some e))
    (cases_lt q (length inner))

-- how far the search may still go
abbrev pub far : Option ℕ → ℕ
far (Some k) = suc k
far None = 0

pub smaller : (instrs : List Instr) (j : ℕ) (o next : Option ℕ) → next ≡ Some j → o ≡ first_of (bodies instrs j) → far o < far next
smaller instrs j o next e f =
    subst (λ x. far o < far x) (sym e) (subst (λ x. far x < suc j) (sym f) (go (bodies instrs j) refl))
  where
    go : (bs : List ℕ) → bodies instrs j ≡ bs → far (first_of bs) < suc j
    go [] h = omega arith
    go (i ∷ is) h = let a = first_holds instrs j j i is h in let b = a.0 in omega arith
