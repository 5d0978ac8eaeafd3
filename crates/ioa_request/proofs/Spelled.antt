-- A code is found by its spelling.
use Rattle.std.proofs.Common.{◌≡◌, ◌∙◌, ℕ, Bool, true, List, [], ◌∷◌, Option, Some, None, IfNone, IfSome, ap, find, refl, subst, suc, sym, zero, ⊎_elim}
use Rattle.std.specs.List.{slice_get}
use Rattle.std.proofs.lemmas.Bool.{cases_Bool}
use Rattle.clap.specs.Words.{Text}
use Rattle.ioa_request.specs.declared.code.Code.{Code}
use Rattle.ioa_request.specs.Codes.{all_codes, spelling}
use Rattle.ioa_request.specs.Pasted.{reads}

abbrev pub sought : Text → List Code → Option Code
sought w cs = find (λ c. reads (spelling c) w) cs

-- what a look-up finds is spelled so
pub sought_is : (w : Text) (cs : List Code) → IfSome (sought w cs) (λ c. reads (spelling c) w ≡ true)
sought_is w [] = tt
sought_is w (c ∷ cs) =
    ⊎_elim (λ yes. rw yes yes) (λ no. rw no (sought_is w cs)) (cases_Bool (reads (spelling c) w))

-- where it finds nothing, none of the codes is
unsought : (p : Code → Bool) (cs : List Code) (k : ℕ) (c : Code) → find p cs ≡ None → slice_get cs k ≡ Some c → p c ≡ true → ⊥
unsought p [] k c none here holds = let z : None ≡ Some c = here in cc
unsought p (d ∷ ds) zero c none here holds =
    let same : d ≡ c = cc in
    let passes : p d ≡ true = subst (λ (x : Code). p x ≡ true) (sym same) holds in
    let z : Some d ≡ None = rw passes at none in cc
unsought p (d ∷ ds) (suc k) c none here holds =
    ⊎_elim (λ passes. let z : Some d ≡ None = rw passes at none in cc) (λ fails. unsought p ds k c (rw fails at none) here holds) (cases_Bool (p d))

-- where each code stands
place : Code → ℕ
place Code.E1 = 0
place Code.E2 = 1
place Code.E3 = 2
place Code.E4 = 3
place Code.E5 = 4
place Code.E6 = 5
place Code.E7 = 6
place Code.E8 = 7
place Code.E9 = 8
place Code.E10 = 9
place Code.E11 = 10
place Code.E12 = 11
place Code.E13 = 12
place Code.E14 = 13
place Code.E15 = 14
place Code.E16 = 15
place Code.E17 = 16
place Code.O1 = 17
place Code.O2 = 18
place Code.O3 = 19
place Code.O4 = 20
place Code.O5 = 21
place Code.O6 = 22
place Code.O7 = 23
place Code.L1 = 24
place Code.L2 = 25
place Code.L3 = 26
place Code.L4 = 27
place Code.L5 = 28
place Code.L6 = 29
place Code.L7 = 30
place Code.L8 = 31
place Code.N1 = 32
place Code.N2 = 33
place Code.N3 = 34
place Code.N4 = 35
place Code.N5 = 36
place Code.Words = 37
place Code.Object = 38
place Code.Memory = 39
place Code.Io = 40

at_place : (c : Code) → slice_get all_codes (place c) ≡ Some c
unfolding place
at_place Code.E1 = refl
at_place Code.E2 = refl
at_place Code.E3 = refl
at_place Code.E4 = refl
at_place Code.E5 = refl
at_place Code.E6 = refl
at_place Code.E7 = refl
at_place Code.E8 = refl
at_place Code.E9 = refl
at_place Code.E10 = refl
at_place Code.E11 = refl
at_place Code.E12 = refl
at_place Code.E13 = refl
at_place Code.E14 = refl
at_place Code.E15 = refl
at_place Code.E16 = refl
at_place Code.E17 = refl
at_place Code.O1 = refl
at_place Code.O2 = refl
at_place Code.O3 = refl
at_place Code.O4 = refl
at_place Code.O5 = refl
at_place Code.O6 = refl
at_place Code.O7 = refl
at_place Code.L1 = refl
at_place Code.L2 = refl
at_place Code.L3 = refl
at_place Code.L4 = refl
at_place Code.L5 = refl
at_place Code.L6 = refl
at_place Code.L7 = refl
at_place Code.L8 = refl
at_place Code.N1 = refl
at_place Code.N2 = refl
at_place Code.N3 = refl
at_place Code.N4 = refl
at_place Code.N5 = refl
at_place Code.Words = refl
at_place Code.Object = refl
at_place Code.Memory = refl
at_place Code.Io = refl

pub none_sought : (w : Text) (cs : List Code) (r : Option Code) → cs ≡ all_codes → r ≡ sought w cs → IfNone r ((c : Code) → reads (spelling c) w ≡ true → ⊥)
none_sought w cs None is e = λ c.
    unsought (λ d. reads (spelling d) w) all_codes (place c) c (ap (sought w) (sym is) ∙ sym e) (at_place c)
none_sought w cs (Some c) is e = tt
