-- The value of digits only grows as more of them are read.
use Rattle.std.proofs.Common.{◌≡◌, ℕ, ◌+◌, ◌-◌, ◌*◌, ◌<◌, ◌≤◌, List, [], ◌∷◌, ◌++◌, length, take, drop, get_or, fold, refl, sym, ap, ◌∙◌, arith}
use Rattle.std.proofs.lemmas.List.{take_more, take-append-drop}
use Rattle.ioa_lex.specs.Lexing.{value_of}

abbrev more : ℕ → ℕ → ℕ
more n b = n * 10 + (b - 48)

grows : (n : ℕ) (ds : List ℕ) → n ≤ fold more n ds
grows n [] = omega arith
grows n (d ∷ ds) = omega (arith, grows (more n d) ds)

joined : (n : ℕ) (a b : List ℕ) → fold more n (a ++ b) ≡ fold more (fold more n a) b
joined n [] b = refl
joined n (d ∷ a) b = joined (more n d) a b

pub too_large : (ds : List ℕ) (i v limit : ℕ) → i < length ds → v ≡ value_of (take i ds) → limit < v * 10 + (get_or ds i 0 - 48) → limit < value_of ds
too_large ds i v limit within same large =
    let one : value_of (take (i + 1) ds) ≡ more (value_of (take i ds)) (get_or ds i 0) =
    ap value_of (take_more ds i 0 within) ∙ joined 0 (take i ds) (get_or ds i 0 ∷ []) in
    let all : value_of ds ≡ fold more (value_of (take (i + 1) ds)) (drop (i + 1) ds) =
    ap value_of (sym (take-append-drop (i + 1) ds)) ∙ joined 0 (take (i + 1) ds) (drop (i + 1) ds) in
    omega (arith, one, all, same, grows (value_of (take (i + 1) ds)) (drop (i + 1) ds))

pub value_push : (ds : List ℕ) (d : ℕ) → value_of (ds ++ d ∷ []) ≡ value_of ds * 10 + (d - 48)
value_push ds d = joined 0 ds (d ∷ [])
