-- Rows of objects that grow by one.
use Rattle.std.proofs.Common.{◌≡◌, ◌==◌, ◌≤◌, ◌∙◌, ◌+◌, ◌++◌, ◌∷◌, [], ℕ, zero, suc, Bool, false, if◌then◌else◌, List, Some, ap, append-nil, append_assoc, arith, codes, flat_map, length, slice_get, sym, take}
use Rattle.std.specs.List.{join_by}
use Rattle.std.proofs.lemmas.Bool.{ne_eqb}
use Rattle.std.proofs.lemmas.List.{take_all}
use Rattle.ioa_watch.proofs.HeardUpTo.{flat_more}
use Rattle.ioa_serving.specs.Rows.{comma_at}

row_more : {A : Type 0} (f : A → List ℕ) (n : ℕ) (xs : List A) (x : A) → slice_get xs n ≡ Some x
    → join_by f (codes ",") (take (suc n) xs) ≡ join_by f (codes ",") (take n xs) ++ (comma_at n ++ f x)
row_more f n [] x e = absurd (cc)
row_more f zero (y ∷ xs) x e = let same : y ≡ x = cc in append-nil (f y) ∙ ap f same
row_more f (suc n) (y ∷ xs) x e =
    let behind : (suc n == 0) ≡ false = ne_eqb (suc n) 0 (λ z. absurd (omega (arith, z))) in
    let so_far : List ℕ = f y ++ flat_map (λ z. codes "," ++ f z) (take n xs) in
    ap (λ zs. f y ++ zs) (flat_more (λ z. codes "," ++ f z) n xs x e) ∙ sym (append_assoc (f y) (flat_map (λ z. codes "," ++ f z) (take n xs)) (codes "," ++ f x))
    ∙ ap (λ (b : Bool). so_far ++ ((if b then [] else codes ",") ++ f x)) (sym behind)

-- the first so many, with one more
pub row_up_to : {A : Type 0} (f : A → List ℕ) (xs : List A) (n : ℕ) (x : A) (old new : List ℕ) → slice_get xs n ≡ Some x → old ≡ join_by f (codes ",") (take n xs)
    → new ≡ old ++ (comma_at n ++ f x) → new ≡ join_by f (codes ",") (take (n + 1) xs)
row_up_to f xs n x old new at so_far more =
    let next : suc n ≡ n + 1 = omega arith in
    more ∙ ap (λ ys. ys ++ (comma_at n ++ f x)) so_far ∙ sym (row_more f n xs x at) ∙ ap (λ (k : ℕ). join_by f (codes ",") (take k xs)) next

-- all of them
pub row_all : {A : Type 0} (f : A → List ℕ) (xs : List A) (n : ℕ) (text : List ℕ) → length xs ≤ n → text ≡ join_by f (codes ",") (take n xs) → text ≡ join_by f (codes ",") xs
row_all f xs n text l e = e ∙ ap (join_by f (codes ",")) (take_all n xs l)
