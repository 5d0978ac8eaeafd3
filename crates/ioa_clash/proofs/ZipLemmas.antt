-- Lists item by item.
use Rattle.std.proofs.Common.{◌≡◌, ℕ, ◌+◌, ◌<◌, true, All, List, [], ◌∷◌, ◌++◌, map, take, get_or, length, Option, Some, None, refl, sym, ap, subst, ◌∙◌, zero, suc, slice_get}
use Rattle.std.specs.List.{AllZip}
use Rattle.std.specs.Option.{is_some}
use Rattle.std.proofs.lemmas.List.{map-append}
use Rattle.std.proofs.lemmas.List.Elements.{All-head, All-tail}
use Rattle.ioa_value.proofs.ItemLemmas.{take_item}

pub there : {X : Type 0} (o : Option X) → is_some o ≡ true → (x : X) × (o ≡ Some x)
there (Some x) h = (x, refl)
there None h = absurd (cc)

pub zip-append : {A B : Type 0} (R : A → B → Type 0) (xs : List A) (ys : List B) (x : A) (y : B) → AllZip R xs ys → R x y → AllZip R (xs ++ x ∷ []) (ys ++ y ∷ [])
zip-append R [] [] x y h k = (k, tt)
zip-append R [] (z ∷ zs) x y h k = absurd h
zip-append R (w ∷ ws) [] x y h k = absurd h
zip-append R (w ∷ ws) (z ∷ zs) x y h k = (h.0, zip-append R ws zs x y h.1 k)

-- what a loop over the first list makes of one more item
pub zip-push : {X Y A B : Type 0} (R : A → B → Type 0) (f : X → A) (g : Y → B) (xs zs : List X) (k : ℕ) (x : X) (ys new : List Y) (y : Y) → zs ≡ xs
    → k < length zs → x ≡ get_or zs k x → new ≡ ys ++ y ∷ []
    → AllZip R (map f (take k xs)) (map g ys) → R (f x) (g y) → AllZip R (map f (take (k + 1) xs)) (map g new)
zip-push {A = A} {B = B} R f g xs zs k x ys new y s l e n h r =
    let here : take (k + 1) xs ≡ take k xs ++ x ∷ [] = subst (λ us. take (k + 1) us ≡ take k us ++ x ∷ []) s (take_item zs k x l e) in
    subst (λ (bs : List B). AllZip R (map f (take (k + 1) xs)) bs) (sym (ap (map g) n ∙ map-append g ys (y ∷ [])))
    (subst (λ (as' : List A). AllZip R as' (map g ys ++ g y ∷ [])) (sym (ap (map f) here ∙ map-append f (take k xs) (x ∷ [])))
    (zip-append R (map f (take k xs)) (map g ys) (f x) (g y) h r))

-- the same without images
pub zip-more : {A B : Type 0} (R : A → B → Type 0) (xs : List A) (k : ℕ) (x : A) (ys new : List B) (y : B)
    → k < length xs → x ≡ get_or xs k x → new ≡ ys ++ y ∷ [] → AllZip R (take k xs) ys → R x y → AllZip R (take (k + 1) xs) new
zip-more {A} {B} R xs k x ys new y l e n h r =
    subst (λ (bs : List B). AllZip R (take (k + 1) xs) bs) (sym n)
    (subst (λ (us : List A). AllZip R us (ys ++ y ∷ [])) (sym (take_item xs k x l e)) (zip-append R (take k xs) ys x y h r))

-- item by item
pub zip-at : {A B : Type 0} (R : A → B → Type 0) (xs : List A) (ys : List B) (k : ℕ) (x : A) → AllZip R xs ys → slice_get xs k ≡ Some x
    → (y : B) × (slice_get ys k ≡ Some y) × R x y
zip-at R [] ys k x h e = absurd (cc)
zip-at R (w ∷ ws) [] k x h e = absurd h
zip-at R (w ∷ ws) (z ∷ zs) zero x h e = let q : w ≡ x = cc in (z, refl, subst (λ u. R u z) q h.0)
zip-at R (w ∷ ws) (z ∷ zs) (suc k) x h e = zip-at R ws zs k x h.1 e

pub zip-to : {A B : Type 0} (R : A → B → Type 0) (xs : List A) (ys : List B) (k : ℕ) (y : B) → AllZip R xs ys → slice_get ys k ≡ Some y
    → (x : A) × (slice_get xs k ≡ Some x) × R x y
zip-to R xs [] k y h e = absurd (cc)
zip-to R [] (z ∷ zs) k y h e = absurd h
zip-to R (w ∷ ws) (z ∷ zs) zero y h e = let q : z ≡ y = cc in (w, refl, subst (R w) q h.0)
zip-to R (w ∷ ws) (z ∷ zs) (suc k) y h e = zip-to R ws zs k y h.1 e

pub same-item : {X : Type 0} {x y : X} {o : Option X} → o ≡ Some x → o ≡ Some y → x ≡ y
same-item {x = x} {y = y} e f = let q : Some x ≡ Some y = sym e ∙ f in cc

-- what is so of all items is so of the one in this place
pub all_found : {X : Type 0} (P : X → Type 0) (xs : List X) (i : ℕ) (x : X) → All P xs → slice_get xs i ≡ Some x → P x
all_found P [] i x h e = absurd (cc)
all_found P (y ∷ ys) zero x h e = let same : y ≡ x = cc in subst P same (All-head P y ys h)
all_found P (y ∷ ys) (suc i) x h e = all_found P ys i x (All-tail P y ys h) e
