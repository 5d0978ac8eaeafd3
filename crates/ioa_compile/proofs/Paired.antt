-- Lists whose items are related place by place.
use Rattle.std.proofs.Common.{◌≡◌, ℕ, zero, suc, arith, ◌+◌, ◌<◌, ◌≤◌, Bool, ◌&&◌, ◌||◌, List, [], ◌∷◌, ◌++◌, length, map, take, get_or, refl, sym, ap, ◌∙◌, subst}
use Rattle.std.specs.List.{AllZip, list_all, list_any}
use Rattle.std.proofs.lemmas.List.{take_more, take_all, map-append}
use Rattle.std.proofs.lemmas.Slice.Zip.{all_zipped_more}

-- one item more of each
pub paired_next : {A B X Y : Type 0} (R : X → Y → Type 0) (f : A → X) (g : B → Y) (xs : List A) (i : ℕ) (x : A) (ys zs : List B) (y : B) → i < length xs → x ≡ get_or xs i x → zs ≡ ys ++ y ∷ [] → R (f x) (g y) → AllZip R (map f (take i xs)) (map g ys) → AllZip R (map f (take (i + 1) xs)) (map g zs)
paired_next R f g xs i x ys zs y lt x-is zs-is r all =
    let one : take (i + 1) xs ≡ take i xs ++ x ∷ [] = take_more xs i x lt ∙ ap (λ w. take i xs ++ w ∷ []) (sym x-is) in
    let left : map f (take (i + 1) xs) ≡ map f (take i xs) ++ f x ∷ [] = ap (map f) one ∙ map-append f (take i xs) (x ∷ []) in
    let right : map g zs ≡ map g ys ++ g y ∷ [] = ap (map g) zs-is ∙ map-append g ys (y ∷ []) in
    subst (λ l. AllZip R l (map g zs)) (sym left) (subst (AllZip R (map f (take i xs) ++ f x ∷ [])) (sym right) (all_zipped_more R (map f (take i xs)) (map g ys) (f x) (g y) all r))

pub paired_all : {A X Y : Type 0} (R : X → Y → Type 0) (f : A → X) (xs : List A) (i : ℕ) (ys : List Y) → length xs ≤ i → AllZip R (map f (take i xs)) ys → AllZip R (map f xs) ys
paired_all R f xs i ys le all = subst (λ l. AllZip R (map f l) ys) (take_all i xs le) all

-- items in one place are related
pub paired_read : {A B X Y : Type 0} (R : X → Y → Type 0) (f : A → X) (g : B → Y) (xs : List A) (ys : List B) (i : ℕ) (x : A) (y : B) → AllZip R (map f xs) (map g ys) → i < length xs → x ≡ get_or xs i x → y ≡ get_or ys i y → R (f x) (g y)
paired_read R f g [] ys i x y all lt x-is y-is = absurd (omega arith)
paired_read R f g (w ∷ ws) [] i x y all lt x-is y-is = absurd all
paired_read R f g (w ∷ ws) (v ∷ vs) zero x y all lt x-is y-is = subst (λ a. R (f a) (g y)) (sym x-is) (subst (λ b. R (f w) (g b)) (sym y-is) all.0)
paired_read R f g (w ∷ ws) (v ∷ vs) (suc i) x y all lt x-is y-is = paired_read R f g ws vs i x y all.1 (omega arith) x-is y-is

-- views that agree on related items
pub paired_map : {X Y Z : Type 0} (R : X → Y → Type 0) (f : X → Z) (g : Y → Z) → ((x : X) (y : Y) → R x y → g y ≡ f x) → (xs : List X) (ys : List Y) → AllZip R xs ys → map g ys ≡ map f xs
paired_map R f g k [] [] h = refl
paired_map R f g k [] (y ∷ ys) h = absurd h
paired_map R f g k (x ∷ xs) [] h = absurd h
paired_map R f g k (x ∷ xs) (y ∷ ys) h = ap (λ z. z ∷ map g ys) (k x y h.0) ∙ ap (λ l. f x ∷ l) (paired_map R f g k xs ys h.1)

-- tests that agree on related items
pub paired_any : {X Y : Type 0} (R : X → Y → Type 0) (p : X → Bool) (q : Y → Bool) → ((x : X) (y : Y) → R x y → q y ≡ p x) → (xs : List X) (ys : List Y) → AllZip R xs ys → list_any q ys ≡ list_any p xs
paired_any R p q k [] [] h = refl
paired_any R p q k [] (y ∷ ys) h = absurd h
paired_any R p q k (x ∷ xs) [] h = absurd h
paired_any R p q k (x ∷ xs) (y ∷ ys) h = ap (λ b. b || list_any q ys) (k x y h.0) ∙ ap (λ b. p x || b) (paired_any R p q k xs ys h.1)

-- a test of what items are seen as
pub any_seen : {X Y : Type 0} (f : X → Y) (p : Y → Bool) (xs : List X) → list_any p (map f xs) ≡ list_any (λ x. p (f x)) xs
any_seen f p [] = refl
any_seen f p (x ∷ xs) = ap (λ b. p (f x) || b) (any_seen f p xs)

-- tests that agree everywhere
pub all_same : {X : Type 0} (p q : X → Bool) → ((x : X) → p x ≡ q x) → (xs : List X) → list_all p xs ≡ list_all q xs
all_same p q k [] = refl
all_same p q k (x ∷ xs) = ap (λ b. b && list_all p xs) (k x) ∙ ap (λ b. q x && b) (all_same p q k xs)
