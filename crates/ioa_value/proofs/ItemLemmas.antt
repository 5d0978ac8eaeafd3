-- Items of lists: the item at a loop's turn, items in their places, and tests that items pass.
use Rattle.std.proofs.Common.{◌≡◌, ℕ, zero, suc, ◌+◌, ◌<◌, ◌≤◌, Bool, true, false, cond, ◌&&◌, ◌||◌, List, [], ◌∷◌, ◌++◌, length, map, take, drop, find, get_or, Some, refl, sym, ap, ◌∙◌, subst, arith}
use Rattle.std.specs.Prelude.{slice_get}
use Rattle.std.specs.List.{list_all, list_any}
use Rattle.std.proofs.lemmas.Bool.{and_parts, and_from}
use Rattle.std.proofs.lemmas.List.{take_more, drop_more, drop_all, map-append}

-- ---- the item at a loop's turn, before what follows it and behind what came before

pub drop_item : {X : Type 0} (xs : List X) (i : ℕ) (x : X) → i < length xs → x ≡ get_or xs i x → drop i xs ≡ x ∷ drop (i + 1) xs
drop_item xs i x l e = drop_more xs i x l ∙ ap (λ y. y ∷ drop (i + 1) xs) (sym e)

pub take_item : {X : Type 0} (xs : List X) (i : ℕ) (x : X) → i < length xs → x ≡ get_or xs i x → take (i + 1) xs ≡ take i xs ++ x ∷ []
take_item xs i x l e = take_more xs i x l ∙ ap (λ y. take i xs ++ y ∷ []) (sym e)

-- one item more, seen from both sides
pub map_push : {A B C : Type 0} (f : A → C) (g : B → C) (xs new : List A) (a : A) (bs : List B) (i : ℕ) (b : B) → i < length bs → b ≡ get_or bs i b → new ≡ xs ++ a ∷ [] → map f xs ≡ map g (take i bs) → f a ≡ g b → map f new ≡ map g (take (i + 1) bs)
map_push f g xs new a bs i b l e n h k =
    ap (map f) n ∙ map-append f xs (a ∷ []) ∙ ap (λ cs. cs ++ f a ∷ []) h ∙ ap (λ c. map g (take i bs) ++ c ∷ []) k ∙ sym (map-append g (take i bs) (b ∷ [])) ∙ ap (map g) (sym (take_item bs i b l e))

-- ---- items in their places

-- the item that stands in a place within the list
pub item_there : {X : Type 0} (xs : List X) (i : ℕ) → i < length xs → (x : X) × (slice_get xs i ≡ Some x)
item_there [] i l = absurd (omega arith)
item_there (x ∷ xs) zero l = (x, refl)
item_there (x ∷ xs) (suc i) l = item_there xs i (omega arith)

-- the item at a loop's turn, through a view
pub at_map : {X Y : Type 0} (v : X → Y) (xs : List X) (i : ℕ) (x : X) → i < length xs → x ≡ get_or xs i x → slice_get (map v xs) i ≡ Some (v x)
at_map v [] i x l e = absurd (omega arith)
at_map v (y ∷ ys) zero x l e = ap (λ z. Some (v z)) (sym e)
at_map v (y ∷ ys) (suc i) x l e = at_map v ys i x (omega arith) e

-- an item's image stands where the item does
pub image_at : {X Y : Type 0} (f : X → Y) (xs : List X) (i : ℕ) (x : X) → slice_get xs i ≡ Some x → slice_get (map f xs) i ≡ Some (f x)
image_at f [] i x e = absurd (cc)
image_at f (y ∷ ys) zero x e = let q : y ≡ x = cc in ap (λ z. Some (f z)) q
image_at f (y ∷ ys) (suc i) x e = image_at f ys i x e

-- the item behind an image
pub get_map : {X Y : Type 0} (f : X → Y) (xs : List X) (i : ℕ) (y : Y) → slice_get (map f xs) i ≡ Some y → (x : X) × (slice_get xs i ≡ Some x) × (f x ≡ y)
get_map f [] i y e = absurd (cc)
get_map f (x ∷ xs) zero y e = let q : f x ≡ y = cc in (x, refl, q)
get_map f (x ∷ xs) (suc i) y e = get_map f xs i y e

-- an item stays in its place when others are put last, and the one put last stands there
pub get_append : {X : Type 0} (xs ys : List X) (i : ℕ) (x : X) → slice_get xs i ≡ Some x → slice_get (xs ++ ys) i ≡ Some x
get_append [] ys i x e = absurd (cc)
get_append (y ∷ xs) ys zero x e = e
get_append (y ∷ xs) ys (suc i) x e = get_append xs ys i x e

pub get_last : {X : Type 0} (xs : List X) (x : X) → slice_get (xs ++ x ∷ []) (length xs) ≡ Some x
get_last [] x = refl
get_last (y ∷ xs) x = get_last xs x

-- ---- tests that items pass

-- each item of a list that passes a test passes it
pub all_at : {X : Type 0} (p : X → Bool) (xs : List X) (i : ℕ) (x : X) → list_all p xs ≡ true → slice_get xs i ≡ Some x → p x ≡ true
all_at p [] i x h e = absurd (cc)
all_at p (y ∷ ys) zero x h e = let q : y ≡ x = cc in subst (λ z. p z ≡ true) q (and_parts (p y) (list_all p ys) h).0
all_at p (y ∷ ys) (suc i) x h e = all_at p ys i x (and_parts (p y) (list_all p ys) h).1 e

-- so does the item at a loop's turn, through a view
pub passes_at : {X Y : Type 0} (p : Y → Bool) (f : X → Y) (xs : List X) (i : ℕ) (x : X) → list_all p (map f xs) ≡ true → i < length xs → x ≡ get_or xs i x → p (f x) ≡ true
passes_at p f xs i x h l e = all_at p (map f xs) i (f x) h (at_map f xs i x l e)

-- what all items pass, they pass where it is weaker
pub all_weaker : {X : Type 0} (p q : X → Bool) → ((x : X) → p x ≡ true → q x ≡ true) → (xs : List X) → list_all p xs ≡ true → list_all q xs ≡ true
all_weaker p q each [] h = refl
all_weaker p q each (x ∷ xs) h =
    let k = and_parts (p x) (list_all p xs) h in
    and_from (q x) (list_all q xs) (each x k.0) (all_weaker p q each xs k.1)

-- a test that not all items pass fails at some
pub fails_at : {X : Type 0} (p : X → Bool) (xs : List X) → list_all p xs ≡ false → (x : X) × (i : ℕ) × (slice_get xs i ≡ Some x) × (p x ≡ false)
fails_at p [] h = absurd (cc)
fails_at {X = X} p (x ∷ xs) h = split (p x) refl (λ k. fails_at p xs k) h
  where
    split : (b : Bool) → p x ≡ b → (list_all p xs ≡ false → (y : X) × (i : ℕ) × (slice_get xs i ≡ Some y) × (p y ≡ false)) → b && list_all p xs ≡ false → (y : X) × (i : ℕ) × (slice_get (x ∷ xs) i ≡ Some y) × (p y ≡ false)
    split false e later g = (x, 0, refl, e)
    split true e later g = let r = later g in (r.0, suc r.1, r.2, r.3)

-- a test that some item passes passes at one
pub some_at : {X : Type 0} (p : X → Bool) (xs : List X) → list_any p xs ≡ true → (x : X) × (i : ℕ) × (slice_get xs i ≡ Some x) × (p x ≡ true)
some_at p [] h = absurd (cc)
some_at {X = X} p (x ∷ xs) h = split (p x) refl (λ k. some_at p xs k) h
  where
    split : (b : Bool) → p x ≡ b → (list_any p xs ≡ true → (y : X) × (i : ℕ) × (slice_get xs i ≡ Some y) × (p y ≡ true)) → (b || list_any p xs) ≡ true → (y : X) × (i : ℕ) × (slice_get (x ∷ xs) i ≡ Some y) × (p y ≡ true)
    split true e later g = (x, 0, refl, e)
    split false e later g = let r = later g in (r.0, suc r.1, r.2, r.3)

-- where a search finds an item, and that it passes the test
pub find_at : {X : Type 0} (p : X → Bool) (xs : List X) (x : X) → find p xs ≡ Some x → (i : ℕ) × (slice_get xs i ≡ Some x) × (p x ≡ true)
find_at p [] x h = absurd (cc)
find_at {X = X} p (y ∷ ys) x h = split (p y) refl (λ k. find_at p ys x k) h
  where
    split : (b : Bool) → p y ≡ b → (find p ys ≡ Some x → (i : ℕ) × (slice_get ys i ≡ Some x) × (p x ≡ true)) → cond b (Some y) (find p ys) ≡ Some x → (i : ℕ) × (slice_get (y ∷ ys) i ≡ Some x) × (p x ≡ true)
    split true e later g = let q : y ≡ x = cc in (0, g, subst (λ z. p z ≡ true) q e)
    split false e later g = let r = later g in (suc r.0, r.1, r.2)

-- the item that a search finds passes its test, and each test that all items pass
pub find_both : {X : Type 0} (p q : X → Bool) (xs : List X) (x : X) → find p xs ≡ Some x → list_all q xs ≡ true → (p x ≡ true) × (q x ≡ true)
find_both p q xs x e h = let r = find_at p xs x e in (r.2, all_at q xs r.0 x h r.1)

-- a loop over tests, by what is left of them: where one fails, where it goes on past an item that passes, and its end
pub all_fails : {X Y : Type 0} (p : Y → Bool) (v : X → Y) (xs ys : List X) (i : ℕ) (x : X) (b : Bool) → ys ≡ xs → i < length ys → x ≡ get_or ys i x → list_all p (map v (drop i xs)) ≡ b → p (v x) ≡ false → b ≡ false
all_fails p v xs ys i x b q l e h k =
    sym h ∙ ap (λ zs. list_all p (map v (drop i zs))) (sym q) ∙ ap (λ zs. list_all p (map v zs)) (drop_item ys i x l e) ∙ ap (λ c. c && list_all p (map v (drop (i + 1) ys))) k

pub all_goes_on : {X Y : Type 0} (p : Y → Bool) (v : X → Y) (xs ys : List X) (i : ℕ) (x : X) (b : Bool) → ys ≡ xs → i < length ys → x ≡ get_or ys i x → list_all p (map v (drop i xs)) ≡ b → p (v x) ≡ true → list_all p (map v (drop (i + 1) xs)) ≡ b
all_goes_on p v xs ys i x b q l e h k =
    ap (λ zs. list_all p (map v (drop (i + 1) zs))) (sym q) ∙ sym (ap (λ c. c && list_all p (map v (drop (i + 1) ys))) k) ∙ sym (ap (λ zs. list_all p (map v zs)) (drop_item ys i x l e))
    ∙ ap (λ zs. list_all p (map v (drop i zs))) q ∙ h

pub all_done : {X Y : Type 0} (p : Y → Bool) (v : X → Y) (xs ys : List X) (i : ℕ) (b : Bool) → ys ≡ xs → length ys ≤ i → list_all p (map v (drop i xs)) ≡ b → b ≡ true
all_done p v xs ys i b q l h =
    sym h ∙ ap (λ zs. list_all p (map v (drop i zs))) (sym q) ∙ ap (λ zs. list_all p (map v zs)) (drop_all i ys l)
