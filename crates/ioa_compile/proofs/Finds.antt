-- Items of a list that pass a test.
use Rattle.std.proofs.Common.{◌≡◌, ℕ, zero, suc, ◌<◌, Bool, true, false, cond, not, ◌||◌, IsTrue, List, [], ◌∷◌, length, map, Option, Some, refl, sym, ap, ◌∙◌, subst, arith}
use Rattle.std.specs.Prelude.{slice_get}
use Rattle.std.specs.List.{find, filter}
use Rattle.std.specs.Str.{bytes_eq}
use Rattle.ioa_value.specs.Actions.{Name}
use Rattle.ioa_tree.specs.WellFormed.{contains, distinct}
use Rattle.ioa_compile.proofs.Looks.{name_same, not_true}
use Rattle.std.proofs.lemmas.Bool.{and_parts}

-- the first item that passes
pub record IsFirst {X : Type 0} (p : X → Bool) (xs : List X) (o : Option X) : Type 0 where
  pub item : X
  pub place : ℕ
  pub found : o ≡ Some item
  pub here : slice_get xs place ≡ Some item
  pub passes : p item ≡ true

pub finds : {X : Type 0} (p q : X → Bool) → ((x : X) → q x ≡ true → p x ≡ true) → (xs : List X) → 0 < length (filter q xs) → IsFirst p xs (find p xs)
finds p q k [] h = absurd (omega (arith, h))
finds {X} p q k (x ∷ xs) h = go (p x) refl (q x) refl h (finds p q k xs)
  where
    go : (b : Bool) → p x ≡ b → (c : Bool) → q x ≡ c → 0 < length (cond c (x ∷ filter q xs) (filter q xs)) → (0 < length (filter q xs) → IsFirst p xs (find p xs)) → IsFirst p (x ∷ xs) (cond b (Some x) (find p xs))
    go true t c u h r = record { item = x; place = 0; found = refl; here = refl; passes = t }
    go false t true u h r = let yes = k x u in absurd (cc)
    go false t false u h r = let s = r h in record { item = s.item; place = suc s.place; found = s.found; here = s.here; passes = s.passes }

pub contains_at : {X : Type 0} (name : X → Name) (xs : List X) (k : ℕ) (y : X) → slice_get xs k ≡ Some y → contains (map name xs) (name y) ≡ true
contains_at name [] k y e = absurd (cc)
contains_at name (x ∷ xs) zero y e =
    let same : x ≡ y = cc in
    ap (λ b. b || contains (map name xs) (name y)) (name_same (name x) (name y) (ap name same))
contains_at name (x ∷ xs) (suc k) y e = go (bytes_eq (name x) (name y)) (contains_at name xs k y e)
  where
    go : (b : Bool) → contains (map name xs) (name y) ≡ true → (b || contains (map name xs) (name y)) ≡ true
    go true h = refl
    go false h = h

-- items of one name are one, where the names are distinct
pub same_item : {X : Type 0} (name : X → Name) (xs : List X) (i k : ℕ) (x y : X) → IsTrue (distinct (map name xs)) → slice_get xs i ≡ Some x → slice_get xs k ≡ Some y → name x ≡ name y → x ≡ y
same_item name [] i k x y h e f g = absurd (cc)
same_item name (z ∷ zs) zero zero x y h e f g = cc
same_item name (z ∷ zs) zero (suc k) x y h e f g =
    let parts = and_parts (not (contains (map name zs) (name z))) (distinct (map name zs)) h in
    let no = not_true (contains (map name zs) (name z)) parts.0 in
    let same : z ≡ x = cc in
    let there = subst (λ n. contains (map name zs) n ≡ true) (sym g ∙ sym (ap name same)) (contains_at name zs k y f) in
    absurd (cc)
same_item name (z ∷ zs) (suc i) zero x y h e f g =
    let parts = and_parts (not (contains (map name zs) (name z))) (distinct (map name zs)) h in
    let no = not_true (contains (map name zs) (name z)) parts.0 in
    let same : z ≡ y = cc in
    let there = subst (λ n. contains (map name zs) n ≡ true) (g ∙ sym (ap name same)) (contains_at name zs i x e) in
    absurd (cc)
same_item name (z ∷ zs) (suc i) (suc k) x y h e f g =
    same_item name zs i k x y (and_parts (not (contains (map name zs) (name z))) (distinct (map name zs)) h).1 e f g
