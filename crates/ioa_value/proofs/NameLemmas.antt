-- Lists of names: whether one has a name, and whether none stands twice.
use Rattle.std.proofs.Common.{◌≡◌, arith, ℕ, zero, suc, ◌+◌, Bool, true, false, not, ◌&&◌, ◌||◌, List, [], ◌∷◌, ◌++◌, length, Some, None, cond, All, refl, sym, ap, subst, ◌∙◌}
use Rattle.std.specs.Prelude.{slice_get}
use Rattle.std.specs.Option.{option_or}
use Rattle.std.specs.Str.{bytes_eq}
use Rattle.std.proofs.lemmas.Bool.{or_left, or_right, and_left, and_right, and_parts, not_from_true, false≢true, or_parts}
use Rattle.std.proofs.lemmas.Bool.Decides.{same_from_decides, Decides-like}
use Rattle.std.proofs.lemmas.List.Folds.{list_any-append, list_all-append}
use Rattle.std.proofs.lemmas.List.Elements.{All-head, All-tail}
use Rattle.std.proofs.lemmas.Slice.Eq.{bytes_eq-Decides}
use Rattle.ioa_value.specs.Actions.{Name}
use Rattle.ioa_value.specs.Table.{contains, distinct, apart, place_from}

pub bytes_eq-sym : (xs ys : List ℕ) → bytes_eq xs ys ≡ bytes_eq ys xs
bytes_eq-sym xs ys =
    same_from_decides (bytes_eq xs ys) (bytes_eq ys xs) (bytes_eq-Decides xs ys) (Decides-like (bytes_eq ys xs) sym sym (bytes_eq-Decides ys xs))

-- a name that stands a second time
pub distinct-again : (xs : List (List ℕ)) (x : List ℕ) (ys : List (List ℕ)) → contains xs x ≡ true → distinct (xs ++ x ∷ ys) ≡ false
distinct-again [] x ys h = absurd (cc)
distinct-again (n ∷ ns) x ys h = split (bytes_eq n x) refl h (distinct-again ns x ys)
  where
    split : (b : Bool) → bytes_eq n x ≡ b → (b || contains ns x) ≡ true → (contains ns x ≡ true → distinct (ns ++ x ∷ ys) ≡ false) → (not (contains (ns ++ x ∷ ys) n) && distinct (ns ++ x ∷ ys)) ≡ false
    split true e g later =
        let here : contains (ns ++ x ∷ ys) n ≡ true = list_any-append (λ m. bytes_eq m n) ns (x ∷ ys) ∙ or_right _ _ (or_left _ _ (bytes_eq-sym x n ∙ e)) in
        and_left _ _ (not_from_true _ here)
    split false e g later = and_right _ _ (later g)

-- no name is one of two lists' in a row
contains-append : (xs ys : List (List ℕ)) (x : List ℕ) → contains (xs ++ ys) x ≡ (contains xs x || contains ys x)
contains-append xs ys x = list_any-append (λ n. bytes_eq n x) xs ys

four : (a b c d : Bool) → (not (a || b) && (c && d)) ≡ ((not a && c) && (not b && d))
four true b c d = refl
four false true true d = refl
four false true false d = refl
four false false c d = refl

pub apart-append : (xs ys zs : List (List ℕ)) → apart xs (ys ++ zs) ≡ (apart xs ys && apart xs zs)
apart-append [] ys zs = refl
apart-append (x ∷ xs) ys zs =
    ap (λ b. not b && apart xs (ys ++ zs)) (contains-append ys zs x) ∙ ap (λ b. not (contains ys x || contains zs x) && b) (apart-append xs ys zs)
    ∙ four (contains ys x) (contains zs x) (apart xs ys) (apart xs zs)

pub append-apart : (xs ys zs : List (List ℕ)) → apart (xs ++ ys) zs ≡ (apart xs zs && apart ys zs)
append-apart xs ys zs = list_all-append (λ n. not (contains zs n)) xs ys

apart-one : (x : List ℕ) (xs ys : List (List ℕ)) → apart ys (x ∷ xs) ≡ (not (contains ys x) && apart ys xs)
apart-one x xs [] = refl
apart-one x xs (y ∷ ys) =
    ap (λ b. not (b || contains xs y) && apart ys (x ∷ xs)) (bytes_eq-sym x y) ∙ ap (λ b. not (bytes_eq y x || contains xs y) && b) (apart-one x xs ys)
    ∙ four' (bytes_eq y x) (contains xs y) (contains ys x) (apart ys xs)
  where
    four' : (a b c d : Bool) → (not (a || b) && (not c && d)) ≡ (not (a || c) && (not b && d))
    four' true b c d = refl
    four' false true true d = refl
    four' false true false d = refl
    four' false false c d = refl

pub distinct-append : (xs ys : List (List ℕ)) → distinct (xs ++ ys) ≡ (distinct xs && (distinct ys && apart ys xs))
distinct-append [] ys = none ys
  where
    all : (ys : List (List ℕ)) → apart ys [] ≡ true
    all [] = refl
    all (y ∷ ys) = all ys

    right : (b : Bool) → b ≡ (b && true)
    right true = refl
    right false = refl

    none : (ys : List (List ℕ)) → distinct ys ≡ (distinct ys && apart ys [])
    none ys = right (distinct ys) ∙ ap (λ b. distinct ys && b) (sym (all ys))
distinct-append (x ∷ xs) ys =
    ap (λ b. not b && distinct (xs ++ ys)) (contains-append xs ys x) ∙ ap (λ b. not (contains xs x || contains ys x) && b) (distinct-append xs ys)
    ∙ mixed (contains xs x) (contains ys x) (distinct xs) (distinct ys) (apart ys xs) ∙ ap (λ b. (not (contains xs x) && distinct xs) && (distinct ys && b)) (sym (apart-one x xs ys))
  where
    mixed : (a b c d e : Bool) → (not (a || b) && (c && (d && e))) ≡ ((not a && c) && (d && (not b && e)))
    mixed true b c d e = refl
    mixed false true true true e = refl
    mixed false true true false e = refl
    mixed false true false d e = refl
    mixed false false c d e = refl

pub ruleset joins = (distinct-append, apart-append, append-apart)

-- ---- where a name stands

pub same_name : (n x : Name) → bytes_eq n x ≡ true → n ≡ x
same_name n x e = (bytes_eq-Decides n x).0 e

pub own_name : (x : Name) → bytes_eq x x ≡ true
own_name x = (bytes_eq-Decides x x).1 refl

pub not_true : (b : Bool) → not b ≡ true → b ≡ false
not_true true h = absurd (cc)
not_true false h = refl

pub outside_both : (ms bs : List Name) (x : Name) → contains (ms ++ bs) x ≡ false → (contains ms x ≡ false) × (contains bs x ≡ false)
outside_both ms bs x h = or_parts (contains ms x) (contains bs x) (sym (contains-append ms bs x) ∙ h)

pub inside_left : (ms bs : List Name) (x : Name) → contains ms x ≡ true → contains (ms ++ bs) x ≡ true
inside_left ms bs x h = contains-append ms bs x ∙ or_left (contains ms x) (contains bs x) h

pub inside_right : (ms bs : List Name) (x : Name) → contains bs x ≡ true → contains (ms ++ bs) x ≡ true
inside_right ms bs x h = contains-append ms bs x ∙ or_right (contains ms x) (contains bs x) h

-- names that are distinct are in one of two parts
pub distinct_apart : (ms bs : List Name) (x : Name) → distinct (ms ++ bs) ≡ true → contains ms x ≡ true → contains bs x ≡ false
distinct_apart [] bs x h e = absurd (cc)
distinct_apart (n ∷ ms) bs x h e =
    let parts = and_parts (not (contains (ms ++ bs) n)) (distinct (ms ++ bs)) h in
    go (bytes_eq n x) refl e (not_true (contains (ms ++ bs) n) parts.0) (distinct_apart ms bs x parts.1)
  where
    go : (b : Bool) → bytes_eq n x ≡ b → (b || contains ms x) ≡ true → contains (ms ++ bs) n ≡ false → (contains ms x ≡ true → contains bs x ≡ false) → contains bs x ≡ false
    go true t e h r = (outside_both ms bs x (subst (λ (y : Name). contains (ms ++ bs) y ≡ false) (same_name n x t) h)).1
    go false t e h r = r e

pub apart_outside : (ns ms : List Name) (x : Name) → apart ns ms ≡ true → contains ns x ≡ true → contains ms x ≡ false
apart_outside [] ms x h e = absurd (cc)
apart_outside (n ∷ ns) ms x h e =
    let parts = and_parts (not (contains ms n)) (apart ns ms) h in
    go (bytes_eq n x) refl e (not_true (contains ms n) parts.0) (apart_outside ns ms x parts.1)
  where
    go : (b : Bool) → bytes_eq n x ≡ b → (b || contains ns x) ≡ true → contains ms n ≡ false → (contains ns x ≡ true → contains ms x ≡ false) → contains ms x ≡ false
    go true t e h r = subst (λ (y : Name). contains ms y ≡ false) (same_name n x t) h
    go false t e h r = r e

-- what holds of all names holds of one among them
pub inside_all : (P : Name → Type 0) (ns : List Name) (x : Name) → All P ns → contains ns x ≡ true → P x
inside_all P [] x h e = absurd (cc)
inside_all P (n ∷ ns) x h e = go (bytes_eq n x) refl e (inside_all P ns x (All-tail P n ns h))
  where
    go : (b : Bool) → bytes_eq n x ≡ b → (b || contains ns x) ≡ true → (contains ns x ≡ true → P x) → P x
    go true t e r = subst P (same_name n x t) (All-head P n ns h)
    go false t e r = r e

-- a name that is in no place is not found
pub place_outside : (i : ℕ) (ns : List Name) (x : Name) → contains ns x ≡ false → place_from i ns x ≡ None
place_outside i [] x h = refl
place_outside i (n ∷ ns) x h =
    let p = or_parts (bytes_eq n x) (contains ns x) h in
    rw p.0 (place_outside (i + 1) ns x p.1)

-- the place that is found is a place of the name
pub place_is : (i : ℕ) (ns : List Name) (x : Name) (k : ℕ) → place_from i ns x ≡ Some k → (n : ℕ) × (k ≡ i + n) × (slice_get ns n ≡ Some x)
place_is i [] x k e = absurd (cc)
place_is i (n ∷ ns) x k e = go (bytes_eq n x) refl e (place_is (i + 1) ns x k)
  where
    go : (b : Bool) → bytes_eq n x ≡ b → cond b (Some i) (place_from (i + 1) ns x) ≡ Some k → (place_from (i + 1) ns x ≡ Some k → (m : ℕ) × (k ≡ i + 1 + m) × (slice_get ns m ≡ Some x)) → (m : ℕ) × (k ≡ i + m) × (slice_get (n ∷ ns) m ≡ Some x)
    go true t e r = let same : i ≡ k = cc in (0, omega (arith, same), ap Some (same_name n x t))
    go false t e r = let s = r e in (suc s.0, omega (arith, s.1), s.2)

-- an item of a list is contained
pub item_inside : (ns : List Name) (n : ℕ) (x : Name) → slice_get ns n ≡ Some x → contains ns x ≡ true
item_inside [] n x e = absurd (cc)
item_inside (m ∷ ns) zero x e =
    let same : m ≡ x = cc in
    or_left (bytes_eq m x) (contains ns x) (subst (λ (y : Name). bytes_eq m y ≡ true) same (own_name m))
item_inside (m ∷ ns) (suc n) x e = or_right (bytes_eq m x) (contains ns x) (item_inside ns n x e)

pub place_inside : (i : ℕ) (ns : List Name) (x : Name) (k : ℕ) → place_from i ns x ≡ Some k → contains ns x ≡ true
place_inside i ns x k e = let p = place_is i ns x k e in item_inside ns p.0 x p.2

-- a place of a name is found, where no name stands twice
pub place_there : (i : ℕ) (ns : List Name) (n : ℕ) (x : Name) → distinct ns ≡ true → slice_get ns n ≡ Some x → place_from i ns x ≡ Some (i + n)
place_there i [] n x d e = absurd (cc)
place_there i (m ∷ ns) zero x d e =
    let same : m ≡ x = cc in
    let t : bytes_eq m x ≡ true = subst (λ (y : Name). bytes_eq m y ≡ true) same (own_name m) in
    let k : i ≡ i + 0 = omega arith in
    rw t (ap Some k)
place_there i (m ∷ ns) (suc n) x d e =
    let p = and_parts (not (contains ns m)) (distinct ns) d in
    let absent : contains ns m ≡ false = not_true (contains ns m) p.0 in
    let inside = item_inside ns n x e in
    let k : i + 1 + n ≡ i + suc n = omega arith in
    go (bytes_eq m x) refl absent inside (place_there (i + 1) ns n x p.1 e ∙ ap Some k)
  where
    go : (b : Bool) → bytes_eq m x ≡ b → contains ns m ≡ false → contains ns x ≡ true → place_from (i + 1) ns x ≡ Some (i + suc n) → cond b (Some i) (place_from (i + 1) ns x) ≡ Some (i + suc n)
    go true t absent inside r = absurd (false≢true (sym absent ∙ (ap (contains ns) (same_name m x t) ∙ inside)))
    go false t absent inside r = r

-- one more name behind
pub place_last : (i : ℕ) (ns : List Name) (m x : Name) → place_from i (ns ++ m ∷ []) x ≡ option_or (place_from i ns x) (cond (bytes_eq m x) (Some (i + length ns)) None)
place_last i [] m x = let k : i ≡ i + 0 = omega arith in ap (λ j. cond (bytes_eq m x) (Some j) None) k
place_last i (n ∷ ns) m x =
    let k : i + 1 + length ns ≡ i + length (n ∷ ns) = omega arith in
    go (bytes_eq n x) (place_last (i + 1) ns m x ∙ ap (λ j. option_or (place_from (i + 1) ns x) (cond (bytes_eq m x) (Some j) None)) k)
  where
    go : (b : Bool) → place_from (i + 1) (ns ++ m ∷ []) x ≡ option_or (place_from (i + 1) ns x) (cond (bytes_eq m x) (Some (i + length (n ∷ ns))) None)
        → cond b (Some i) (place_from (i + 1) (ns ++ m ∷ []) x) ≡ option_or (cond b (Some i) (place_from (i + 1) ns x)) (cond (bytes_eq m x) (Some (i + length (n ∷ ns))) None)
    go true r = refl
    go false r = r

-- the same, counted from 0
pub first_there : (ns : List Name) (n : ℕ) (x : Name) → distinct ns ≡ true → slice_get ns n ≡ Some x → place_from 0 ns x ≡ Some n
first_there ns n x d e = let k : 0 + n ≡ n = omega arith in place_there 0 ns n x d e ∙ ap Some k

pub first_last : (ns : List Name) (m x : Name) → place_from 0 (ns ++ m ∷ []) x ≡ option_or (place_from 0 ns x) (cond (bytes_eq m x) (Some (length ns)) None)
first_last ns m x =
    let k : 0 + length ns ≡ length ns = omega arith in
    place_last 0 ns m x ∙ ap (λ j. option_or (place_from 0 ns x) (cond (bytes_eq m x) (Some j) None)) k
