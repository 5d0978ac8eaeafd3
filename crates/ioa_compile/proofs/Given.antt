-- Names that types give, and tables that are given.
use Rattle.std.proofs.Common.{◌≡◌, ℕ, ◌+◌, Bool, true, false, ◌||◌, ◌↔◌, ◌<◌, cond, List, [], ◌∷◌, map, drop, length, get_or, Option, Some, None, is_some, refl, sym, ap, subst, ◌∙◌}
use Rattle.std.specs.Option.{option_map, option_or}
use Rattle.std.specs.Str.{bytes_eq}
use Rattle.std.proofs.lemmas.List.Concat.{flat_map-cons}
use Rattle.std.proofs.lemmas.Simd.{map-map}
use Rattle.ioa_value.specs.Actions.{Name}
use Rattle.ioa_value.proofs.ItemLemmas.{drop_item}
use Rattle.ioa_value.specs.Table.{Table, contains, names_in, given_names, all_names, place_from, type_named, constant_from, constant_named}
use Rattle.ioa_compile.specs.Tables.{AreFew}
use Rattle.std.proofs.lemmas.List.Folds.{list_any-append}

-- a name has a place among names exactly where it is one of them
has_place : (i : ℕ) (ns : List Name) (x : Name) → is_some (place_from i ns x) ≡ contains ns x
has_place i [] x = refl
has_place i (n ∷ ns) x = go (bytes_eq n x) (has_place (i + 1) ns x)
  where
    go : (b : Bool) → is_some (place_from (i + 1) ns x) ≡ contains ns x → is_some (cond b (Some i) (place_from (i + 1) ns x)) ≡ (b || contains ns x)
    go true later = refl
    go false later = later

mapped : {A B : Type 0} (f : A → B) (o : Option A) → is_some (option_map f o) ≡ is_some o
mapped f (Some x) = refl
mapped f None = refl

either : {A : Type 0} (o p : Option A) → is_some (option_or o p) ≡ (is_some o || is_some p)
either (Some x) p = refl
either None p = refl

reordered : (a b c d : Bool) → ((a || c) || (b || d)) ≡ ((a || b) || (c || d))
reordered true b c d = refl
reordered false true true d = refl
reordered false true false d = refl
reordered false false c d = refl

-- a name that types give is a type's or an enumeration's
given : (i j : ℕ) (types : Table) (x : Name) → (is_some (place_from i (map (λ d. d.name) types) x) || is_some (constant_from j types x)) ≡ contains (all_names types) x
given i j [] x = refl
given i j (d ∷ ds) x =
    ap (λ b. b || is_some (constant_from j (d ∷ ds) x)) (has_place i (d.name ∷ map (λ d. d.name) ds) x)
    ∙ ap (λ b. (bytes_eq d.name x || contains (map (λ d. d.name) ds) x) || b)
    (either (option_map (λ n. (j, n)) (place_from 0 (names_in d.shape) x)) (constant_from (j + 1) ds x)
    ∙ ap (λ b. b || is_some (constant_from (j + 1) ds x)) (mapped (λ n. (j, n)) (place_from 0 (names_in d.shape) x) ∙ has_place 0 (names_in d.shape) x))
    ∙ reordered (bytes_eq d.name x) (contains (names_in d.shape) x) (contains (map (λ d. d.name) ds) x) (is_some (constant_from (j + 1) ds x))
    ∙ ap (λ b. (bytes_eq d.name x || contains (names_in d.shape) x) || b)
    (ap (λ b. b || is_some (constant_from (j + 1) ds x)) (sym (has_place i (map (λ d. d.name) ds) x)) ∙ given i (j + 1) ds x)
    ∙ sym (list_any-append (λ n. bytes_eq n x) (given_names d) (all_names ds))
    ∙ ap (λ l. contains l x) (sym (flat_map-cons given_names d ds))

pub is_given : (types : Table) (x : Name) → (is_some (type_named types x) || is_some (constant_named types x)) ≡ contains (all_names types) x
is_given types x = given 0 0 types x

-- what is found is there in other words too
pub found : {A B : Type 0} (f : A → B) (o : Option A) (p : Option B) → option_map f o ≡ p → is_some p ≡ is_some o
found f o p h = ap is_some (sym h) ∙ mapped f o

-- ---- what does not hold of one of some items does not hold of all

pub one_fails : {X Y : Type 0} (view : X → Y) (P : Y → Type 0) (Each : List Y → Type 0) → ((y : Y) (ys : List Y) → Each (y ∷ ys) → P y) → (xs : List X) (i : ℕ) (x : X) → i < length xs → x ≡ get_or xs i x
    → (Each (map view (drop i xs)) ↔ Each (map view xs)) → (P (view x) → ⊥) → Each (map view xs) → ⊥
one_fails view P Each first xs i x less is h p all =
    p (first (view x) (map view (drop (i + 1) xs)) (subst Each (ap (map view) (drop_item xs i x less is)) (h.1 all)))

-- ---- names of things, seen in two ways

-- they are few in one way as in the other
pub few_seen : {X Y : Type 0} (view : X → Y) (name : Y → Name) (most : ℕ) (xs : List X) → AreFew most (map (λ x. name (view x)) xs) ↔ AreFew most (map name (map view xs))
few_seen view name most xs =
    let same = map-map name view xs in
    (λ h. subst (AreFew most) (sym same) h, λ h. subst (AreFew most) same h)
