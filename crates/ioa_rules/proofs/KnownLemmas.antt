-- Look-ups among the first types of a table: what the whole table's look-up finds, if it is one of the first.
use Rattle.std.proofs.Common.{◌≡◌, ℕ, zero, suc, ◌+◌, ◌<◌, ◌≤◌, Bool, true, false, cond, List, [], ◌∷◌, map, take, Option, Some, None, option_and_then, arith, refl, sym, ap, ◌∙◌}
use Rattle.std.specs.Prelude.{slice_get, nat_lt}
use Rattle.std.specs.Option.{option_map, option_or}
use Rattle.std.specs.Str.{bytes_eq}
use Rattle.std.proofs.lemmas.Bool.Decides.{nat_tests}
use Rattle.std.proofs.lemmas.List.{take-map}
use Rattle.ioa_value.specs.declared.value.Ty.{Ty}
use Rattle.ioa_value.specs.Actions.{Name}
use Rattle.ioa_value.specs.Plain.{number}
use Rattle.ioa_value.specs.Shapes.{place}
use Rattle.ioa_value.specs.Table.{Table, names_in, shape_at, place_from, type_named, constant_from, constant_named}
use Rattle.ioa_value.proofs.PlaceLemmas.{place_from_below}
use Rattle.ioa_tree.specs.Types.{constant_type}
use Rattle.ioa_tree.proofs.Compared.{lt_holds}

not_below : (k m : ℕ) → m ≤ k → nat_lt k m ≡ false
not_below k m h = grind (arith, nat_tests)

-- the number, if it is below
abbrev pub only : ℕ → Option ℕ → Option ℕ
only m o = option_and_then (λ k. cond (nat_lt k m) (Some k) None) o

place_first : (i n : ℕ) (ns : List Name) (x : Name) → place_from i (take n ns) x ≡ only (i + n) (place_from i ns x)
place_first i zero ns x = none (place_from i ns x) refl
  where
    none : (o : Option ℕ) → place_from i ns x ≡ o → None ≡ only (i + 0) o
    none (Some k) e =
        let low = place_from_below i ns x k e in
        sym (ap (λ b. cond b (Some k) None) (not_below k (i + 0) (omega (arith, low.0))))
    none None e = refl
place_first i (suc n) [] x = refl
place_first i (suc n) (y ∷ ys) x = go (bytes_eq y x) (place_first (i + 1) n ys x)
  where
    go : (b : Bool) → place_from (i + 1) (take n ys) x ≡ only (i + 1 + n) (place_from (i + 1) ys x)
        → cond b (Some i) (place_from (i + 1) (take n ys) x) ≡ only (i + suc n) (cond b (Some i) (place_from (i + 1) ys x))
    go true r = sym (ap (λ c. cond c (Some i) None) (lt_holds i (i + suc n) (omega arith)))
    go false r = let same : i + 1 + n ≡ i + suc n = omega arith in r ∙ ap (λ m. only m (place_from (i + 1) ys x)) same

pub type_first : (n : ℕ) (types : Table) (x : Name) → type_named (take n types) x ≡ only n (type_named types x)
type_first n types x =
    let same : 0 + n ≡ n = omega arith in
    ap (λ ns. place_from 0 ns x) (sym (take-map (λ d. d.name) n types)) ∙ place_first 0 n (map (λ d. d.name) types) x
    ∙ ap (λ m. only m (type_named types x)) same

-- what a look-up says of the first so many
pub named-early : (n : ℕ) (types : Table) (x y : Name) (o : Option Ty) (k : Ty) → o ≡ Some k → option_map number o ≡ type_named types y → y ≡ x → k.0 < n
    → Some k.0 ≡ type_named (take n types) x
named-early n types x y o k is found same low =
    let whole : Some k.0 ≡ type_named types x = sym (ap (option_map number) is) ∙ found ∙ ap (type_named types) same in
    sym (type_first n types x ∙ ap (only n) (sym whole) ∙ ap (λ b. cond b (Some k.0) None) (lt_holds k.0 n low))

pub named-late : (n : ℕ) (types : Table) (x y : Name) (o : Option Ty) (k : Ty) → o ≡ Some k → option_map number o ≡ type_named types y → y ≡ x → n ≤ k.0
    → None ≡ type_named (take n types) x
named-late n types x y o k is found same high =
    let whole : Some k.0 ≡ type_named types x = sym (ap (option_map number) is) ∙ found ∙ ap (type_named types) same in
    sym (type_first n types x ∙ ap (only n) (sym whole) ∙ ap (λ b. cond b (Some k.0) None) (not_below k.0 n high))

pub named-none : (n : ℕ) (types : Table) (x y : Name) (o : Option Ty) → o ≡ None → option_map number o ≡ type_named types y → y ≡ x
    → None ≡ type_named (take n types) x
named-none n types x y o is found same =
    let whole : None ≡ type_named types x = sym (ap (option_map number) is) ∙ found ∙ ap (type_named types) same in
    sym (type_first n types x ∙ ap (only n) (sym whole))

-- ---- names of enumerations

abbrev pub only_place : ℕ → Option (ℕ × ℕ) → Option (ℕ × ℕ)
only_place m o = option_and_then (λ p. cond (nat_lt p.0 m) (Some p) None) o

constant_from_on : (i : ℕ) (types : Table) (x : Name) (p : ℕ × ℕ) → constant_from i types x ≡ Some p → i ≤ p.0
constant_from_on i [] x p e = absurd (cc)
constant_from_on i (d ∷ ds) x p e = go (place_from 0 (names_in d.shape) x) e (constant_from_on (i + 1) ds x p)
  where
    go : (o : Option ℕ) → option_or (option_map (λ n. (i, n)) o) (constant_from (i + 1) ds x) ≡ Some p
        → (constant_from (i + 1) ds x ≡ Some p → i + 1 ≤ p.0) → i ≤ p.0
    go (Some n) e r = let same : (i, n) ≡ p = cc in let first : i ≡ p.0 = ap (λ q. q.0) same in omega (arith, first)
    go None e r = omega (arith, r e)

constant_first : (i n : ℕ) (types : Table) (x : Name) → constant_from i (take n types) x ≡ only_place (i + n) (constant_from i types x)
constant_first i zero types x = none (constant_from i types x) refl
  where
    none : (o : Option (ℕ × ℕ)) → constant_from i types x ≡ o → None ≡ only_place (i + 0) o
    none (Some p) e =
        let low = constant_from_on i types x p e in
        sym (ap (λ b. cond b (Some p) None) (not_below p.0 (i + 0) (omega (arith, low))))
    none None e = refl
constant_first i (suc n) [] x = refl
constant_first i (suc n) (d ∷ ds) x = go (place_from 0 (names_in d.shape) x) (constant_first (i + 1) n ds x)
  where
    go : (o : Option ℕ) → constant_from (i + 1) (take n ds) x ≡ only_place (i + 1 + n) (constant_from (i + 1) ds x)
        → option_or (option_map (λ k. (i, k)) o) (constant_from (i + 1) (take n ds) x) ≡ only_place (i + suc n)
        (option_or (option_map (λ k. (i, k)) o) (constant_from (i + 1) ds x))
    go (Some k) r = sym (ap (λ c. cond c (Some (i, k)) None) (lt_holds i (i + suc n) (omega arith)))
    go None r = let same : i + 1 + n ≡ i + suc n = omega arith in r ∙ ap (λ m. only_place m (constant_from (i + 1) ds x)) same

pub enumeration_first : (n : ℕ) (types : Table) (x : Name) → constant_type (take n types) x ≡ option_map (λ p. p.0) (only_place n (constant_named types x))
enumeration_first n types x =
    let same : 0 + n ≡ n = omega arith in
    ap (option_map (λ p. p.0)) (constant_first 0 n types x ∙ ap (λ m. only_place m (constant_named types x)) same)

pub constant-early : (n : ℕ) (types : Table) (x y : Name) (o : Option (Ty × ℕ)) (p : Ty × ℕ) → o ≡ Some p → option_map place o ≡ constant_named types y
    → y ≡ x → p.0.0 < n → Some p.0.0 ≡ constant_type (take n types) x
constant-early n types x y o p is found same low =
    let whole : Some (place p) ≡ constant_named types x = sym (ap (option_map place) is) ∙ found ∙ ap (constant_named types) same in
    sym (enumeration_first n types x ∙ ap (λ c. option_map (λ q. q.0) (only_place n c)) (sym whole)
    ∙ ap (λ b. option_map (λ q. q.0) (cond b (Some (place p)) None)) (lt_holds p.0.0 n low))

pub constant-late : (n : ℕ) (types : Table) (x y : Name) (o : Option (Ty × ℕ)) (p : Ty × ℕ) → o ≡ Some p → option_map place o ≡ constant_named types y
    → y ≡ x → n ≤ p.0.0 → None ≡ constant_type (take n types) x
constant-late n types x y o p is found same high =
    let whole : Some (place p) ≡ constant_named types x = sym (ap (option_map place) is) ∙ found ∙ ap (constant_named types) same in
    sym (enumeration_first n types x ∙ ap (λ c. option_map (λ q. q.0) (only_place n c)) (sym whole)
    ∙ ap (λ b. option_map (λ q. q.0) (cond b (Some (place p)) None)) (not_below p.0.0 n high))

pub constant-none : (n : ℕ) (types : Table) (x y : Name) (o : Option (Ty × ℕ)) → o ≡ None → option_map place o ≡ constant_named types y → y ≡ x
    → None ≡ constant_type (take n types) x
constant-none n types x y o is found same =
    let whole : None ≡ constant_named types x = sym (ap (option_map place) is) ∙ found ∙ ap (constant_named types) same in
    sym (enumeration_first n types x ∙ ap (λ c. option_map (λ q. q.0) (only_place n c)) (sym whole))

-- ---- shapes

item_first : {A : Type 0} (n k : ℕ) (xs : List A) → k < n → slice_get (take n xs) k ≡ slice_get xs k
item_first zero k xs h = absurd (omega (arith, h))
item_first (suc n) k [] h = refl
item_first (suc n) zero (x ∷ xs) h = refl
item_first (suc n) (suc k) (x ∷ xs) h = item_first n k xs (omega (arith, h))

item_past : {A : Type 0} (n k : ℕ) (xs : List A) → n ≤ k → slice_get (take n xs) k ≡ None
item_past zero k xs h = refl
item_past (suc n) k [] h = refl
item_past (suc n) zero (x ∷ xs) h = absurd (omega (arith, h))
item_past (suc n) (suc k) (x ∷ xs) h = item_past n k xs (omega (arith, h))

pub shape_first : (n k : ℕ) (types : Table) → k < n → shape_at (take n types) k ≡ shape_at types k
shape_first n k types h = ap (option_map (λ d. d.shape)) (item_first n k types h)

pub shape_past : (n k : ℕ) (types : Table) → n ≤ k → shape_at (take n types) k ≡ None
shape_past n k types h = ap (option_map (λ d. d.shape)) (item_past n k types h)
