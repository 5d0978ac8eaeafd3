-- What a name stands for in a table of types.
use Rattle.std.proofs.Common.{◌≡◌, ℕ, zero, suc, ◌+◌, ◌<◌, Bool, true, false, not, ◌&&◌, ◌||◌, cond, List, [], ◌∷◌, ◌++◌, map, length, Option, Some, None, IsUtf8, IfSome, String, Vec, take, ◌≤◌, refl, sym, ap, subst, ◌∙◌, arith}
use Rattle.std.specs.Prelude.{slice_get}
use Rattle.std.specs.Option.{option_map, option_or, unwrap_or}
use Rattle.std.specs.Str.{bytes_eq}
use Rattle.std.specs.Global.{Global}
use Rattle.std.specs.BTreeMap.{BTreeMap, get_by_text}
use Rattle.std.proofs.lemmas.Bool.{and_parts, false≢true}
use Rattle.std.proofs.lemmas.List.{map-append, length-map}
use Rattle.std.proofs.lemmas.List.Concat.{flat_map-cons}
use Rattle.std.proofs.lemmas.Option.{slice_get-map, slice_get_within}
use Rattle.ioa_value.specs.declared.value.Ty.{Ty}
use Rattle.ioa_value.specs.declared.types.Form.{Form}
use Rattle.ioa_value.specs.declared.types.Form.TheVariants.{Truths, Numbers, Names, Fields, Sequence}
use Rattle.ioa_value.specs.Plain.{number}
use Rattle.ioa_value.specs.Shapes.{shape, place, FindsTypes, FindsConstants, FindsMore}
use Rattle.ioa_value.specs.Actions.{Name}
use Rattle.ioa_value.specs.Names.{IsName}
use Rattle.ioa_value.specs.Table.{Table, Declaration, type_named, names_in, constant_from, constant_named, given_names, all_names, contains, distinct, apart, place_from, MayFollow, AreTypes}
use Rattle.ioa_value.proofs.NameLemmas.{bytes_eq-sym, not_true, outside_both, inside_left, inside_right, distinct_apart, distinct-append, own_name, same_name, apart_outside, inside_all, item_inside, place_is, place_inside, place_outside, first_there, first_last}
use Rattle.ioa_value.proofs.SpellLemmas.{name_is_text}

-- ---- names of types, and of enumerations, are among all names

all_cons : (d : Declaration) (ds : Table) → all_names (d ∷ ds) ≡ given_names d ++ all_names ds
all_cons d ds = flat_map-cons given_names d ds

given_inside : (types : Table) (k : ℕ) (d : Declaration) (x : Name) → slice_get types k ≡ Some d → contains (given_names d) x ≡ true → contains (all_names types) x ≡ true
given_inside [] k d x e h = absurd (cc)
given_inside (t ∷ ts) zero d x e h =
    let same : t ≡ d = cc in
    ap (λ l. contains l x) (all_cons t ts) ∙ inside_left (given_names t) (all_names ts) x (subst (λ (y : Declaration). contains (given_names y) x ≡ true) (sym same) h)
given_inside (t ∷ ts) (suc k) d x e h =
    ap (λ l. contains l x) (all_cons t ts) ∙ inside_right (given_names t) (all_names ts) x (given_inside ts k d x e h)

own_inside : (d : Declaration) → contains (given_names d) d.name ≡ true
own_inside d = rw (own_name d.name) refl

constant_inside : (d : Declaration) (x : Name) → contains (names_in d.shape) x ≡ true → contains (given_names d) x ≡ true
constant_inside d x h = inside_right (d.name ∷ []) (names_in d.shape) x h

-- the names of the first type are not those of later ones
pub not_given : (ms bs : List Name) (x : Name) → distinct (ms ++ bs) ≡ true → contains bs x ≡ true → contains ms x ≡ false
not_given ms bs x d h = go (contains ms x) refl
  where
    go : (b : Bool) → contains ms x ≡ b → b ≡ false
    go true e = absurd (false≢true (sym (distinct_apart ms bs x d e) ∙ h))
    go false e = refl

-- of a table without repeated names: those of the first type, of the others, and that they are apart
record Split (d : Declaration) (ds : Table) : Type 0 where
  first : distinct (given_names d) ≡ true
  later : distinct (all_names ds) ≡ true
  apart : (x : Name) → contains (all_names ds) x ≡ true → contains (given_names d) x ≡ false
  own : contains (names_in d.shape) d.name ≡ false
  none : contains (all_names ds) d.name ≡ false

split : (d : Declaration) (ds : Table) → distinct (all_names (d ∷ ds)) ≡ true → Split d ds
split d ds h =
    let whole : distinct (given_names d ++ all_names ds) ≡ true = sym (ap distinct (all_cons d ds)) ∙ h in
    let two = and_parts (distinct (given_names d)) _ (sym (distinct-append (given_names d) (all_names ds)) ∙ whole) in
    let more = and_parts (distinct (all_names ds)) _ two.1 in
    let own = and_parts (not (contains (names_in d.shape) d.name)) (distinct (names_in d.shape)) two.0 in
    record {
      first = two.0;
      later = more.0;
      apart = λ x k. not_given (given_names d) (all_names ds) x whole k;
      own = not_true (contains (names_in d.shape) d.name) own.0;
      none = distinct_apart (given_names d) (all_names ds) d.name whole (own_inside d);
    }

-- ---- types

type_names : (types : Table) (x : Name) → contains (map (λ d. d.name) types) x ≡ true → contains (all_names types) x ≡ true
type_names [] x h = absurd (cc)
type_names (d ∷ ds) x h = ap (λ l. contains l x) (all_cons d ds) ∙ go (bytes_eq d.name x) refl h (type_names ds x)
  where
    go : (b : Bool) → bytes_eq d.name x ≡ b → (b || contains (map (λ e. e.name) ds) x) ≡ true → (contains (map (λ e. e.name) ds) x ≡ true → contains (all_names ds) x ≡ true) → contains (given_names d ++ all_names ds) x ≡ true
    go true t e r = inside_left (given_names d) (all_names ds) x (rw t refl)
    go false t e r = inside_right (given_names d) (all_names ds) x (r e)

types_distinct : (types : Table) → distinct (all_names types) ≡ true → distinct (map (λ d. d.name) types) ≡ true
types_distinct [] h = refl
types_distinct (d ∷ ds) h =
    let s = split d ds h in
    go (contains (map (λ e. e.name) ds) d.name) refl s.none (types_distinct ds s.later)
  where
    go : (b : Bool) → contains (map (λ e. e.name) ds) d.name ≡ b → contains (all_names ds) d.name ≡ false → distinct (map (λ e. e.name) ds) ≡ true → (not b && distinct (map (λ e. e.name) ds)) ≡ true
    go true e none r = absurd (false≢true (sym none ∙ type_names ds d.name e))
    go false e none r = r

pub type_there : (types : Table) (k : ℕ) (d : Declaration) → distinct (all_names types) ≡ true → slice_get types k ≡ Some d → type_named types d.name ≡ Some k
type_there types k d h e =
    first_there (map (λ t. t.name) types) k d.name (types_distinct types h) (slice_get-map (λ t. t.name) types k ∙ ap (option_map (λ t. t.name)) e)

-- the type that is found has the name
pub type_is : (types : Table) (x : Name) (k : ℕ) → type_named types x ≡ Some k → (d : Declaration) × (slice_get types k ≡ Some d) × (d.name ≡ x)
type_is types x k e =
    let p = place_is 0 (map (λ t. t.name) types) x k e in
    let here : k ≡ p.0 = omega (arith, p.1) in
    go (slice_get types k) refl (sym (slice_get-map (λ t. t.name) types k) ∙ ap (slice_get (map (λ t. t.name) types)) here ∙ p.2)
  where
    go : (o : Option Declaration) → slice_get types k ≡ o → option_map (λ t. t.name) o ≡ Some x → (d : Declaration) × (slice_get types k ≡ Some d) × (d.name ≡ x)
    go (Some d) at s = let same : d.name ≡ x = cc in (d, at, same)
    go None at s = absurd (cc)

-- ---- names of enumerations

record Stands (types : Table) (i : ℕ) (x : Name) (p : ℕ × ℕ) : Type 0 where
  place : ℕ
  d : Declaration
  number : p.0 ≡ i + place
  there : slice_get types place ≡ Some d
  item : slice_get (names_in d.shape) p.1 ≡ Some x

constant_is : (types : Table) (i : ℕ) (x : Name) (p : ℕ × ℕ) → constant_from i types x ≡ Some p → Stands types i x p
constant_is [] i x p e = absurd (cc)
constant_is (d ∷ ds) i x p e = go (place_from 0 (names_in d.shape) x) refl e (constant_is ds (i + 1) x p)
  where
    go : (o : Option ℕ) → place_from 0 (names_in d.shape) x ≡ o → option_or (option_map (λ n. (i, n)) o) (constant_from (i + 1) ds x) ≡ Some p → (constant_from (i + 1) ds x ≡ Some p → Stands ds (i + 1) x p) → Stands (d ∷ ds) i x p
    go (Some n) at e r =
        let same : (i, n) ≡ p = cc in
        let here = place_is 0 (names_in d.shape) x n at in
        let number : i ≡ p.0 = ap (λ q. q.0) same in
        let place : n ≡ p.1 = ap (λ q. q.1) same in
        let start : here.0 ≡ p.1 = omega (arith, here.1, place) in
        record { place = 0; d = d; number = omega (arith, number); there = refl; item = ap (slice_get (names_in d.shape)) (sym start) ∙ here.2 }
    go None at e r =
        let s = r e in
        record { place = suc s.place; d = s.d; number = omega (arith, s.number); there = s.there; item = s.item }

constant_outside : (types : Table) (i : ℕ) (x : Name) → contains (all_names types) x ≡ false → constant_from i types x ≡ None
constant_outside [] i x h = refl
constant_outside (d ∷ ds) i x h =
    let two = outside_both (given_names d) (all_names ds) x (sym (ap (λ l. contains l x) (all_cons d ds)) ∙ h) in
    let own = outside_both (d.name ∷ []) (names_in d.shape) x two.0 in
    rw (place_outside 0 (names_in d.shape) x own.1) (constant_outside ds (i + 1) x two.1)

-- a name of an enumeration is found in its place
pub constant_there : (types : Table) (i k : ℕ) (d : Declaration) (n : ℕ) (x : Name) → distinct (all_names types) ≡ true → slice_get types k ≡ Some d → slice_get (names_in d.shape) n ≡ Some x → constant_from i types x ≡ Some (i + k, n)
constant_there [] i k d n x h e at = absurd (cc)
constant_there (t ∷ ts) i zero d n x h e at =
    let s = split t ts h in
    let same : t ≡ d = cc in
    let here : slice_get (names_in t.shape) n ≡ Some x = subst (λ (y : Declaration). slice_get (names_in y.shape) n ≡ Some x) (sym same) at in
    let one = and_parts (not (contains (names_in t.shape) t.name)) (distinct (names_in t.shape)) s.first in
    let found : place_from 0 (names_in t.shape) x ≡ Some n = first_there (names_in t.shape) n x one.1 here in
    let number : i ≡ i + 0 = omega arith in
    rw found (ap (λ j. Some (j, n)) number)
constant_there (t ∷ ts) i (suc k) d n x h e at =
    let s = split t ts h in
    let inside = given_inside ts k d x e (constant_inside d x (item_inside (names_in d.shape) n x at)) in
    let own = outside_both (t.name ∷ []) (names_in t.shape) x (s.apart x inside) in
    let number : i + 1 + k ≡ i + suc k = omega arith in
    rw (place_outside 0 (names_in t.shape) x own.1) (constant_there ts (i + 1) k d n x s.later e at ∙ ap (λ j. Some (j, n)) number)

-- a type's name is no name of an enumeration
pub no_constant : (types : Table) (i k : ℕ) (d : Declaration) → distinct (all_names types) ≡ true → slice_get types k ≡ Some d → constant_from i types d.name ≡ None
no_constant [] i k d h e = absurd (cc)
no_constant (t ∷ ts) i zero d h e =
    let s = split t ts h in
    let same : t ≡ d = cc in
    let here : constant_from i (t ∷ ts) t.name ≡ None = rw (place_outside 0 (names_in t.shape) t.name s.own) (constant_outside ts (i + 1) t.name s.none) in
    subst (λ (y : Declaration). constant_from i (t ∷ ts) y.name ≡ None) same here
no_constant (t ∷ ts) i (suc k) d h e =
    let s = split t ts h in
    let inside = given_inside ts k d d.name e (own_inside d) in
    let own = outside_both (t.name ∷ []) (names_in t.shape) d.name (s.apart d.name inside) in
    rw (place_outside 0 (names_in t.shape) d.name own.1) (no_constant ts (i + 1) k d s.later e)

-- ---- in tables of types

module _ (types : Table) (declared : AreTypes types) where
  pub constant_legal : (x : Name) (p : ℕ × ℕ) → constant_named types x ≡ Some p → IsName x
  constant_legal x p e =
      let s = constant_is types 0 x p e in
      inside_all IsName (all_names types) x declared.legal (given_inside types s.place s.d x s.there (constant_inside s.d x (item_inside (names_in s.d.shape) p.1 x s.item)))

  pub type_legal : (x : Name) (k : ℕ) → type_named types x ≡ Some k → IsName x
  type_legal x k e =
      inside_all IsName (all_names types) x declared.legal (type_names types x (place_inside 0 (map (λ t. t.name) types) x k e))

  pub type_name_legal : (k : ℕ) (d : Declaration) → slice_get types k ≡ Some d → IsName d.name
  type_name_legal k d e = type_legal d.name k (type_there types k d declared.different e)

  -- a text that is no name names nothing
  pub unnamed : (x : Name) → (IsName x → ⊥) → (constant_named types x ≡ None) × (type_named types x ≡ None)
  unnamed x illegal = (one (constant_named types x) refl, other (type_named types x) refl)
    where
      one : (o : Option (ℕ × ℕ)) → constant_named types x ≡ o → o ≡ None
      one (Some p) e = absurd (illegal (constant_legal x p e))
      one None e = refl

      other : (o : Option ℕ) → type_named types x ≡ o → o ≡ None
      other (Some k) e = absurd (illegal (type_legal x k e))
      other None e = refl

  -- the enumeration that is found
  pub record Constant (x : Name) (p : ℕ × ℕ) : Type 0 where
    pub d : Declaration
    pub there : slice_get types p.0 ≡ Some d
    pub item : slice_get (names_in d.shape) p.1 ≡ Some x

  pub constant_at : (x : Name) (p : ℕ × ℕ) → constant_named types x ≡ Some p → Constant x p
  constant_at x p e =
      let s = constant_is types 0 x p e in
      let here : s.place ≡ p.0 = omega (arith, s.number) in
      record { d = s.d; there = ap (slice_get types) (sym here) ∙ s.there; item = s.item }

-- ---- one more type

pub named_last : (types : Table) (d : Declaration) (x : Name) → type_named (types ++ d ∷ []) x ≡ option_or (type_named types x) (cond (bytes_eq d.name x) (Some (length types)) None)
named_last types d x =
    let long : length (map (λ t. t.name) types) ≡ length types = simp length-map in
    ap (λ l. place_from 0 l x) (map-append (λ t. t.name) types (d ∷ [])) ∙ first_last (map (λ t. t.name) types) d.name x
    ∙ ap (λ j. option_or (type_named types x) (cond (bytes_eq d.name x) (Some j) None)) long

or_none : {X : Type 0} (o : Option X) → o ≡ option_or o None
or_none (Some x) = refl
or_none None = refl

pub constant_last : (types : Table) (i : ℕ) (d : Declaration) (x : Name) → constant_from i (types ++ d ∷ []) x ≡ option_or (constant_from i types x) (option_map (λ n. (i + length types, n)) (place_from 0 (names_in d.shape) x))
constant_last [] i d x =
    let number : i ≡ i + 0 = omega arith in
    sym (or_none (option_map (λ n. (i, n)) (place_from 0 (names_in d.shape) x))) ∙ ap (λ j. option_map (λ n. (j, n)) (place_from 0 (names_in d.shape) x)) number
constant_last (t ∷ ts) i d x =
    let number : i + 1 + length ts ≡ i + length (t ∷ ts) = omega arith in
    go (option_map (λ n. (i, n)) (place_from 0 (names_in t.shape) x))
    (constant_last ts (i + 1) d x ∙ ap (λ j. option_or (constant_from (i + 1) ts x) (option_map (λ n. (j, n)) (place_from 0 (names_in d.shape) x))) number)
  where
    go : (o : Option (ℕ × ℕ)) → constant_from (i + 1) (ts ++ d ∷ []) x ≡ option_or (constant_from (i + 1) ts x) (option_map (λ n. (i + length (t ∷ ts), n)) (place_from 0 (names_in d.shape) x))
        → option_or o (constant_from (i + 1) (ts ++ d ∷ []) x) ≡ option_or (option_or o (constant_from (i + 1) ts x)) (option_map (λ n. (i + length (t ∷ ts), n)) (place_from 0 (names_in d.shape) x))
    go (Some p) r = refl
    go None r = r

-- what is found is a type's
pub type_within : (types : Table) (x : Name) (o : Option Ty) → option_map number o ≡ type_named types x → IfSome o (λ ty. ty.0 < length types)
type_within types x (Some ty) e =
    let t = type_is types x ty.0 (sym e) in
    slice_get_within types ty.0 t.0 t.1
type_within types x None e = tt

pub constant_within : (types : Table) → AreTypes types → (x : Name) (o : Option (Ty × ℕ)) → option_map place o ≡ constant_named types x → IfSome o (λ p. p.0.0 < length types)
constant_within types declared x (Some p) e =
    let c = constant_at types declared x (p.0.0, p.1) (sym e) in
    slice_get_within types p.0.0 c.d c.there
constant_within types declared x None e = tt

-- a text that is no name names nothing
pub no_type_spelled : (types : Table) → AreTypes types → (x : Name) → (IsUtf8 x → ⊥) → None ≡ type_named types x
no_type_spelled types declared x none = sym (unnamed types declared x (λ h. none (name_is_text x h))).1

pub no_constant_spelled : (types : Table) → AreTypes types → (x : Name) → (IsUtf8 x → ⊥) → None ≡ constant_named types x
no_constant_spelled types declared x none = sym (unnamed types declared x (λ h. none (name_is_text x h))).0

-- the map finds the types, and one more
pub finds_pushed : (m n : BTreeMap (String Global) Ty) (types : Table) (d : Declaration) (ty : Ty) → AreTypes types → MayFollow types d → ty.0 ≡ length types → FindsTypes m types
    → ((x : Name) → get_by_text n x ≡ cond (bytes_eq d.name x) (Some ty) (get_by_text m x)) → FindsTypes n (types ++ d ∷ [])
finds_pushed m n types d ty t f e finds new x = ap (option_map number) (new x) ∙ go (bytes_eq d.name x) refl ∙ sym (named_last types d x)
  where
    go : (b : Bool) → bytes_eq d.name x ≡ b → option_map number (cond b (Some ty) (get_by_text m x)) ≡ option_or (type_named types x) (cond b (Some (length types)) None)
    go true same =
        let free : contains (all_names types) d.name ≡ false = apart_outside (given_names d) (all_names types) d.name (and_parts (distinct (given_names d)) (apart (given_names d) (all_names types)) f.new).1 (own_inside d) in
        let unused : type_named types x ≡ None = place_outside 0 (map (λ k. k.name) types) x (not_type (contains (map (λ k. k.name) types) x) refl free) in
        ap Some e ∙ sym (ap (λ o. option_or o (Some (length types))) unused)
      where
        not_type : (c : Bool) → contains (map (λ k. k.name) types) x ≡ c → contains (all_names types) d.name ≡ false → c ≡ false
        not_type true i free = absurd (false≢true (sym free ∙ (ap (contains (all_names types)) (same_name d.name x same) ∙ type_names types x i)))
        not_type false i free = refl
    go false same = finds x ∙ or_none (type_named types x)

-- names of one more type
pub finds_constants : (m : BTreeMap (String Global) (Ty × ℕ)) (types : Table) (d : Declaration) → FindsConstants m types → names_in d.shape ≡ [] → FindsConstants m (types ++ d ∷ [])
finds_constants m types d finds none x =
    finds x ∙ or_none (constant_named types x)
    ∙ sym (constant_last types 0 d x ∙ ap (λ ns. option_or (constant_named types x) (option_map (λ n. (0 + length types, n)) (place_from 0 ns x))) none)

pub finds_names : (m n : BTreeMap (String Global) (Ty × ℕ)) (types : Table) (d : Declaration) (ty : ℕ) → ty ≡ length types → FindsConstants m types → FindsMore m n ty (names_in d.shape) → FindsConstants n (types ++ d ∷ [])
finds_names m n types d ty e finds new x =
    let k : ty ≡ 0 + length types = omega (arith, e) in
    new x ∙ ap (λ o. option_or o (option_map (λ j. (ty, j)) (place_from 0 (names_in d.shape) x))) (finds x)
    ∙ ap (λ j. option_or (constant_named types x) (option_map (λ i. (j, i)) (place_from 0 (names_in d.shape) x))) k ∙ sym (constant_last types 0 d x)

-- one name more of an enumeration
or_more : {X : Type 0} (a b c : Option X) → option_or (option_or a b) c ≡ option_or a (option_or b c)
or_more (Some x) b c = refl
or_more None b c = refl

map_or : {X Y : Type 0} (f : X → Y) (a b : Option X) → option_map f (option_or a b) ≡ option_or (option_map f a) (option_map f b)
map_or f (Some x) b = refl
map_or f None b = refl

pub finds_name : (old m n : BTreeMap (String Global) (Ty × ℕ)) (ty : Ty) (ns : List Name) (name : Name) → FindsMore old m ty.0 ns
    → ((x : Name) → get_by_text n x ≡ option_or (get_by_text m x) (cond (bytes_eq name x) (Some (ty, length ns)) None)) → FindsMore old n ty.0 (ns ++ name ∷ [])
finds_name old m n ty ns name finds new x =
    ap (option_map place) (new x) ∙ map_or place (get_by_text m x) (cond (bytes_eq name x) (Some (ty, length ns)) None)
    ∙ ap (λ o. option_or o (option_map place (cond (bytes_eq name x) (Some (ty, length ns)) None))) (finds x)
    ∙ or_more (option_map place (get_by_text old x)) (option_map (λ j. (ty.0, j)) (place_from 0 ns x)) (option_map place (cond (bytes_eq name x) (Some (ty, length ns)) None))
    ∙ ap (option_or (option_map place (get_by_text old x)))
    (ap (option_or (option_map (λ j. (ty.0, j)) (place_from 0 ns x))) (turned (bytes_eq name x)) ∙ sym (map_or (λ j. (ty.0, j)) (place_from 0 ns x) (cond (bytes_eq name x) (Some (length ns)) None)) ∙ sym (ap (option_map (λ j. (ty.0, j))) (first_last ns name x)))
  where
    turned : (b : Bool) → option_map place (cond b (Some (ty, length ns)) None) ≡ option_map (λ j. (ty.0, j)) (cond b (Some (length ns)) None)
    turned true = refl
    turned false = refl

pub taken : {X : Type 0} (xs : List X) (n : ℕ) → n ≤ length xs → length (take n xs) ≡ n
taken [] zero le = refl
taken [] (suc n) le = absurd (omega arith)
taken (x ∷ xs) zero le = refl
taken (x ∷ xs) (suc n) le = ap (λ k. suc k) (taken xs n (omega arith))

-- only enumerations have names
pub no_names : (f : Form) → ((ns : Vec (String Global) Global) → f ≡ Names ns → ⊥) → names_in (shape f) ≡ []
no_names Truths h = refl
no_names Numbers h = refl
no_names (Names ns) h = absurd (h ns refl)
no_names (Fields fs) h = refl
no_names (Sequence most of) h = refl

kept : {X : Type 0} (b : Bool) (o : Option X) (v : X) → cond b (Some (unwrap_or o v)) o ≡ option_or o (cond b (Some v) None)
kept true (Some y) v = refl
kept true None v = refl
kept false (Some y) v = refl
kept false None v = refl

-- what was found first is kept
pub or_kept : {X : Type 0} (name x : Name) (o : Option X) (v : X) → cond (bytes_eq x name) (Some (unwrap_or o v)) o ≡ option_or o (cond (bytes_eq name x) (Some v) None)
or_kept name x o v = ap (λ b. cond b (Some (unwrap_or o v)) o) (bytes_eq-sym x name) ∙ kept (bytes_eq name x) o v
