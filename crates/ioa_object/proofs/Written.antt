-- What the functions that write objects need of what they write.
use Rattle.std.proofs.Common.{◌≡◌, ℕ, ◌<◌, ◌≤◌, ◌^◌, Bool, true, ◌&&◌, ◌==◌, List, [], ◌∷◌, ◌++◌, length, map, take, drop, get_or, Option, Some, zero, suc, ◌+◌, ◌-◌, Vec, refl, sym, ap, ◌∙◌, subst, All, arith}
use Rattle.std.specs.Prelude.{nat_le, slice_get}
use Rattle.std.specs.List.{flat_map}
use Rattle.std.proofs.lemmas.Bool.{and_parts, leb-true}
use Rattle.std.proofs.lemmas.List.{get_or-map, length-map, take_all, flat_map_more}
use Rattle.ioa_value.specs.declared.value.Ty.{Ty}
use Rattle.ioa_value.specs.declared.value.Value.{Value, Tuple, Items}
use Rattle.std.specs.Global.{Global}
use Rattle.ioa_value.specs.Plain.{Val, Vals, tuple, items, none, more, count, listed, plain, plain_all}
use Rattle.ioa_value.specs.Table.{Table, Declaration, Shape, shape_at, types_of, all_names, given_names, AreTypes}
use Rattle.ioa_value.specs.Typing.{of_fields, of_sequence, is_of, parts_are, items_are, HasType, OwnTypes, own}
use Rattle.ioa_value.proofs.CompleteLemmas.{fields_of, sequence_of}
use Rattle.ioa_value.proofs.PlainLemmas.{plain-Tuple, plain-Items, listed-plain, count-plain_all}
use Rattle.ioa_value.proofs.SequenceTyping.{parts-HaveTypes}
use Rattle.ioa_value.proofs.TableLemmas.{stands}
use Rattle.ioa_value.proofs.TypingLemmas.{IsOwn, has_own, HaveTypes-owns}
use Rattle.ioa_object.specs.Spelling.{short, declaration, payload, payloads}
use Rattle.ioa_value.specs.Names.{IsName}
use Rattle.ioa_object.proofs.TypeFormats.{all_before, all_behind}
use Rattle.ioa_object.proofs.PartFormats.{types_own}

-- what holds of all images of items holds of that of an item that is read
pub at_item : {X Y : Type 0} (P : Y → Type 0) (v : X → Y) (xs : List X) (i : ℕ) (x : X) → i < length xs → x ≡ get_or xs i x → All P (map v xs) → P (v x)
at_item P v xs i x less is all =
    subst P (get_or-map v xs i x (v x) less ∙ ap v (sym is)) (all i (v x) (omega (arith, length-map xs v)))

-- ---- parts of values

module _ (types : Table) where
  items_own : (vs : Vals) (of : ℕ) → items_are types vs of ≡ true → OwnTypes types (listed vs)
  items_own none of h = tt
  items_own (more v vs) of h = let p = and_parts (is_of types v of) (items_are types vs of) h in (has_own types v of p.0, items_own vs of p.1)

  -- the parts of a tuple are of their own types
  pub tuple_own : (s ty : ℕ) (xs : List Value) → HasType types (tuple s (plain_all xs)) ty → OwnTypes types (map plain xs)
  tuple_own s ty xs h =
      let test : Option Shape → Bool = λ o. of_fields o (λ tys. parts_are types (plain_all xs) tys) in
      let o = fields_of (shape_at types s) (λ tys. parts_are types (plain_all xs) tys) (and_parts (ty == s) (test (shape_at types s)) h).1 in
      subst (OwnTypes types) (listed-plain xs) (HaveTypes-owns types (listed (plain_all xs)) (types_of o.fs) (parts-HaveTypes types (plain_all xs) (types_of o.fs) o.passes)).1

  -- so are the items of a sequence, and they are few
  pub sequence_own : AreTypes types → (s ty : ℕ) (xs : List Value) → HasType types (items s (plain_all xs)) ty → OwnTypes types (map plain xs) × (length xs < 2 ^ 16)
  sequence_own are s ty xs h =
      let passes : ℕ → ℕ → Bool = λ most of. nat_le (count (plain_all xs)) most && items_are types (plain_all xs) of in
      let o = sequence_of (shape_at types s) passes (and_parts (ty == s) (of_sequence (shape_at types s) passes) h).1 in
      let p = and_parts (nat_le (count (plain_all xs)) o.most) (items_are types (plain_all xs) o.of) o.passes in
      let may = stands types s _ are o.is in (
        subst (OwnTypes types) (listed-plain xs) (items_own (plain_all xs) o.of p.1),
        omega (arith, leb-true (count (plain_all xs)) o.most p.0, count-plain_all xs, may.1),
      )

-- of values that are of their own types one that is read is
pub own_item : (types : Table) (xs : List Value) (i : ℕ) (x : Value) → i < length xs → x ≡ get_or xs i x → OwnTypes types (map plain xs) → HasType types (plain x) (own (plain x))
own_item types xs i x less is h = at_item (IsOwn types) plain xs i x less is (types_own types (map plain xs) h)

payloads_plain : (xs : List Value) → payloads (plain_all xs) ≡ flat_map payload (map plain xs)
payloads_plain [] = refl
payloads_plain (x ∷ xs) = ap (λ l. payload (plain x) ++ l) (payloads_plain xs)

-- ---- values that hold others

-- a tuple of these parts, which are lent
module _ (v : Value) (ty : Ty) (parts : Vec Value Global) (xs : List Value) (is : v ≡ Tuple ty parts) (lent : xs ≡ parts.items) where
  tuple_is : plain v ≡ tuple ty.0 (plain_all xs)
  tuple_is = ap plain is ∙ plain-Tuple ty parts ∙ ap (λ ys. tuple ty.0 (plain_all ys)) (sym lent)

  pub tuple_typed : (types : Table) → HasType types (plain v) (own (plain v)) → OwnTypes types (map plain xs)
  tuple_typed types h = tuple_own types ty.0 ty.0 xs (subst (λ (w : Val). HasType types w (own w)) tuple_is h)

  pub tuple_spelled : payloads (plain_all xs) ≡ payload (plain v)
  tuple_spelled = ap payload (sym tuple_is)

-- a sequence of these items, which are lent
module _ (v : Value) (ty : Ty) (held : Vec Value Global) (xs : List Value) (is : v ≡ Items ty held) (lent : xs ≡ held.items) where
  items_is : plain v ≡ items ty.0 (plain_all xs)
  items_is = ap plain is ∙ plain-Items ty held ∙ ap (λ ys. items ty.0 (plain_all ys)) (sym lent)

  pub items_typed : (types : Table) → AreTypes types → HasType types (plain v) (own (plain v)) → OwnTypes types (map plain xs) × (length xs < 2 ^ 16)
  items_typed types are h = sequence_own types are ty.0 ty.0 xs (subst (λ (w : Val). HasType types w (own w)) items_is h)

  pub items_spelled : short (length xs) ++ payloads (plain_all xs) ≡ payload (plain v)
  items_spelled = ap (λ n. short n ++ payloads (plain_all xs)) (sym (count-plain_all xs)) ∙ ap payload (sym items_is)

-- ---- rows

-- a row of values that is written item by item
pub row_spelled : (old new : List ℕ) (xs : List Value) (i : ℕ) → length xs ≤ i → new ≡ old ++ flat_map payload (map plain (take i xs)) → new ≡ old ++ payloads (plain_all xs)
row_spelled old new xs i past e = e ∙ ap (λ ys. old ++ flat_map payload (map plain ys)) (take_all i xs past) ∙ ap (λ l. old ++ l) (sym (payloads_plain xs))

-- ---- types in their order

-- the names that a type of a table gives are legal
pub given_legal : (types : Table) (k : ℕ) (d : Declaration) → All IsName (all_names types) → slice_get types k ≡ Some d → All IsName (given_names d)
given_legal [] k d h at = absurd (cc)
given_legal (e ∷ types) zero d h at =
    let same : e ≡ d = cc in subst (λ (x : Declaration). All IsName (given_names x)) same (all_before IsName (given_names e) (all_names types) h)
given_legal (e ∷ types) (suc k) d h at = given_legal types k d (all_behind IsName (given_names e) (all_names types) h) at

take_next : (ds : Table) (k : ℕ) (d : Declaration) → slice_get ds k ≡ Some d → take (suc k) ds ≡ take k ds ++ d ∷ []
take_next [] k d at = absurd (cc)
take_next (e ∷ ds) zero d at = let same : e ≡ d = cc in ap (λ x. x ∷ []) same
take_next (e ∷ ds) (suc k) d at = ap (λ l. e ∷ l) (take_next ds k d at)

behind_two : (types : Table) (k : ℕ) → slice_get types (suc (suc k)) ≡ slice_get (drop 2 types) k
behind_two [] k = refl
behind_two (a ∷ []) k = refl
behind_two (a ∷ b ∷ ds) k = refl

-- one more of the declared types is written
pub declared_more : (types : Table) (n : ℕ) (d : Declaration) (start old new : List ℕ) → 2 ≤ n → slice_get types n ≡ Some d
    → old ≡ start ++ flat_map declaration (take (n - 2) (drop 2 types)) → new ≡ old ++ declaration d → new ≡ start ++ flat_map declaration (take (n + 1 - 2) (drop 2 types))
declared_more types zero d start old new two at e f = absurd (omega arith)
declared_more types (suc zero) d start old new two at e f = absurd (omega arith)
declared_more types (suc (suc k)) d start old new two at e f =
    let here : suc (suc k) - 2 ≡ k = omega arith in
    let next : suc (suc k) + 1 - 2 ≡ suc k = omega arith in
    let ds = drop 2 types in
    let old_is : old ≡ start ++ flat_map declaration (take k ds) = e ∙ ap (λ n. start ++ flat_map declaration (take n ds)) here in
    f ∙ ap (λ l. l ++ declaration d) old_is ∙ flat_map_more declaration start (take k ds) d
    ∙ ap (λ l. start ++ flat_map declaration l) (sym (take_next ds k d (sym (behind_two types k) ∙ at)) ∙ ap (λ n. take n ds) (sym next))
