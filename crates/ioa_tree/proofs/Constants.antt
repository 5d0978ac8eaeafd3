-- The types of what names of enumerations and empty sequences stand for.
use Rattle.std.proofs.Common.{◌≡◌, ℕ, suc, ◌+◌, true, ◌==◌, nat_le, [], ◌∷◌, Option, Some, None, option_and_then, refl, sym, ap, subst, arith}
use Rattle.std.specs.Option.{option_map, option_or}
use Rattle.std.proofs.lemmas.Bool.{and_from, eq-eqb}
use Rattle.std.proofs.lemmas.Bool.Decides.{nat_tests}
use Rattle.ioa_value.specs.Actions.{Name}
use Rattle.ioa_value.specs.Operators.{IsTypedAnswer}
use Rattle.ioa_value.specs.Plain.{name, items, none}
use Rattle.ioa_value.specs.Table.{Table, Shape, truths, numbers, names, fields, sequence, shape_at, item_of, item_type, names_in, place_from, type_named, constant_from, constant_named}
use Rattle.ioa_value.specs.Typing.{HasType, is_name_of}
use Rattle.ioa_value.proofs.PlaceLemmas.{place_below}
use Rattle.ioa_tree.specs.Meaning.{value_of}
use Rattle.ioa_tree.specs.Types.{sequence_named, empty_of, constant, constant_type}

-- a name's place is one of the enumeration's
name_there : (s : Shape) (x : Name) (n : ℕ) → place_from 0 (names_in s) x ≡ Some n → is_name_of (Some s) n ≡ true
name_there truths x n e = absurd (cc)
name_there numbers x n e = absurd (cc)
name_there (names ns) x n e = let below = place_below ns x n e in grind (arith, nat_tests)
name_there (fields fs) x n e = absurd (cc)
name_there (sequence most of) x n e = absurd (cc)

-- what is found is a type with a name in this place
record Found (types : Table) (i : ℕ) (p : ℕ × ℕ) : Type 0 where
  place : ℕ
  number : p.0 ≡ i + place
  there : is_name_of (shape_at types place) p.1 ≡ true

constant_is : (types : Table) (i : ℕ) (x : Name) (p : ℕ × ℕ) → constant_from i types x ≡ Some p → Found types i p
constant_is [] i x p e = absurd (cc)
constant_is (d ∷ ds) i x p e = go (place_from 0 (names_in d.shape) x) refl e (constant_is ds (i + 1) x p)
  where
    go : (o : Option ℕ) → place_from 0 (names_in d.shape) x ≡ o → option_or (option_map (λ n. (i, n)) o) (constant_from (i + 1) ds x) ≡ Some p
        → (constant_from (i + 1) ds x ≡ Some p → Found ds (i + 1) p) → Found (d ∷ ds) i p
    go (Some n) at e rest =
        let same : (i, n) ≡ p = cc in
        let number : i ≡ p.0 = ap (λ q. q.0) same in
        let there = subst (λ q. is_name_of (Some d.shape) q.1 ≡ true) same (name_there d.shape x n at) in
        record { place = 0; number = omega (arith, number); there = there }
    go None at e rest =
        let r = rest e in
        let number = r.number in
        record { place = suc r.place; number = omega (arith, number); there = r.there }

pub constant_typed : (types : Table) (x : Name) (ty : ℕ) → constant_type types x ≡ Some ty → IsTypedAnswer types ty (value_of (constant types x))
constant_typed types x ty e = go (constant_named types x) refl e
  where
    go : (o : Option (ℕ × ℕ)) → constant_named types x ≡ o → option_map (λ p. p.0) o ≡ Some ty
        → IsTypedAnswer types ty (value_of (option_map (λ p. name p.0 p.1) o))
    go (Some p) at e =
        let r = constant_is types 0 x p at in
        let own : ty ≡ p.0 = cc in
        let number = r.number in
        let place : r.place ≡ p.0 = omega (arith, number) in
        and_from (ty == p.0) (is_name_of (shape_at types p.0) p.1) (eq-eqb ty p.0 own)
        (subst (λ k. is_name_of (shape_at types k) p.1 ≡ true) place r.there)
    go None at e = absurd (cc)

-- an empty sequence is within any capacity
pub empty_typed : (types : Table) (x : Name) (ty : ℕ) → sequence_named types x ≡ Some ty → IsTypedAnswer types ty (value_of (empty_of types x))
empty_typed types x ty e = subst (λ o. IsTypedAnswer types ty (value_of (option_map (λ s. items s none) o))) (sym e) (named (type_named types x) e)
  where
    shaped : (o : Option Shape) → shape_at types ty ≡ o → (of : ℕ) → item_of o ≡ Some of → HasType types (items ty none) ty
    shaped (Some (sequence most of)) at item k =
        let room : nat_le 0 most ≡ true = grind (arith, nat_tests) in
        rw (eq-eqb ty ty refl, at, room) refl
    shaped (Some truths) at item k = absurd (cc)
    shaped (Some numbers) at item k = absurd (cc)
    shaped (Some (names ns)) at item k = absurd (cc)
    shaped (Some (fields fs)) at item k = absurd (cc)
    shaped None at item k = absurd (cc)

    item : (s : ℕ) (o : Option ℕ) → item_type types s ≡ o → option_map (λ of. s) o ≡ Some ty → HasType types (items ty none) ty
    item s (Some of) at e =
        let same : s ≡ ty = cc in
        shaped (shape_at types ty) refl of (subst (λ k. item_type types k ≡ Some of) same at)
    item s None at e = absurd (cc)

    named : (o : Option ℕ) → option_and_then (λ s. option_map (λ of. s) (item_type types s)) o ≡ Some ty → HasType types (items ty none) ty
    named (Some s) e = item s (item_type types s) refl e
    named None e = absurd (cc)
