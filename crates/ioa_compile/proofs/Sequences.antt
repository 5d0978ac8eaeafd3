-- Values of sequence types are sequences, and so is what is left of one without its first item.
use Rattle.std.proofs.Common.{◌≡◌, ℕ, suc, ◌==◌, true, ◌&&◌, nat_le, IsTrue, Option, Some, None, refl, subst, arith}
use Rattle.std.proofs.lemmas.Bool.{and_parts}
use Rattle.std.proofs.lemmas.Bool.Decides.{nat_tests}
use Rattle.ioa_value.specs.Plain.{Val, Vals, items, more, count}
use Rattle.ioa_value.specs.Table.{Table, AreTypes, Shape, truths, numbers, names, fields, sequence, shape_at, item_of, item_type}
use Rattle.ioa_value.specs.Typing.{HasType, is_of, items_are, of_sequence}
use Rattle.ioa_value.proofs.TypingLemmas.{is_sequence}

-- what has a type with items is a sequence of it
pub list_of : (types : Table) → AreTypes types → (ty item : ℕ) (v : Val) → item_type types ty ≡ Some item → HasType types v ty → (vs : Vals) × (v ≡ items ty vs)
list_of types declared ty item v is h = go (shape_at types ty) refl is
  where
    go : (o : Option Shape) → shape_at types ty ≡ o → item_of o ≡ Some item → (vs : Vals) × (v ≡ items ty vs)
    go (Some (sequence most of)) shape e = let s = is_sequence types declared v ty most of h shape in (s.0, s.1)
    go (Some truths) shape e = absurd (cc)
    go (Some numbers) shape e = absurd (cc)
    go (Some (names ns)) shape e = absurd (cc)
    go (Some (fields fs)) shape e = absurd (cc)
    go None shape e = absurd (cc)

-- the first item is of the items' type, and the rest a sequence of the same type
pub one_less : (types : Table) (ty item : ℕ) (w : Val) (ws : Vals) → item_type types ty ≡ Some item → HasType types (items ty (more w ws)) ty → HasType types w item × HasType types (items ty ws) ty
one_less types ty item w ws is h = go (shape_at types ty) is h
  where
    short : (most : ℕ) → nat_le (suc (count ws)) most ≡ true → nat_le (count ws) most ≡ true
    short most e = grind (arith, nat_tests)

    go : (o : Option Shape) → item_of o ≡ Some item → IsTrue ((ty == ty) && of_sequence o (λ most of. nat_le (count (more w ws)) most && (is_of types w of && items_are types ws of))) → IsTrue (is_of types w item) × IsTrue ((ty == ty) && of_sequence o (λ most of. nat_le (count ws) most && items_are types ws of))
    go (Some (sequence most of)) e h =
        let same : of ≡ item = cc in
        let outer = and_parts (ty == ty) (nat_le (count (more w ws)) most && (is_of types w of && items_are types ws of)) h in
        let inner = and_parts (nat_le (count (more w ws)) most) (is_of types w of && items_are types ws of) outer.1 in
        let both = and_parts (is_of types w of) (items_are types ws of) inner.1 in
        (subst (λ t. IsTrue (is_of types w t)) same both.0, rw outer.0 (rw (short most inner.0) both.1))
    go (Some truths) e h = absurd (cc)
    go (Some numbers) e h = absurd (cc)
    go (Some (names ns)) e h = absurd (cc)
    go (Some (fields fs)) e h = absurd (cc)
    go None e h = absurd (cc)
