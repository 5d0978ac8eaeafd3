-- Operands that are lent, and what an operator whose value takes no memory gives of them.
use Rattle.std.proofs.Common.{◌≡◌, ℕ, true, false, ◌==◌, ◌⊎◌, inl, inr, List, [], ◌∷◌, length, map, ◌<◌, subst, refl, sym, ap, ◌∙◌, arith}
use Rattle.std.proofs.lemmas.List.{length-map}
use Rattle.ioa_value.specs.declared.operator.Op.{Op}
use Rattle.ioa_value.specs.declared.operator.Class.{Class}
use Rattle.ioa_value.specs.declared.operator.Class.TheVariants.{Negation, Arithmetic, Comparison, Denial, Equality, Size, Item, Shortening, Change, Index, Membership, Construction, Projection}
use Rattle.ioa_value.specs.Plain.{Val, Vals, items, tuple, listed, count, plain, plain_all}
use Rattle.ioa_value.specs.declared.value.Value.{Value}
use Rattle.ioa_value.specs.Table.{Table}
use Rattle.ioa_value.specs.Typing.{own}
use Rattle.ioa_value.specs.Operators.{Answer, on_alike, on_sequence, on_item_and_sequence, class_of, grows, grows_by, Takes, TakesBy}
use Rattle.ioa_value.proofs.PlainLemmas.{count-plain_all}
use Rattle.ioa_value.proofs.SameLemmas.{equal}

pub alike_given : (f : Val → Val → Answer) (vs : List Val) (a b x y : Val) → own x ≡ own y → vs ≡ x ∷ y ∷ [] → vs ≡ a ∷ b ∷ [] → f a b ≡ on_alike f vs
alike_given f vs a b x y k g h =
    let k' : (own a == own b) ≡ true = equal _ _ (cc) in
    rw h (rw k' refl)

pub sequence_given : (f : ℕ → List Val → Answer) (vs : List Val) (v : Val) (s : ℕ) (xs : Vals) → vs ≡ v ∷ [] → v ≡ items s xs → f s (listed xs) ≡ on_sequence f vs
sequence_given f vs v s xs g h = rw (g, h) refl

pub member_given : (f : Val → List Val → Answer) (vs : List Val) (v w : Val) (s : ℕ) (xs : Vals) → vs ≡ v ∷ w ∷ [] → w ≡ items s xs → f v (listed xs) ≡ on_item_and_sequence f vs
member_given f vs v w s xs g h = rw (g, h) refl

-- there are one or two
abbrev Few : List Val → Type 0
Few vs = (length vs ≡ 1) ⊎ (length vs ≡ 2)

few_by : (types : Table) (c : Class) (vs : List Val) → TakesBy types c vs → grows_by c ≡ false → Few vs
few_by types Negation vs t g = inl (ap length t.1)
few_by types Arithmetic vs t g = inr (ap length t.2)
few_by types Comparison vs t g = inr (ap length t.2)
few_by types Denial vs t g = inl (ap length t.1)
few_by types Equality vs t g = inr (ap length t.3)
few_by types Size vs t g = inl (ap length t.2)
few_by types Item vs t g = absurd (cc)
few_by types Shortening vs t g = absurd (cc)
few_by types Change vs t g = absurd (cc)
few_by types Index vs t g = absurd (cc)
few_by types Membership vs t g = inr (ap length t.3)
few_by types (Construction ty) vs t g = absurd (cc)
few_by types (Projection j) vs t g = absurd (cc)

few : (types : Table) (op : Op) (vs : List Val) → Takes types op vs → grows op ≡ false → Few vs
few types op vs t g = few_by types (class_of op) vs t g

pub few_values : (types : Table) (op : Op) (vs : List Value) → Takes types op (map plain vs) → grows op ≡ false → (length vs ≡ 1) ⊎ (length vs ≡ 2)
few_values types op vs t g = subst (λ n. (n ≡ 1) ⊎ (n ≡ 2)) (length-map vs plain) (few types op (map plain vs) t g)

-- the field is there
pub field_within : (its : List Value) (j : ℕ) (v : Val) (s t : ℕ) (xs : Vals) → v ≡ tuple s (plain_all its) → v ∷ [] ≡ tuple t xs ∷ [] → j < count xs → j < length its
field_within its j v s t xs e f lt =
    let same : plain_all its ≡ xs = cc in
    let long : count xs ≡ length its = ap count (sym same) ∙ count-plain_all its in
    omega (arith, lt, long)
