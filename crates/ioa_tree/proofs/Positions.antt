-- What the constants of an instance's positions stand for.
use Rattle.std.proofs.Common.{◌≡◌, ℕ, true, Option, Some, None, is_some, refl, sym, subst, pos, neg_ℤ}
use Rattle.ioa_value.specs.Operators.{IsTypedAnswer}
use Rattle.ioa_value.specs.Plain.{Val, truth, num}
use Rattle.ioa_value.specs.Table.{Table, AreTypes}
use Rattle.ioa_value.specs.Typing.{HasType, own}
use Rattle.ioa_value.proofs.TypingLemmas.{own_type}
use Rattle.ioa_tree.specs.Tree.{named, ConstantTree, positive, negative, truth_literal, reference}
use Rattle.ioa_tree.specs.Meaning.{value_of, or_else}
use Rattle.ioa_tree.specs.Types.{constant, constant_type}
use Rattle.ioa_tree.specs.Instances.{Instance, Fit, formal_values, constant_value}
use Rattle.ioa_tree.specs.WellFormed.{type_in, context_of, constant_fine}
use Rattle.ioa_tree.proofs.Starts.{suits_of_fit}
use Rattle.ioa_tree.proofs.ValTyped.{val_typed}

-- a value of the type is there, and it is of the type that it says it has
value_there : (types : Table) (o : Option Val) (ty : ℕ) → IsTypedAnswer types ty (value_of o) → (v : Val) × (o ≡ Some v) × HasType types v (own v)
value_there types (Some v) ty h = (v, refl, subst (HasType types v) (sym (own_type types v ty h)) h)
value_there types None ty h = absurd h

is_there : (o : Option ℕ) → is_some o ≡ true → (n : ℕ) × (o ≡ Some n)
is_there (Some n) h = (n, refl)
is_there None h = absurd (cc)

module _ (i : Instance) (declared : AreTypes i.types) (fit : Fit i.types i.automaton.formals i.arguments) where
  -- a fine constant stands for a value
  pub constant_typed : (c : ConstantTree) → constant_fine i.types (context_of i.types i.automaton.formals) c ≡ true
      → (v : Val) × (constant_value i c ≡ Some v) × HasType i.types v (own v)
  constant_typed (positive n) h = (num (pos n), refl, h)
  constant_typed (negative n) h = (num (neg_ℤ (pos n)), refl, h)
  constant_typed (truth_literal b) h = (truth b, refl, refl)
  constant_typed (reference x) h =
      let types = i.types in
      let formals = context_of types i.automaton.formals in
      let t = is_there (or_else (type_in formals x) (constant_type types x)) h in
      let suits = suits_of_fit types i.automaton.formals i.arguments fit in
      value_there types (or_else (formal_values i x) (constant types x)) t.0 (val_typed types declared formals (formal_values i) (named x) t.0 suits t.1)
