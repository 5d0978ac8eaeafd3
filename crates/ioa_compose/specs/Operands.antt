-- Operands of what stands between expressions, and those that make a tuple or have a field.
use Rattle.std.specs.Prelude.{◌≡◌, ◌≢◌, ℕ, true, false, List, [], ◌∷◌, Some}
use Rattle.ioa_value.specs.Plain.{Val, truth}
use Rattle.ioa_value.specs.Actions.{Name}
use Rattle.ioa_value.specs.declared.operator.Op.TheVariants.{Make, Field}
use Rattle.ioa_value.specs.Operators.{Takes}
use Rattle.ioa_value.specs.Table.{Table, type_named, field_place}
use Rattle.ioa_value.specs.Typing.{HasType, own}
use Rattle.ioa_tree.specs.declared.tree.Infix.{Infix}
use Rattle.ioa_tree.specs.declared.tree.Infix.TheVariants.{Operator, And, Or, Implies}
use Rattle.ioa_tree.specs.WellFormed.{infix_type}

-- after this first operand the second is asked for
abbrev pub Asks : Infix → Val → Type 0
Asks (Operator o) x = Unit {0}
Asks And x = x ≢ truth false
Asks Or x = x ≢ truth true
Asks Implies x = x ≢ truth false

-- both are of types that it takes
abbrev pub AreOperands : Table → Infix → Val → Val → Type 0
AreOperands types i x y = (a : ℕ) × (b : ℕ) × (c : ℕ) × HasType types x a × HasType types y b × (infix_type types i (a ∷ b ∷ []) ≡ Some c)

-- the values are the fields of a tuple of the type of this name
abbrev pub AreFields : Table → Name → List Val → Type 0
AreFields types x vs = (ty : ℕ) × (type_named types x ≡ Some ty) × Takes types (Make (record { 0 = ty })) vs

-- the value is a tuple with a field of this name
abbrev pub HasField : Table → Name → Val → Type 0
HasField types x v = (j : ℕ) × (field_place types (own v) x ≡ Some j) × Takes types (Field j) (v ∷ [])
