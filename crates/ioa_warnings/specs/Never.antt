-- What literals and connectives show of a condition, whatever its names stand for.
use Rattle.std.specs.Prelude.{Bool, true, false, not, ◌&&◌, ◌||◌, Option}
use Rattle.std.specs.Option.{option_map_or}
use Rattle.ioa_value.specs.declared.operator.Op.{Op}
use Rattle.ioa_value.specs.declared.operator.Op.TheVariants as operators
use Rattle.ioa_tree.specs.declared.tree.Infix.TheVariants.{Operator, And, Or, Implies}
use Rattle.ioa_tree.specs.Tree.{Expr, number, truth, named, parens, prefix, binary, empty, make, select}

-- the one operator that gives the other truth value
abbrev pub is_denial : Op → Bool
is_denial operators.Neg = false
is_denial operators.Add = false
is_denial operators.Sub = false
is_denial operators.Mul = false
is_denial operators.Div = false
is_denial operators.Mod = false
is_denial operators.Lt = false
is_denial operators.Le = false
is_denial operators.Gt = false
is_denial operators.Ge = false
is_denial operators.Not = true
is_denial operators.Eq = false
is_denial operators.Ne = false
is_denial operators.Len = false
is_denial operators.Head = false
is_denial operators.Tail = false
is_denial operators.Last = false
is_denial operators.Init = false
is_denial operators.Append = false
is_denial operators.At = false
is_denial operators.Member = false
is_denial operators.Without = false
is_denial (operators.Make ty) = false
is_denial (operators.Field j) = false

-- a literal of the other truth value
abbrev pub differs : Bool → Bool → Bool
differs true c = not c
differs false c = c

-- a condition has this truth value in no state
abbrev pub never : Bool → Expr → Bool
never b (number n) = false
never b (truth c) = differs b c
never b (named x) = false
never b (parens e) = never b e
never b (prefix o e) = is_denial o && never (not b) e
never b (binary l (Operator o) r) = false
never true (binary l And r) = never true l || never true r
never false (binary l And r) = never false l && never false r
never true (binary l Or r) = never true l && never true r
never false (binary l Or r) = never false l || never false r
never true (binary l Implies r) = never false l && never true r
never false (binary l Implies r) = never true l || never false r
never b (empty ty) = false
never b (make ty es) = false
never b (select e field) = false

-- a precondition is true in no state; an omitted one is true in all
abbrev pub is_never_enabled : Option Expr → Bool
is_never_enabled pre = option_map_or (never true) pre false
