-- What expressions and effects mean (effects of transitions: Lynch 1996, section 8.1; IOA's notation).
use Rattle.std.specs.Prelude.{true, false, if◌then◌else◌, List, [], ◌∷◌, Option, Some, None, pos}
use Rattle.std.specs.List.{list_any}
use Rattle.std.specs.Option.{option_map_or}
use Rattle.std.specs.Str.{bytes_eq}
use Rattle.ioa_arithmetic.specs.declared.arithmetic.Fault.{Fault}
use Rattle.ioa_value.specs.Actions.{Name}
use Rattle.ioa_value.specs.Plain.{Val, Vals, none as no_item, more as one_item, truth as truth_value, num, name, tuple, items}
use Rattle.ioa_value.specs.Table.{Table, type_named, field_place}
use Rattle.ioa_value.specs.Typing.{own}
use Rattle.ioa_value.specs.declared.operator.Op.TheVariants.{Make, Field}
use Rattle.ioa_value.specs.Operators.{Answer, gives, faults, nothing, operate}
use Rattle.ioa_tree.specs.declared.tree.Infix.{Infix}
use Rattle.ioa_tree.specs.declared.tree.Infix.TheVariants.{Operator, And, Or, Implies}
use Rattle.ioa_tree.specs.Tree.{Expr, number, truth, named, parens, prefix, binary, empty, make, select, Exprs, no_expr, also, Stmt, assign, choose, each, Stmts, stop, seq, Arms, no_arm, arm}
use Rattle.ioa_tree.specs.Types.{constant, empty_of}

-- what each name stands for, but for those of enumerations
abbrev pub Env : Type 0
Env = Name → Option Val

abbrev pub nothing_known : Env
nothing_known x = None

-- the names, one after another, stand for the values
abbrev pub values_of : List Name → List Val → Env
values_of [] vs x = None
values_of (n ∷ ns) [] x = None
values_of (n ∷ ns) (v ∷ vs) x = if bytes_eq n x then Some v else values_of ns vs x

abbrev pub or_else : {X : Type 0} → Option X → Option X → Option X
or_else (Some v) o = Some v
or_else None o = o

-- the first environment, and the second for the names that it does not know
abbrev pub over : Env → Env → Env
over e f x = or_else (e x) (f x)

-- the environment with one name's value replaced
abbrev pub with_name : Env → Name → Val → Env
with_name env x v y = if bytes_eq x y then Some v else env y

-- the environment for these names alone
abbrev pub kept : List Name → Env → Env
kept names env x = if list_any (λ n. bytes_eq n x) names then env x else None

-- goes on with a value; a fault stays
abbrev pub then_value : Answer → (Val → Answer) → Answer
then_value (gives v) go = go v
then_value (faults f) go = faults f
then_value nothing go = nothing

abbrev pub value_of : Option Val → Answer
value_of (Some v) = gives v
value_of None = nothing

-- the one answer where a condition is true, the other where it is false
abbrev pub decided : Val → Answer → Answer → Answer
decided (truth_value true) this other = this
decided (truth_value false) this other = other
decided (num z) this other = nothing
decided (name ty n) this other = nothing
decided (tuple ty vs) this other = nothing
decided (items ty vs) this other = nothing

-- the value of the first operand with the answer of the second, which is not asked for where the first decides
abbrev pub combined : Table → Infix → Val → Answer → Answer
combined types (Operator o) x second = then_value second (λ y. operate types o (x ∷ y ∷ []))
combined types And x second = decided x second (gives (truth_value false))
combined types Or x second = decided x (gives (truth_value true)) second
combined types Implies x second = decided x second (gives (truth_value true))

-- the tuple of the type of this name, of these fields
abbrev pub made : Table → Name → List Val → Answer
made types x vs = option_map_or (λ ty. operate types (Make (record { 0 = ty })) vs) (type_named types x) nothing

-- the field of this name of a tuple, by its place in the tuple's type
abbrev pub selected : Table → Name → Val → Answer
selected types x v = option_map_or (λ j. operate types (Field j) (v ∷ [])) (field_place types (own v) x) nothing

-- the value of an expression, or its fault: operands go left to right and the first fault wins; a name that the environment
-- does not know is an enumeration's
abbrev mutual
  pub val : Table → Expr → Env → Answer
  val types (number n) env = gives (num (pos n))
  val types (truth b) env = gives (truth_value b)
  val types (named x) env = value_of (or_else (env x) (constant types x))
  val types (parens e) env = val types e env
  val types (prefix o e) env = then_value (val types e env) (λ x. operate types o (x ∷ []))
  val types (binary l o r) env = then_value (val types l env) (λ x. combined types o x (val types r env))
  val types (empty x) env = value_of (empty_of types x)
  val types (make x es) env = then_all types es env (made types x)
  val types (select e x) env = then_value (val types e env) (selected types x)

  -- goes on with the values of expressions in order; the first fault stays
  pub then_all : Table → Exprs → Env → (List Val → Answer) → Answer
  then_all types no_expr env go = go []
  then_all types (also e es) env go = then_value (val types e env) (λ v. then_all types es env (λ vs. go (v ∷ vs)))

-- what statements leave: an environment, a fault, or nothing, where a name or a value is missing
pub data Outcome : Type 0 where
  becomes : Env → Outcome
  breaks : Fault → Outcome
  nowhere : Outcome

-- an assignment replaces the value of a name that stands for one
abbrev pub assigned : Name → Env → Answer → Option Val → Outcome
assigned x env (gives v) (Some old) = becomes (with_name env x v)
assigned x env (gives v) None = nowhere
assigned x env (faults f) old = breaks f
assigned x env nothing old = nowhere

abbrev pub then_do : Outcome → (Env → Outcome) → Outcome
then_do (becomes env) go = go env
then_do (breaks f) go = breaks f
then_do nowhere go = nowhere

-- the one outcome where a condition is true, the other where it is false; a condition's fault is the effect's
abbrev pub chosen : Answer → Outcome → Outcome → Outcome
chosen (gives (truth_value true)) this other = this
chosen (gives (truth_value false)) this other = other
chosen (gives (num z)) this other = nowhere
chosen (gives (name ty n)) this other = nowhere
chosen (gives (tuple ty vs)) this other = nowhere
chosen (gives (items ty vs)) this other = nowhere
chosen (faults f) this other = breaks f
chosen nothing this other = nowhere

-- the second environment, but for one name, which stands for what it stood for in the first
abbrev pub without : Name → Env → Env → Env
without x env next y = if bytes_eq x y then env y else next y

-- a body once for each value in order, with the name for the value, on what the turn before left: the name is gone after each turn
abbrev pub turns : (Env → Outcome) → Name → Vals → Env → Outcome
turns body x no_item env = becomes env
turns body x (one_item v vs) env = then_do (body (with_name env x v)) (λ next. turns body x vs (without x env next))

-- a body once for each item of a sequence, as it is before the first turn; the sequence's fault is the effect's
abbrev pub looped : (Env → Outcome) → Name → Env → Answer → Outcome
looped body x env (gives (items ty vs)) = turns body x vs env
looped body x env (gives (truth_value b)) = nowhere
looped body x env (gives (num z)) = nowhere
looped body x env (gives (name ty n)) = nowhere
looped body x env (gives (tuple ty vs)) = nowhere
looped body x env (faults f) = breaks f
looped body x env nothing = nowhere

abbrev mutual
  pub does : Table → Stmt → Env → Outcome
  does types (assign x e) env = assigned x env (val types e env) (env x)
  does types (choose arms others) env = picks types arms env (eff types others env)
  does types (each x e ss) env = looped (eff types ss) x env (val types e env)

  -- what the first arm with a true condition does, and otherwise the given
  pub picks : Table → Arms → Env → Outcome → Outcome
  picks types no_arm env otherwise = otherwise
  picks types (arm c ss more) env otherwise = chosen (val types c env) (eff types ss env) (picks types more env otherwise)

  -- statements in sequence
  pub eff : Table → Stmts → Env → Outcome
  eff types stop env = becomes env
  eff types (seq s ss) env = then_do (does types s env) (λ next. eff types ss next)
