-- Automata with argument values: their signatures, starts and steps (Lynch 1996, section 8.1).
use Rattle.std.specs.Prelude.{◌≡◌, ℕ, pos, neg_ℤ, Bool, true, false, ◌&&◌, List, [], ◌∷◌, map, find, Option, Some, None, Result, Ok, Err}
use Rattle.std.specs.Option.{option_map, option_map_or}
use Rattle.std.specs.Str.{bytes_eq}
use Rattle.ioa_arithmetic.specs.declared.arithmetic.Fault.{Fault}
use Rattle.ioa_value.specs.Actions.{Name, Act}
use Rattle.ioa_value.specs.Plain.{Val, truth as truth_value, num, name, tuple, items}
use Rattle.ioa_value.specs.Same.{same}
use Rattle.ioa_value.specs.Table.{Table, type_named}
use Rattle.ioa_value.specs.Operators.{Answer, gives, faults, nothing}
use Rattle.ioa_value.specs.Typing.{HasType}
use Rattle.ioa_tree.specs.Tree.{Expr, FieldTree, ConstantTree, positive, negative, truth_literal, reference, PositionTree, typed, only, EntryTree, VariableTree, TransitionTree, AutomatonTree}
use Rattle.ioa_tree.specs.Meaning.{Env, nothing_known, values_of, or_else, over, kept, val, Outcome, becomes, breaks, nowhere, eff}
use Rattle.ioa_tree.specs.Types.{is_named, first_named, constant}
use Rattle.ioa_tree.specs.Components.{Component}

-- an automaton with values for its formals
pub record Instance : Type 0 where
  pub types : Table
  pub automaton : AutomatonTree
  pub arguments : List Val

abbrev pub field_names : List FieldTree → List Name
field_names fs = map (λ f. f.name) fs

abbrev pub variable_names : AutomatonTree → List Name
variable_names a = map (λ v. v.field.name) a.variables

-- the values of the formals
abbrev pub formal_values : Instance → Env
formal_values i = values_of (field_names i.automaton.formals) i.arguments

-- what a constant stands for: its number or truth value, and a name for its formal's value or for an enumeration's
abbrev pub constant_value : Instance → ConstantTree → Option Val
constant_value i (positive n) = Some (num (pos n))
constant_value i (negative n) = Some (num (neg_ℤ (pos n)))
constant_value i (truth_literal b) = Some (truth_value b)
constant_value i (reference x) = or_else (formal_values i x) (constant i.types x)

-- a parameter stands for each value of its type, a constant for the value that equals it
abbrev pub position_has : Instance → PositionTree → Val → Bool
position_has i (typed f) v = is_named i.types f.ty v
position_has i (only c) v = option_map_or (λ w. same w v) (constant_value i c) false

abbrev pub positions_have : Instance → List PositionTree → List Val → Bool
positions_have i [] [] = true
positions_have i [] (v ∷ vs) = false
positions_have i (p ∷ ps) [] = false
positions_have i (p ∷ ps) (v ∷ vs) = position_has i p v && positions_have i ps vs

-- the action is in the entry: the names agree, the number of positions agrees, and each value is one of its position's
abbrev pub entry_has : Instance → Act → EntryTree → Bool
entry_has i a e = bytes_eq e.name a.name && positions_have i e.positions a.vals

-- the entry that has the action
abbrev pub entry_for : Instance → Act → Option EntryTree
entry_for i a = find (entry_has i a) i.automaton.entries

-- the entry's transition
abbrev pub transition_for : AutomatonTree → EntryTree → Option TransitionTree
transition_for a e = find (λ t. bytes_eq t.name e.name) a.transitions

-- the parameters among the positions: a constant has no name
abbrev pub position_fields : List PositionTree → List FieldTree
position_fields [] = []
position_fields (typed f ∷ ps) = f ∷ position_fields ps
position_fields (only c ∷ ps) = position_fields ps

-- their values, among those of all positions
abbrev pub parameter_values : List PositionTree → List Val → List Val
parameter_values [] vs = []
parameter_values (p ∷ ps) [] = []
parameter_values (typed f ∷ ps) (v ∷ vs) = v ∷ parameter_values ps vs
parameter_values (only c ∷ ps) (v ∷ vs) = parameter_values ps vs

-- formals, the entry's parameters and the state's variables; in a well-formed automaton their names differ, so that none
-- stands in front of another
abbrev pub environment : Instance → EntryTree → List Val → Env → Env
environment i e vs s =
    over (formal_values i) (over (values_of (field_names (position_fields e.positions)) (parameter_values e.positions vs)) s)

-- a precondition's answer; it is a truth value or a fault, since it has the type Bool
abbrev pub truth_of : Answer → Result Bool Fault
truth_of (gives (truth_value b)) = Ok b
truth_of (gives (num z)) = Ok false
truth_of (gives (name ty n)) = Ok false
truth_of (gives (tuple ty vs)) = Ok false
truth_of (gives (items ty vs)) = Ok false
truth_of (faults f) = Err f
truth_of nothing = Ok false

-- an omitted precondition is true
abbrev pub enabling : Table → Option Expr → Env → Result Bool Fault
enabling types None env = Ok true
enabling types (Some e) env = truth_of (val types e env)

-- the next state: the variables alone; statements that are well typed leave an environment or a fault
abbrev pub next_state : AutomatonTree → Env → Outcome → Result Env Fault
next_state a s (becomes env) = Ok (kept (variable_names a) env)
next_state a s (breaks f) = Err f
next_state a s nowhere = Ok s

-- the entry and the transition of an action; without them it is no action of the instance
abbrev pub with_transition : {X : Type 0} → Instance → Act → X → (EntryTree → TransitionTree → X) → X
with_transition i a none f = option_map_or (λ e. option_map_or (λ t. f e t) (transition_for i.automaton e) none) (entry_for i a) none

abbrev pub guard_in : Instance → Act → Env → Result Bool Fault
guard_in i a s = with_transition i a (Ok false) (λ e t. enabling i.types t.pre (environment i e a.vals s))

abbrev pub effect_in : Instance → Act → Env → Result Env Fault
effect_in i a s = with_transition i a (Ok s) (λ e t. next_state i.automaton s (eff i.types t.effect (environment i e a.vals s)))

-- an instance as its composition sees it; a state is an environment of the variables
abbrev pub component_of : Instance → Component Env
component_of i = record {
  kind_of = λ a. option_map (λ e. e.kind) (entry_for i a);
  guard = guard_in i;
  effect = effect_in i;
}

-- a value or a fault; well typed expressions give one of them
abbrev pub settled : Answer → Result Val Fault
settled (gives v) = Ok v
settled (faults f) = Err f
settled nothing = Ok (truth_value false)

-- a variable's start: the value of its start expression, or the first value of its type
abbrev pub start_answer : Table → Env → VariableTree → Answer
start_answer types env v = option_map_or (λ e. val types e env) v.start (gives (first_named types v.field.ty))

abbrev pub start_value : Table → Env → VariableTree → Result Val Fault
start_value types env v = settled (start_answer types env v)

abbrev pub with_value : Result Val Fault → Result (List Val) Fault → Result (List Val) Fault
with_value (Ok v) (Ok vs) = Ok (v ∷ vs)
with_value (Ok v) (Err f) = Err f
with_value (Err f) rest = Err f

-- values in order, or the first fault
abbrev pub all_values : {X : Type 0} → (X → Result Val Fault) → List X → Result (List Val) Fault
all_values f [] = Ok []
all_values f (x ∷ xs) = with_value (f x) (all_values f xs)

-- the values of arguments: no name stands for anything
abbrev pub argument_values : Table → List Expr → Result (List Val) Fault
argument_values types es = all_values (λ e. settled (val types e nothing_known)) es

-- the variables' start values in order, or the first fault
abbrev pub start_values : Instance → Result (List Val) Fault
start_values i = all_values (start_value i.types (formal_values i)) i.automaton.variables

-- the values are of the types of the fields, one for each
abbrev pub Fit : Table → List FieldTree → List Val → Type 0
Fit types [] [] = Unit {0}
Fit types [] (v ∷ vs) = ⊥
Fit types (f ∷ fs) [] = ⊥
Fit types (f ∷ fs) (v ∷ vs) = (ty : ℕ) × (type_named types f.ty ≡ Some ty) × HasType types v ty × Fit types fs vs

-- the state in which the variables have these values
abbrev pub state_of : AutomatonTree → List Val → Env
state_of a vs = values_of (variable_names a) vs
