-- Well typed expressions and statements have a meaning: a value or a state of the right types, or a fault.
use Rattle.std.specs.Prelude.{◌≡◌, ℕ, List, [], All, Option, Some, None, IsTrue}
use Rattle.ioa_value.specs.Actions.{Name}
use Rattle.ioa_value.specs.Operators.{IsTypedAnswer}
use Rattle.ioa_value.specs.Plain.{Val}
use Rattle.ioa_value.specs.Table.{Table, AreTypes, type_named}
use Rattle.ioa_value.specs.Typing.{HasType}
use Rattle.ioa_tree.specs.Tree.{Expr, FieldTree, Stmts, EntryTree, VariableTree, TransitionTree, AutomatonTree, InstanceTree, SourceTree}
use Rattle.ioa_tree.specs.Meaning.{Env, nothing_known, values_of, val, Outcome, becomes, breaks, nowhere, eff}
use Rattle.ioa_tree.specs.Instances.{field_names, position_fields, Fit, start_answer}
use Rattle.ioa_tree.specs.Proposing.{Words, Tried, tries, idle, parameters}
use Rattle.ioa_tree.specs.WellFormed.{Context, type_in, type_of, held, scope, entry_fine, proposals_fine, stmts_fine, automaton_fine, instance_fine}

-- the name stands for a value of the type
abbrev pub HasValueOf : Table → ℕ → Option Val → Type 0
HasValueOf types ty (Some v) = HasType types v ty
HasValueOf types ty None = ⊥

-- each name of the context stands for a value of its type, and no other name for anything
pub record Suits (types : Table) (c : Context) (env : Env) : Type 0 where
  pub stands : (x : Name) (ty : ℕ) → type_in c x ≡ Some ty → HasValueOf types ty (env x)
  pub others : (x : Name) → type_in c x ≡ None → env x ≡ None

-- an environment of the context's types, or a fault
abbrev pub IsTypedOutcome : Table → Context → Outcome → Type 0
IsTypedOutcome types c (becomes env) = Suits types c env
IsTypedOutcome types c (breaks f) = Unit {0}
IsTypedOutcome types c nowhere = ⊥

-- an expression with a type has a value of it, or a fault
abbrev pub ExpressionsAnswer : Type 0
ExpressionsAnswer =
    (types : Table) (c : Context) (env : Env) (e : Expr) (ty : ℕ) → AreTypes types → Suits types c env → type_of types types c e ≡ Some ty
    → IsTypedAnswer types ty (val types e env)

-- an entry's statements, where each is well typed, leave an environment of the same types, or a fault
abbrev pub EffectsAnswer : Type 0
EffectsAnswer =
    (types : Table) (globals : List Name) (a : AutomatonTree) (e : EntryTree) (ss : Stmts) (env : Env) → AreTypes types
    → IsTrue (stmts_fine types types globals a e [] ss)
    → Suits types (scope types types globals a e) env → IsTypedOutcome types (scope types types globals a e) (eff types ss env)

-- the variable starts with a value of its type, or a fault
abbrev pub StartIsTyped : Table → Env → VariableTree → Type 0
StartIsTyped types env v = (ty : ℕ) × (type_named types v.field.ty ≡ Some ty) × IsTypedAnswer types ty (start_answer types env v)

-- over values that fit its formals, each variable of a fine automaton starts with a value of its type, or a fault
abbrev pub StartsAnswer : Type 0
StartsAnswer =
    (types : Table) (globals : List Name) (a : AutomatonTree) (vs : List Val) → AreTypes types
    → IsTrue (automaton_fine types types globals a) → Fit types a.formals vs
    → All (StartIsTyped types (values_of (field_names a.formals) vs)) a.variables

-- the argument has a value of some type, or a fault
abbrev pub ArgumentIsTyped : Table → Expr → Type 0
ArgumentIsTyped types e = (ty : ℕ) × IsTypedAnswer types ty (val types e nothing_known)

-- so has each argument of a fine instance
abbrev pub ArgumentsAnswer : Type 0
ArgumentsAnswer =
    (types : Table) (before : SourceTree) (i : InstanceTree) → AreTypes types → IsTrue (instance_fine types types before i)
    → All (ArgumentIsTyped types) i.arguments

-- a value for each field, of its type, or nothing to try
abbrev pub TryFits : Table → List FieldTree → Tried (List Val) → Type 0
TryFits types fs (tries vs taken) = Fit types fs vs
TryFits types fs (idle taken) = Unit {0}

-- what well typed proposals give fits the entry's parameters
abbrev pub ProposalsAnswer : Type 0
ProposalsAnswer =
    (types : Table) (globals : List Name) (a : AutomatonTree) (e : EntryTree) (r : TransitionTree) (env : Env) (words : Words) (taken : ℕ) → AreTypes types
    → IsTrue (entry_fine types types globals a e) → IsTrue (proposals_fine types types globals a e r) → Suits types (held types types globals a) env
    → TryFits types (position_fields e.positions) (parameters words types env r.proposals e.positions taken)
