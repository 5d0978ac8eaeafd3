-- The rewriting of an automaton's tree by which it crashes and recovers.
use Rattle.std.specs.Prelude.{◌==◌, Bool, true, false, not, if◌then◌else◌, List, [], ◌∷◌, ◌++◌, map, filter, Option, Some, None, codes}
use Rattle.ioa_value.specs.Actions.{Name}
use Rattle.ioa_value.specs.Plain.{Val, truth as truth_value}
use Rattle.ioa_tree.specs.declared.tree.Kind.TheVariants.{Input}
use Rattle.ioa_tree.specs.declared.tree.Infix.TheVariants.{And}
use Rattle.ioa_tree.specs.Tree.{Expr, truth, named, binary, FieldTree, CrashTree, EntryTree, VariableTree, Stmt, assign, choose, Stmts, stop, seq, no_arm, arm, TransitionTree, AutomatonTree}
use Rattle.ioa_tree.specs.Instances.{Instance}
use Rattle.ioa_tree.specs.WellFormed.{is_input}

-- no name of a text begins with `#`
abbrev pub spelled : Name → Bool
spelled [] = true
spelled (b ∷ bs) = not (b == 35)

-- whether the host is up; no text spells a name that begins with `#`
abbrev pub up_name : Name
up_name = codes "#up"

-- a variable's start value; with two signs, since a variable can be called `up`
abbrev pub start_name : Name → Name
start_name x = codes "##" ++ x

abbrev pub up_variable : VariableTree
up_variable = record { stable = false; field = record { name = up_name; ty = codes "Bool" }; start = Some (truth true) }

-- the variables that a crash resets
abbrev pub volatile : List VariableTree → List VariableTree
volatile vs = filter (λ v. not v.stable) vs

-- their values among those of all
abbrev pub volatile_values : List VariableTree → List Val → List Val
volatile_values [] ws = []
volatile_values (v ∷ vs) [] = []
volatile_values (v ∷ vs) (w ∷ ws) = if v.stable then volatile_values vs ws else w ∷ volatile_values vs ws

-- a formal that is bound to a variable's start value
abbrev pub start_formal : VariableTree → FieldTree
start_formal v = record { name = start_name v.field.name; ty = v.field.ty }

-- local actions ask first whether the host is up
abbrev pub only_up : Option Expr → Expr
only_up None = named up_name
only_up (Some e) = binary (named up_name) And e

-- no effect takes place while it is down
abbrev pub if_up : Stmts → Stmts
if_up ss = seq (choose (arm (named up_name) ss no_arm) stop) stop

abbrev pub guarded : TransitionTree → TransitionTree
guarded t = record t { pre = if is_input t.kind then t.pre else Some (only_up t.pre); effect = if_up t.effect }

abbrev pub signal_entry : Name → EntryTree
signal_entry x = record { kind = Input; name = x; positions = [] }

abbrev pub signals : CrashTree → List EntryTree
signals n = signal_entry n.crash ∷ signal_entry n.recover ∷ []

abbrev pub signal_transition : Name → Stmts → TransitionTree
signal_transition x ss = record { kind = Input; name = x; pre = None; proposals = []; effect = ss }

-- the variable gets its start value
abbrev pub reset : VariableTree → Stmt
reset v = assign v.field.name (named (start_name v.field.name))

-- the variables get their start values, and the host is down
abbrev pub resets : List VariableTree → Stmts
resets [] = seq (assign up_name (truth false)) stop
resets (v ∷ vs) = seq (reset v) (resets vs)

abbrev pub crash_transition : List VariableTree → Name → TransitionTree
crash_transition vs x = signal_transition x (resets (volatile vs))

abbrev pub recover_transition : Name → TransitionTree
recover_transition x = signal_transition x (seq (assign up_name (truth true)) stop)

-- the automaton with inputs for crash and recover, by which it is compatible with others or not
abbrev pub with_signals : Option CrashTree → AutomatonTree → AutomatonTree
with_signals None a = a
with_signals (Some n) a = record a { entries = a.entries ++ signals n }

-- what is added stands last
abbrev pub rewritten : CrashTree → AutomatonTree → AutomatonTree
rewritten n a = record {
  name = a.name;
  formals = a.formals ++ map start_formal (volatile a.variables);
  entries = (with_signals (Some n) a).entries;
  variables = a.variables ++ up_variable ∷ [];
  transitions = map guarded a.transitions ++ crash_transition a.variables n.crash ∷ recover_transition n.recover ∷ [];
}

-- a component's own automaton: the one that is declared, rewritten where it crashes and recovers
abbrev pub own_automaton : Option CrashTree → AutomatonTree → AutomatonTree
own_automaton None a = a
own_automaton (Some n) a = rewritten n a

-- a transition but for its precondition and its effect
abbrev pub proposing : TransitionTree → TransitionTree
proposing t = record t { pre = None; effect = stop }

-- what an automaton gets by which it crashes and recovers: transitions that propose nothing, arguments, and a variable
abbrev pub added_proposals : Option CrashTree → List TransitionTree
added_proposals None = []
added_proposals (Some n) = signal_transition n.crash stop ∷ signal_transition n.recover stop ∷ []

abbrev pub added_arguments : Option CrashTree → List VariableTree → List Val → List Val
added_arguments None vs starts = []
added_arguments (Some n) vs starts = volatile_values vs starts

abbrev pub added_variables : Option CrashTree → List VariableTree
added_variables None = []
added_variables (Some n) = up_variable ∷ []

-- with the start values as the arguments for the added formals
abbrev pub crashing : CrashTree → Instance → List Val → Instance
crashing n i starts = record {
  types = i.types;
  automaton = rewritten n i.automaton;
  arguments = i.arguments ++ volatile_values i.automaton.variables starts;
}

-- the start values of the rewritten automaton's variables: the host is up
abbrev pub crashing_starts : List Val → List Val
crashing_starts starts = starts ++ truth_value true ∷ []

-- those of a component's own automaton
abbrev pub own_starts : Option CrashTree → List Val → List Val
own_starts None starts = starts
own_starts (Some n) starts = crashing_starts starts
