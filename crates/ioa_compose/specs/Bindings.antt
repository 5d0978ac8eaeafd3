-- Components on the way: instances with the values of their arguments, and what evaluations leave.
use Rattle.std.specs.Prelude.{◌≡◌, ◌<◌, ◌≤◌, Bool, true, false, not, ◌&&◌, All, IsTrue, List, [], ◌∷◌, map, length, Option, Some, Result, Ok, Err, Vec}
use Rattle.std.specs.List.{list_all}
use Rattle.std.specs.Option.{option_map, option_map_or}
use Rattle.std.specs.Global.{Global}
use Rattle.ioa_arithmetic.specs.declared.arithmetic.Fault.{Fault}
use Rattle.ioa_value.specs.declared.value.Value.{Value}
use Rattle.ioa_value.specs.Actions.{Name}
use Rattle.ioa_value.specs.Names.{IsName}
use Rattle.ioa_value.specs.Plain.{Val, plain}
use Rattle.ioa_value.specs.Table.{Table, contains, all_names}
use Rattle.ioa_tree.specs.Tree.{Expr, FieldTree, AutomatonTree, CrashTree, InstanceTree, CompositionTree, SourceTree}
use Rattle.ioa_tree.specs.Names.{names_of_crash}
use Rattle.ioa_tree.specs.View.{name_of, automaton_of, crash_of}
use Rattle.ioa_tree.specs.Hosts.{crash_fine, Host}
use Rattle.ioa_tree.specs.Types.{types_of, is_named}
use Rattle.ioa_value.specs.declared.limits.TheConstants.{LIMITS}
use Rattle.ioa_tree.specs.Meaning.{Env, val}
use Rattle.ioa_tree.specs.Instances.{Instance, Fit, settled, argument_values, start_values}
use Rattle.ioa_tree.specs.Compositions.{Member, automata, automaton_named}
use Rattle.ioa_tree.specs.WellFormed.{Context, distinct, type_of, start_fine, is_type, variable_fields, automaton_fine}
use Rattle.ioa_crash.specs.Rewriting.{with_signals, own_automaton}
use Rattle.ioa_compose.specs.Signatures.{domains_in, ArePositionsOf}
use Rattle.ioa_compose.specs.Simulates.{member_for}
use Rattle.ioa_compose.specs.declared.binding.Binding.{Binding}

-- a value, or a fault
abbrev pub value_in : Result Value Fault → Result Val Fault
value_in (Ok v) = Ok (plain v)
value_in (Err f) = Err f

-- values in order, or a fault
abbrev pub values_in : Result (Vec Value Global) Fault → Result (List Val) Fault
values_in (Ok vs) = Ok (map plain vs.items)
values_in (Err f) = Err f

-- each value is of the type of the field in its place
abbrev pub fit : Table → List FieldTree → List Val → Bool
fit types [] [] = true
fit types [] (v ∷ vs) = false
fit types (f ∷ fs) [] = false
fit types (f ∷ fs) (v ∷ vs) = is_named types f.ty v && fit types fs vs

-- the expression has a type in the context
abbrev pub typed : Table → Context → Expr → Bool
typed types c e = option_map_or (λ ty. true) (type_of types types c e) false

-- without any name of an automaton
abbrev pub closed : Table → Expr → Bool
closed types e = typed types [] e

-- the expression's value, or its fault
abbrev pub start_of : Table → Env → Expr → Result Val Fault
start_of types env e = settled (val types e env)

-- an automaton with arguments
abbrev pub instance_with : Table → AutomatonTree → List Val → Instance
instance_with types a vs = record { types = types; automaton = a; arguments = vs }

-- the names by which it crashes and recovers
abbrev pub crash_in : Binding → Option CrashTree
crash_in b = option_map (λ c. crash_of c.now) b.crash

-- its own automaton is made of the one that is declared
abbrev pub IsOwn : Binding → Type 0
IsOwn b = automaton_of b.own ≡ own_automaton (crash_in b) (automaton_of b.automaton.now)

-- the instance of its automaton
abbrev pub plain_in : Table → Binding → Instance
plain_in types b = instance_with types (automaton_of b.automaton.now) (map plain b.arguments.items)

-- its positions are those of its own automaton's entries
abbrev pub HasPositions : Table → Binding → Type 0
HasPositions types b = ArePositionsOf (plain_in types b) (automaton_of b.own).entries (map domains_in b.positions.items)

-- the instance with inputs for crash and recover
abbrev pub instance_in : Table → Binding → Instance
instance_in types b = instance_with types (with_signals (crash_in b) (automaton_of b.automaton.now)) (map plain b.arguments.items)

-- the host that starts with these values
abbrev pub host_in : Table → Binding → List Val → Host
host_in types b starts = record { name = name_of b.name.now; instance = plain_in types b; starts = starts; crash = crash_in b }

-- the component stands for the host that starts with the start values
abbrev pub IsStarted : Table → Binding → Member → Type 0
IsStarted types b m = (starts : List Val) × (start_values (plain_in types b) ≡ Ok starts) × (m ≡ member_for (host_in types b starts))

-- what the instances of a well formed source have: a declared automaton, and arguments with types
pub record IsReady (s : SourceTree) (i : InstanceTree) : Type 0 where
  pub automaton : (a : AutomatonTree) × (automaton_named s i.automaton ≡ Some a)
  pub arguments : list_all (closed (types_of s)) i.arguments ≡ true

-- the binding is of the tree: the automaton of this name, with arguments that fit its formals, with names of their own for crash and
-- recover, its own automaton, and the positions of its entries
pub record Binds (s : SourceTree) (i : InstanceTree) (b : Binding) : Type 0 where
  pub name : name_of b.name.now ≡ i.name
  pub automaton : automaton_named s i.automaton ≡ Some (automaton_of b.automaton.now)
  pub arguments : argument_values (types_of s) i.arguments ≡ Ok (map plain b.arguments.items)
  pub fit : Fit (types_of s) (automaton_of b.automaton.now).formals (map plain b.arguments.items)
  pub crash : crash_in b ≡ i.crash
  pub fine : IsTrue (crash_fine i.crash (automaton_of b.automaton.now))
  pub own : IsOwn b
  pub positions : HasPositions (types_of s) b

-- the instance is that of the tree, with inputs for crash and recover
pub record IsBound (s : SourceTree) (i : InstanceTree) (n : Instance) : Type 0 where
  pub declared : AutomatonTree
  pub types : n.types ≡ types_of s
  pub named : automaton_named s i.automaton ≡ Some declared
  pub automaton : n.automaton ≡ with_signals i.crash declared
  pub arguments : argument_values (types_of s) i.arguments ≡ Ok n.arguments
  pub fit : Fit (types_of s) declared.formals n.arguments
  pub fine : IsTrue (crash_fine i.crash declared)

abbrev pub AreBound : SourceTree → List InstanceTree → List Instance → Type 0
AreBound s [] [] = Unit {0}
AreBound s [] (n ∷ ns) = ⊥
AreBound s (i ∷ is) [] = ⊥
AreBound s (i ∷ is) (n ∷ ns) = IsBound s i n × AreBound s is ns

abbrev pub AllReady : SourceTree → List InstanceTree → Type 0
AllReady s [] = Unit {0}
AllReady s (i ∷ is) = IsReady s i × AllReady s is

-- each automaton of the source has an entry
abbrev pub HaveEntries : SourceTree → Type 0
HaveEntries s = All (λ a. 0 < length a.entries) (automata s)

-- what a composition of a well formed source has: a legal name that no type gives, at least one component, of different legal names,
-- with legal names for crash and recover, not too many, and each is ready, and different hidden names, not too many; and the source's
-- automata have entries
pub record IsComposable (s : SourceTree) (c : CompositionTree) : Type 0 where
  pub legal : IsName c.name
  pub apart : IsTrue (not (contains (all_names (types_of s)) c.name))
  pub legal_names : All (λ i. IsName i.name) c.instances
  pub legal_crashes : All (λ i. All IsName (names_of_crash i.crash)) c.instances
  pub names : IsTrue (distinct (map (λ i. i.name) c.instances))
  pub some : 0 < length c.instances
  pub few : length c.instances ≤ LIMITS.components
  pub ready : AllReady s c.instances
  pub hidden : IsTrue (distinct c.hidden)
  pub few_hidden : length c.hidden ≤ LIMITS.hidden
  pub entries : HaveEntries s

-- start expressions have their variables' types, which are known
pub record StartsWell (types : Table) (a : AutomatonTree) : Type 0 where
  pub fine : list_all (start_fine types types [] a) a.variables ≡ true
  pub known : list_all (is_type types) (variable_fields a) ≡ true

-- an instance whose start can be evaluated
pub record IsStartable (n : Instance) : Type 0 where
  pub fit : Fit n.types n.automaton.formals n.arguments
  pub well : StartsWell n.types n.automaton

abbrev pub AllStartable : List Instance → Type 0
AllStartable [] = Unit {0}
AllStartable (n ∷ ns) = IsStartable n × AllStartable ns

-- the instances' automata are well formed
abbrev pub AllSound : List Instance → Type 0
AllSound [] = Unit {0}
AllSound (n ∷ ns) = ((globals : List Name) × (automaton_fine n.types n.types globals n.automaton ≡ true)) × AllSound ns

-- crash and recover have names of their own
abbrev pub AllApart : List Binding → Type 0
AllApart bs = All (λ b. IsTrue (crash_fine (crash_in b) (automaton_of b.automaton.now))) bs

-- the bindings' own automata are made of those that are declared
abbrev pub AllOwn : List Binding → Type 0
AllOwn bs = All IsOwn bs

-- their positions are those of their entries
abbrev pub AllPositioned : Table → List Binding → Type 0
AllPositioned types bs = All (HasPositions types) bs
