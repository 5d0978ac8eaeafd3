-- What a program's table does: the components that its composition's step is made of.
use Rattle.std.specs.Prelude.{◌≡◌, ◌<◌, ◌≤◌, not, All, IsTrue, length, ℕ, Bool, true, false, ◌&&◌, List, [], ◌∷◌, map, find, Option, Some, None, IfSome, Result, Ok}
use Rattle.std.specs.List.{list_any, list_all}
use Rattle.std.specs.Option.{option_map, option_map_or}
use Rattle.std.specs.Str.{bytes_eq}
use Rattle.ioa_arithmetic.specs.declared.arithmetic.Fault.{Fault}
use Rattle.ioa_value.specs.Actions.{Name, Act}
use Rattle.ioa_value.specs.Names.{IsName}
use Rattle.ioa_value.specs.Plain.{Val}
use Rattle.ioa_value.specs.Table.{Table, AreTypes, contains, all_names}
use Rattle.ioa_value.specs.Positions.{Domain, every, single, IsDomain, all_take, domain_type}
use Rattle.ioa_value.specs.Typing.{HaveTypes}
use Rattle.ioa_value.specs.declared.limits.TheConstants.{LIMITS}
use Rattle.ioa_code.specs.declared.instr.PartKind.{PartKind}
use Rattle.ioa_code.specs.declared.instr.PartKind.TheVariants.{Pre, Propose, Eff}
use Rattle.ioa_code.specs.Parts.{IsVerified}
use Rattle.ioa_code.specs.Valid.{Part}
use Rattle.ioa_parts.specs.Runs.{guard_of, effect_of}
use Rattle.ioa_tree.specs.declared.tree.Kind.{Kind}
use Rattle.ioa_tree.specs.declared.tree.Kind.TheVariants.{Input, Output, Internal}
use Rattle.ioa_tree.specs.Components.{Component, Compatible, is_output}
use Rattle.ioa_tree.specs.WellFormed.{distinct}
use Rattle.ioa_crash.specs.Limits.{component_limits}
use Rattle.ioa_compile.specs.declared.limits.TheConstants.{MOST_PLACES}
use Rattle.ioa_compile.specs.Programs.{EntryCode, MemberCode, Prog}

-- the action is in the entry
abbrev pub is_in : Table → Act → EntryCode → Bool
is_in types a e = bytes_eq e.name a.name && all_take types e.positions a.vals

-- the entry that has the action
abbrev pub entry_of : MemberCode → Act → Option EntryCode
entry_of m a = find (is_in m.start.table a) m.entries

-- an entry without code for a precondition asks for nothing
abbrev pub allows : Option Part → List Val → List Val → Result Bool Fault
allows None slots args = Ok true
allows (Some part) slots args = guard_of part slots args

-- a component whose state is the values of its variables
abbrev pub table_component : MemberCode → Component (List Val)
table_component m = record {
  kind_of = λ a. option_map (λ e. e.kind) (entry_of m a);
  guard = λ a slots. option_map_or (λ e. allows e.pre slots a.vals) (entry_of m a) (Ok false);
  effect = λ a slots. option_map_or (λ e. effect_of e.effect slots a.vals) (entry_of m a) (Ok slots);
}

-- the program's components in order
abbrev pub tabled : Prog → List (Component (List Val))
tabled p = map table_component p.members

-- the states in which they start
abbrev pub start_states : Prog → List (List Val)
start_states p = map (λ m. m.start.values) p.members

-- the types of what stands in positions, constants too
abbrev pub position_types : List Domain → List ℕ
position_types ds = map domain_type ds

-- the types of the parameters among the positions, in order
abbrev pub parameter_types : List Domain → List ℕ
parameter_types [] = []
parameter_types (every ty ∷ ds) = ty ∷ parameter_types ds
parameter_types (single v ∷ ds) = parameter_types ds

-- the part is verified code of this kind, over the component's types and variables and values of these types, and ends with
-- values of those types on the stack
pub record IsPart (m : MemberCode) (k : PartKind) (values end : List ℕ) (part : Part) : Type 0 where
  pub verified : IsVerified part
  pub types : part.code.types ≡ m.start.table
  pub kind : part.kind ≡ k
  pub result : part.result ≡ end
  pub slots : part.slots ≡ m.start.types
  pub args : part.args ≡ values
  pub short : length part.code.instrs ≤ MOST_PLACES

-- over the values of the entry's positions
abbrev pub IsPartOf : MemberCode → EntryCode → PartKind → List ℕ → Part → Type 0
IsPartOf m e k end part = IsPart m k (position_types e.positions) end part

-- an input has none; any other entry has one, of which this is so
abbrev pub HasLocal : {X : Type 0} → (X → Type 0) → Kind → Option X → Type 0
HasLocal P Input None = Unit {0}
HasLocal P Input (Some x) = ⊥
HasLocal P Output None = ⊥
HasLocal P Output (Some x) = P x
HasLocal P Internal None = ⊥
HasLocal P Internal (Some x) = P x

-- a precondition ends with one truth value
abbrev pub HasPre : MemberCode → EntryCode → Kind → Option Part → Type 0
HasPre m e k pre = HasLocal (IsPartOf m e Pre (0 ∷ [])) k pre

-- proposals are given no value of an action, and end with a value for each parameter
abbrev pub HasPropose : MemberCode → EntryCode → Kind → Option Part → Type 0
HasPropose m e k propose = HasLocal (IsPart m Propose [] (parameter_types e.positions)) k propose

-- the name is legal, and each position has a value; an effect ends with nothing; the parts of an entry carry one table of
-- constants
pub record IsEntry (m : MemberCode) (e : EntryCode) : Type 0 where
  pub legal : IsName e.name
  pub few_positions : length e.positions ≤ LIMITS.parameters
  pub positions : All (IsDomain m.start.table) e.positions
  pub pre : HasPre m e e.kind e.pre
  pub propose : HasPropose m e e.kind e.propose
  pub effect : IsPartOf m e Eff [] e.effect
  pub consts : IfSome e.pre (λ part. part.code.consts ≡ e.effect.code.consts)
  pub same_consts : IfSome e.propose (λ part. part.code.consts ≡ e.effect.code.consts)
  pub few_consts : length e.effect.code.consts ≤ MOST_PLACES

abbrev pub AreEntries : MemberCode → List EntryCode → Type 0
AreEntries m [] = Unit {0}
AreEntries m (e ∷ es) = IsEntry m e × AreEntries m es

-- some names, no more than so many, and no two of them alike
abbrev pub AreFew : ℕ → List Name → Type 0
AreFew most ns = (0 < length ns) × (length ns ≤ most) × IsTrue (distinct ns)

-- the component's name is legal, it has these types, its variables start with values of theirs, and it has an entry, and entries of
-- different names
pub record IsMember (types : Table) (m : MemberCode) : Type 0 where
  pub legal : IsName m.name
  pub types_are : m.start.table ≡ types
  pub few_variables : length m.start.types ≤ component_limits.variables
  pub typed : HaveTypes types m.start.values m.start.types
  pub some_entries : 0 < length m.entries
  pub few_entries : length m.entries ≤ component_limits.entries
  pub names : IsTrue (distinct (map (λ e. e.name) m.entries))
  pub entries : AreEntries m m.entries

abbrev pub AreMembers : Table → List MemberCode → Type 0
AreMembers types [] = Unit {0}
AreMembers types (m ∷ ms) = IsMember types m × AreMembers types ms

-- one of these entries is an output of this name
abbrev pub has_output : List EntryCode → Name → Bool
has_output es x = list_any (λ e. is_output (Some e.kind) && bytes_eq e.name x) es

-- one of these components has an output of this name
abbrev pub have_output : List MemberCode → Name → Bool
have_output ms x = list_any (λ m. has_output m.entries x) ms

-- an output of one of the components has this name
abbrev pub is_output_of : Prog → Name → Bool
is_output_of p x = have_output p.members x

-- what a program keeps, with this of its components together: its name is legal and none that a type gives, it has a component, the
-- components have one table of types and different names, and the hidden names are different outputs'
pub record AreTables (together : Type 0) (p : Prog) : Type 0 where
  pub types : AreTypes p.types
  pub legal : IsName p.name
  pub apart : IsTrue (not (contains (all_names p.types) p.name))
  pub some_members : 0 < length p.members
  pub few_members : length p.members ≤ LIMITS.components
  pub names : IsTrue (distinct (map (λ m. m.name) p.members))
  pub members : AreMembers p.types p.members
  pub compatible : together
  pub few_hidden : length p.hidden ≤ LIMITS.hidden
  pub hidden : IsTrue (distinct p.hidden)
  pub outputs : IsTrue (list_all (is_output_of p) p.hidden)

-- the tables are right, whether the components are compatible or not
abbrev pub AreRight : Prog → Type 0
AreRight p = AreTables (Unit {0}) p

-- a program's tables are right, and its components are compatible
abbrev pub IsProgram : Prog → Type 0
IsProgram p = AreTables (Compatible (tabled p)) p
