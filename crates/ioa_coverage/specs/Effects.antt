-- What is kept of entries' effects on their way, and how often their arms and bodies are taken by the states of a program's slots.
use Rattle.std.specs.Prelude.{◌≡◌, ◌+◌, ◌++◌, ◌∷◌, ◌&&◌, ℕ, All, Bool, true, List, [], Option, Some, None, if◌then◌else◌, length, map, replicate, slice_get, take}
use Rattle.std.specs.List.{flat_map}
use Rattle.std.specs.Option.{option_map_or}
use Rattle.std.specs.String.{string_bytes}
use Rattle.ioa_value.specs.Actions.{Act, Name}
use Rattle.ioa_value.specs.declared.value.Value.{Value}
use Rattle.ioa_value.specs.Plain.{Val, items, name, num, plain, truth, tuple}
use Rattle.ioa_value.specs.Table.{AreTypes, Table}
use Rattle.ioa_value.specs.Typing.{HaveTypes}
use Rattle.ioa_tree.specs.declared.tree.Automaton.{Automaton}
use Rattle.ioa_tree.specs.Compositions.{Member, automaton_named}
use Rattle.ioa_tree.specs.Instances.{Instance, environment, state_of, transition_for}
use Rattle.ioa_tree.specs.Meaning.{Env}
use Rattle.ioa_tree.specs.Names.{LegalNames}
use Rattle.ioa_tree.specs.Tree.{AutomatonTree, EntryTree, SourceTree, Stmts, TransitionTree, stop}
use Rattle.ioa_tree.specs.View.{automaton_of, entry_of, stmts_of, tree_of}
use Rattle.ioa_tree.specs.WellFormed.{WellFormed}
use Rattle.ioa_compose.specs.Held.{composed_of}
use Rattle.ioa_compile.specs.Programs.{EntryCode, MemberCode, Prog}
use Rattle.ioa_compile.specs.Shown.{entry_code, member_code}
use Rattle.ioa_compile.specs.Tables.{IsProgram, is_in, start_states, tabled}
use Rattle.ioa_coverage.specs.declared.effect.Effect.{Effect}
use Rattle.ioa_coverage.specs.declared.origin.Origin.{Origin}
use Rattle.ioa_coverage.specs.Following.{MayFollowAll, with_marks}
use Rattle.ioa_coverage.specs.declared.coverage.Coverage.{Coverage}
use Rattle.ioa_coverage.specs.declared.coverage.Row.{Row}
use Rattle.ioa_coverage.specs.Counts.{CountsAll, told_row}
use Rattle.ioa_coverage.specs.Performed.{all_of}
use Rattle.ioa_coverage.specs.Taken.{Told, effect_labels, marks_in, places_in, row_of_entry, row_of_place, taken_over}

-- an entry of a component: its component's number and instance, the entry as the program's table and as the source has it, and the statements of its effect
pub record EntryEffect : Type 0 where
  pub number : ℕ
  pub member : MemberCode
  pub code : EntryCode
  pub instance : Instance
  pub entry : EntryTree
  pub statements : Stmts

-- ---- what it takes in a program's slots

-- behind the variables stands whether the component is up, where it crashes and recovers
abbrev pub is_up_by : Option Val → Bool
is_up_by None = true
is_up_by (Some (truth up)) = up
is_up_by (Some (num z)) = true
is_up_by (Some (name ty n)) = true
is_up_by (Some (tuple ty vs)) = true
is_up_by (Some (items ty vs)) = true

abbrev pub is_up : Instance → List Val → Bool
is_up i slots = is_up_by (slice_get slots (length i.automaton.variables))

abbrev pub environment_in : EntryEffect → Act → List Val → Env
environment_in e a slots = environment e.instance e.entry a.vals (state_of e.instance.automaton slots)

-- by this action, where these are its component's
abbrev pub taken_in_slots : EntryEffect → Act → List Val → List ℕ
taken_in_slots e a slots =
    if is_in e.member.start.table a e.code && is_up e.instance slots then marks_in e.instance.types 0 e.statements (environment_in e a slots) else []

-- among those of all components
abbrev pub taken_at : EntryEffect → Act → List (List Val) → List ℕ
taken_at e a states = option_map_or (taken_in_slots e a) (slice_get states e.number) []

-- over a run of the program, and over several
abbrev pub taken_by_run : Prog → EntryEffect → List Act → List ℕ
taken_by_run p e acts = taken_over (tabled p) (taken_at e) acts (start_states p)

abbrev pub taken_by_runs : Prog → List (List Act) → EntryEffect → List ℕ
taken_by_runs p runs e = flat_map (taken_by_run p e) runs

-- ---- what may be followed

-- in slots of its component's types, by an action that the entry has
pub record MayTake (p : Prog) (e : EntryEffect) : Type 0 where
  pub member : slice_get p.members e.number ≡ Some e.member
  pub types : AreTypes e.instance.types
  pub follow : (a : Act) (slots : List Val) → HaveTypes e.member.start.table slots e.member.start.types → is_in e.member.start.table a e.code ≡ true
      → MayFollowAll e.instance.types (environment_in e a slots) e.statements

-- ---- what is kept, as plain data

abbrev pub instance_of : Table → Automaton → List Value → Instance
instance_of types a arguments = record { types = types; automaton = automaton_of a; arguments = map plain arguments }

abbrev pub effect_of : Effect → EntryEffect
effect_of x = record {
  number = x.number;
  member = member_code x.member.now;
  code = entry_code x.entry.now;
  instance = instance_of x.types.now x.automaton.now x.arguments.now;
  entry = entry_of x.declared.now;
  statements = stmts_of x.statements.now;
}

-- a count for each arm and body, and what these are called
abbrev pub HasPlaces : Effect → Type 0
HasPlaces x = (map string_bytes x.labels.items ≡ effect_labels (stmts_of x.statements.now)) × (length x.taken.items ≡ places_in (stmts_of x.statements.now))

-- the counts of these
abbrev pub counts_of : Effect → List ℕ
counts_of x = x.taken.items

abbrev pub none_taken : EntryEffect → List ℕ
none_taken e = replicate (places_in e.statements) 0

abbrev pub counts_by : Prog → List (List Act) → EntryEffect → List ℕ
counts_by p runs e = with_marks (none_taken e) (taken_by_runs p runs e)

-- these are the effects, and their counts those of these runs
pub record TakesAll (p : Prog) (es : List EntryEffect) (runs : List (List Act)) (xs : List Effect) : Type 0 where
  pub effects : map effect_of xs ≡ es
  pub places : All HasPlaces xs
  pub counts : map counts_of xs ≡ map (counts_by p runs) es

-- ---- the effects of a source

-- the instance that is declared: of the component's own automaton, by its name, without what is added by which it crashes and recovers
abbrev pub declared_automaton : SourceTree → AutomatonTree → AutomatonTree
declared_automaton s own = option_map_or (λ a. a) (automaton_named s own.name) own

abbrev pub declared_instance : SourceTree → Table → Member → Instance
declared_instance s types m = record {
  types = types;
  automaton = declared_automaton s m.instance.automaton;
  arguments = take (length (declared_automaton s m.instance.automaton).formals) m.instance.arguments;
}

abbrev pub entry_effect : ℕ → MemberCode → Instance → EntryTree → EntryCode → EntryEffect
entry_effect number m i e c = record {
  number = number;
  member = m;
  code = c;
  instance = i;
  entry = e;
  statements = option_map_or (λ (t : TransitionTree). t.effect) (transition_for i.automaton e) stop;
}

abbrev pub entry_effects : ℕ → MemberCode → Instance → List EntryTree → List EntryCode → List EntryEffect
entry_effects number m i [] cs = []
entry_effects number m i (e ∷ es) [] = []
entry_effects number m i (e ∷ es) (c ∷ cs) = entry_effect number m i e c ∷ entry_effects number m i es cs

abbrev pub member_effects : SourceTree → Table → ℕ → Member → MemberCode → List EntryEffect
member_effects s types number m c = entry_effects number c (declared_instance s types m) m.instance.automaton.entries c.entries

abbrev pub effects_from : SourceTree → Table → ℕ → List Member → List MemberCode → List EntryEffect
effects_from s types n [] cs = []
effects_from s types n (m ∷ ms) [] = []
effects_from s types n (m ∷ ms) (c ∷ cs) = member_effects s types n m c ++ effects_from s types (n + 1) ms cs

-- of a source those of its composition's entries; of an object none are known
abbrev pub effects_in : Prog → Option Origin → List EntryEffect
effects_in p None = []
effects_in p (Some x) = effects_from (tree_of x.checked) x.composition.types 0 (composed_of x.composition).members p.members

-- ---- as they are told

abbrev pub rows_of_counts : Name → Name → List (List ℕ) → List ℕ → List Told
rows_of_counts component entry [] ns = []
rows_of_counts component entry (label ∷ labels) [] = []
rows_of_counts component entry (label ∷ labels) (n ∷ ns) = row_of_place component entry label n ∷ rows_of_counts component entry labels ns

-- of an arm or a body of an entry
abbrev pub place_row : Row → List ℕ → ℕ → Told
place_row r label times = row_of_place (string_bytes r.member.now.name) (string_bytes r.entry.now.name) label times

-- of an entry, and of its arms and bodies, where its effect is known
abbrev pub told_effect : Row → Effect → List Told
told_effect r x = rows_of_counts (string_bytes r.member.now.name) (string_bytes r.entry.now.name) (map string_bytes x.labels.items) x.taken.items

abbrev pub told_rows : List Row → List Effect → List Told
told_rows [] xs = []
told_rows (r ∷ rs) [] = row_of_entry (told_row r) ∷ told_rows rs []
told_rows (r ∷ rs) (x ∷ xs) = row_of_entry (told_row r) ∷ (told_effect r x ++ told_rows rs xs)

-- ---- all that is counted

-- a source that is well formed, where there is one
abbrev pub IsFine : Option Origin → Type 0
IsFine None = Unit {0}
IsFine (Some x) = WellFormed (tree_of x.checked) × LegalNames (tree_of x.checked)

-- each entry of the program over the actions of these runs, and what their effects take in them
pub record CoversAll (p : Prog) (source : Option Origin) (runs : List (List Act)) (c : Coverage) : Type 0 where
  pub program : c.program.now ≡ p
  pub sound : IsProgram p
  pub fine : IsFine source
  pub rows : CountsAll p (all_of runs) c.rows.items
  pub effects : TakesAll p (effects_in p source) runs c.effects.items
