-- The lines that tell what is enabled in the states of hosts: of each first its own actions that are enabled, and then its inputs; and parts of these lines.
use Rattle.std.specs.Prelude.{◌≡◌, ◌++◌, ◌==◌, ℕ, Bool, true, false, not, List, [], ◌∷◌, Option, Some, None, cond, codes, length, nat_lt, slice_get}
use Rattle.std.specs.Fmt.{decimal}
use Rattle.std.specs.List.{flat_map}
use Rattle.ioa_value.specs.Actions.{Act, Name}
use Rattle.ioa_value.specs.Plain.{Val}
use Rattle.ioa_value.specs.Table.{Table}
use Rattle.ioa_value.specs.Written.{written_action}
use Rattle.ioa_tree.specs.Components.{is_local}
use Rattle.ioa_tree.specs.Compositions.{Member}
use Rattle.ioa_tree.specs.Hosts.{Host, HostState, Hosted, host_of}
use Rattle.ioa_tree.specs.Meaning.{Env}
use Rattle.ioa_tree.specs.Tree.{EntryTree}
use Rattle.ioa_crash.specs.Rewriting.{with_signals}
use Rattle.ioa_compile.specs.Programs.{EntryCode, MemberCode}
use Rattle.ioa_compile.specs.Tables.{table_component}
use Rattle.ioa_picture.specs.Lines.{numbered}
use Rattle.ioa_enabled.specs.declared.part.Part.{Part}
use Rattle.ioa_enabled.specs.declared.telling.TheConstants.{MOST}
use Rattle.ioa_enabled.specs.Sampled.{HasWays}
use Rattle.ioa_enabled.specs.Signed.{input_lines}
use Rattle.ioa_enabled.specs.Ways.{Values, enabled_ways, total, ways}

-- an action of the component of this name
abbrev pub action_line : Table → Name → Act → List ℕ
action_line types x a = x ++ (codes ": " ++ (written_action types a ++ codes "\n"))

-- how many of the first ways are enabled, where there are too many
abbrev pub count_line : Name → Name → ℕ → List ℕ
count_line x y count = x ++ (codes ": " ++ (y ++ (codes ": more than 64 proposals, " ++ (decimal count ++ codes " of the first 64 are enabled\n"))))

-- of the entry of this name, by whether it has more ways, and those that are enabled
abbrev pub offer_lines : Table → Name → Name → Bool → List Act → List ℕ
offer_lines types x y true as' = count_line x y (length as')
offer_lines types x y false as' = flat_map (action_line types x) as'

-- a part has the lines of an entry, by whether none of its actions is enabled that are tried
abbrev pub tells : Part → Bool → Bool
tells Part.All none = true
tells Part.Own none = true
tells Part.Enabled none = not none

abbrev pub is_none : List Act → Bool
is_none as' = length as' == 0

-- those that are in the part
abbrev pub lines_in : Part → Table → Name → Name → Bool → List Act → List ℕ
lines_in part types x y more as' = cond (tells part (is_none as')) (offer_lines types x y more as') []

-- the inputs of the component of this name stand among all lines alone
abbrev pub inputs_in : Part → Name → List EntryTree → List ℕ
inputs_in Part.All x es = flat_map (input_lines x) es
inputs_in Part.Own x es = []
inputs_in Part.Enabled x es = []

-- nothing is told so of an input
abbrev pub lines_of_entry : Part → Table → Host → HostState Env → EntryTree → List ℕ
lines_of_entry part types p h e =
    cond (is_local (Some e.kind))
    (lines_in part types p.name e.name (nat_lt MOST (total (ways p.instance e h.inner))) (enabled_ways (host_of p) h e.name (ways p.instance e h.inner) MOST))
    []

-- of a component that crashes and recovers these are two more inputs
abbrev pub lines_of_host : Part → Table → Host → HostState Env → List ℕ
lines_of_host part types p h =
    flat_map (lines_of_entry part types p h) p.instance.automaton.entries ++ inputs_in part p.name (with_signals p.crash p.instance.automaton).entries

-- those of each component, in their order
abbrev pub part_lines : Part → Table → List Host → List (HostState Env) → List ℕ
part_lines part types [] hs = []
part_lines part types (p ∷ ps) [] = []
part_lines part types (p ∷ ps) (h ∷ hs) = lines_of_host part types p h ++ part_lines part types ps hs

abbrev pub enabled_lines : Table → List Host → List (HostState Env) → List ℕ
enabled_lines types ps hs = part_lines Part.All types ps hs

-- each host's instance is over the types of all
abbrev pub ShareTypes : Hosted → Type 0
ShareTypes h = (i : ℕ) (p : Host) → slice_get h.hosts i ≡ Some p → p.instance.types ≡ h.types

-- ---- of a program's table, whose entries have these ways

-- each local entry of the component has those of its place
abbrev pub HaveWays : MemberCode → List Val → (ℕ → List Values) → Type 0
HaveWays m s w = (k : ℕ) (d : EntryCode) → slice_get m.entries k ≡ Some d → is_local (Some d.kind) ≡ true → HasWays d s (w k)

-- so of each component
abbrev pub AllHaveWays : List MemberCode → List (List Val) → (ℕ → ℕ → List Values) → Type 0
AllHaveWays ms vss w = (i : ℕ) (m : MemberCode) (s : List Val) → slice_get ms i ≡ Some m → slice_get vss i ≡ Some s → HaveWays m s (w i)

abbrev pub code_lines : Part → Table → Name → MemberCode → List Val → (ℕ → List Values) → ℕ → EntryCode → List ℕ
code_lines part types x m s w k d =
    cond (is_local (Some d.kind)) (lines_in part types x d.name (nat_lt MOST (total (w k))) (enabled_ways (table_component m) s d.name (w k) MOST)) []

-- those of the component that is made of this one of the composition
abbrev pub member_lines : Part → Table → Member → MemberCode → List Val → (ℕ → List Values) → List ℕ
member_lines part types c m s w = numbered (code_lines part types c.name m s w) 0 m.entries ++ inputs_in part c.name c.instance.automaton.entries

abbrev pub lines_of : Part → Table → Option Member → Option MemberCode → List Val → (ℕ → List Values) → List ℕ
lines_of part types (Some c) (Some m) s w = member_lines part types c m s w
lines_of part types (Some c) None s w = []
lines_of part types None (Some m) s w = []
lines_of part types None None s w = []

-- those of the component of this number
abbrev pub lines_at : Part → Table → List Member → List MemberCode → (ℕ → ℕ → List Values) → ℕ → List Val → List ℕ
lines_at part types cs ms w i s = lines_of part types (slice_get cs i) (slice_get ms i) s (w i)
