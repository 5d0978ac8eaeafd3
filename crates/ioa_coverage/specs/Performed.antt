-- How often entries are performed over the actions that a run performs: an entry is performed as often as an action is that it has (Lynch 1996, section 8.1: the
-- signature of a component says which actions are its own).
use Rattle.std.specs.Prelude.{◌≡◌, ℕ, List, count_by, map}
use Rattle.std.specs.List.{flat_map}
use Rattle.ioa_value.specs.Actions.{Act, Name}
use Rattle.ioa_tree.specs.Hosts.{Host, Hosted}
use Rattle.ioa_tree.specs.Instances.{entry_has}
use Rattle.ioa_tree.specs.Tree.{EntryTree}
use Rattle.ioa_crash.specs.Rewriting.{with_signals}
use Rattle.ioa_compile.specs.Programs.{EntryCode, MemberCode, Prog}
use Rattle.ioa_compile.specs.Subjects.{Runs}
use Rattle.ioa_compile.specs.Tables.{is_in}

-- the names of a component and of an entry of it, and how often this was performed
pub record Counted : Type 0 where
  pub component : Name
  pub entry : Name
  pub times : ℕ

abbrev pub how_often : Name → Name → ℕ → Counted
how_often component entry times = record { component = component; entry = entry; times = times }

-- the actions of several runs, one run's behind the other's
abbrev pub all_of : List (List Act) → List Act
all_of runs = flat_map (λ acts. acts) runs

-- ---- of the hosts that a source declares

-- as often as an action of the entry stands among these; while a host is down its inputs are performed, too, and change nothing
abbrev pub of_entry : List Act → Host → EntryTree → Counted
of_entry acts p e = how_often p.name e.name (count_by (λ a. entry_has p.instance a e) acts)

-- of each entry of a host; to crash and to recover are two more, where it does
abbrev pub of_host : List Act → Host → List Counted
of_host acts p = map (of_entry acts p) (with_signals p.crash p.instance.automaton).entries

abbrev pub counted_in : Hosted → List Act → List Counted
counted_in h acts = flat_map (of_host acts) h.hosts

-- ---- of a program's table

abbrev pub of_code : List Act → MemberCode → EntryCode → Counted
of_code acts m e = how_often m.name e.name (count_by (λ a. is_in m.start.table a e) acts)

abbrev pub of_member : List Act → MemberCode → List Counted
of_member acts m = map (of_code acts m) m.entries

abbrev pub counted_table : Prog → List Act → List Counted
counted_table p acts = flat_map (of_member acts) p.members

-- they are the same, where the program does what the hosts do
abbrev pub CoverageIsTheHosts : Type 0
CoverageIsTheHosts = (p : Prog) (h : Hosted) (acts : List Act) → Runs p h → counted_table p acts ≡ counted_in h acts
