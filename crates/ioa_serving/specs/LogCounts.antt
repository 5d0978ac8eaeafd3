-- What a monitor counts of a log's actions.
use Rattle.std.specs.Prelude.{◌≡◌, ℕ, ◌++◌, List, codes, filter, length, not}
use Rattle.std.specs.Fmt.{decimal}
use Rattle.std.specs.List.{list_any}
use Rattle.ioa_value.specs.Actions.{Act, Name}
use Rattle.ioa_tree.specs.Components.{has}
use Rattle.ioa_compile.specs.Programs.{Prog}
use Rattle.ioa_compile.specs.Tables.{tabled}
use Rattle.ioa_watch.specs.Names.{names_of}
use Rattle.ioa_watch.specs.Watchers.{HasHeard, heard_by}
use Rattle.ioa_serving.specs.declared.log_counts.Known.{Known}
use Rattle.ioa_serving.specs.Counting.{taken_text}

-- those of the actions that some component has, and those that none has
abbrev pub known_among : Prog → List Act → List Act
known_among p acts = filter (λ a. list_any (has a) (tabled p)) acts

abbrev pub passed_among : Prog → List Act → List Act
passed_among p acts = filter (λ a. not (list_any (has a) (tabled p))) acts

-- a line of the program's name, these words, and how many actions were passed over
abbrev pub counts_line : Name → List ℕ → ℕ → List ℕ
counts_line x taken passed = x ++ (codes ": " ++ (taken ++ (decimal passed ++ codes " passed over\n")))

-- of the actions that it has how many it takes of each name, up to the first that it does not accept, and how many of all are none of its
abbrev pub monitor_counts : Prog → List Act → List ℕ
monitor_counts p acts = counts_line p.name (taken_text (names_of p.members) (heard_by p (known_among p acts)).counts) (length (passed_among p acts))

-- these actions came
pub record HasHeardKnown (p : Prog) (acts : List Act) (k : Known) : Type 0 where
  pub heard : HasHeard p (known_among p acts) k.watcher
  pub passed : k.passed ≡ length (passed_among p acts)
