-- How much is asked of a run: how many of its actions some component has, and how many invariants are asked in each of its states.
use Rattle.std.specs.Prelude.{ℕ, List, count_by, sum_by}
use Rattle.std.specs.List.{list_any}
use Rattle.std.specs.Str.{bytes_eq}
use Rattle.ioa_value.specs.Actions.{Act, Name}
use Rattle.ioa_tree.specs.Components.{Component, has}
use Rattle.ioa_tree.specs.Instances.{Instance}
use Rattle.ioa_tree.specs.Tree.{InvariantTree}

-- how many of the actions some component has
abbrev pub known_actions : {S : Type 0} → List (Component S) → List Act → ℕ
known_actions ps acts = count_by (λ a. list_any (has a) ps) acts

-- how many of the invariants are of the automaton of this name
abbrev pub asked_of : List InvariantTree → Name → ℕ
asked_of vs automaton = count_by (λ (v : InvariantTree). bytes_eq v.automaton automaton) vs

-- how many are asked of these instances together, each of those that are of its automaton
abbrev pub asked_invariants : List InvariantTree → List Instance → ℕ
asked_invariants vs is = sum_by (λ (i : Instance). asked_of vs i.automaton.name) is
