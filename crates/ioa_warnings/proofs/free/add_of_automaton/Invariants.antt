use Rattle.std.proofs.Common.{◌≡◌, ◌++◌, map, take}
use Rattle.std.specs.List.{flat_map}
use Rattle.ioa_tree.specs.View.{automaton_of, entry_of}
use Rattle.ioa_warnings.specs.Free.{free_of_entry, lined}
use Rattle.ioa_warnings.specs.Shown.{free_of}
use Rattle.ioa_warnings.proofs.free.add_of_automaton.Given as goal

-- those of the entries so far
abbrev pub invariant-loop-entry : goal.invariant-loop-entry
invariant-loop-entry l =
    map free_of l.found.items ≡ map free_of l.initial.found.items ++ flat_map (free_of_entry (automaton_of l.automaton) (map lined l.automaton.transitions.items)) (map entry_of (take l.entry-index l.automaton.entries.items))
