use Rattle.std.proofs.Common.{◌≡◌, ◌++◌, map, take}
use Rattle.std.specs.List.{flat_map}
use Rattle.ioa_tree.specs.View.{automaton_of, entry_of}
use Rattle.ioa_warnings.specs.Free.{free_in, lined}
use Rattle.ioa_warnings.specs.Shown.{free_of}
use Rattle.ioa_warnings.proofs.free.add_of_entry.Given as goal

-- those in the transitions so far
abbrev pub invariant-loop-transition : goal.invariant-loop-transition
invariant-loop-transition l =
    map free_of l.found.items
    ≡ map free_of l.initial.found.items ++ flat_map (free_in (automaton_of l.automaton) (entry_of l.entry)) (map lined (take l.transition-index l.automaton.transitions.items))
