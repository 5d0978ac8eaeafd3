use Rattle.std.proofs.Common.{◌≡◌, ◌++◌, map, take}
use Rattle.std.specs.List.{flat_map}
use Rattle.ioa_warnings.specs.Dead.{dead_in}
use Rattle.ioa_warnings.specs.Free.{lined}
use Rattle.ioa_warnings.specs.Shown.{dead_of}
use Rattle.ioa_warnings.proofs.dead.add_of_automaton.Given as goal

-- those among the transitions so far
abbrev pub invariant-loop-transition : goal.invariant-loop-transition
invariant-loop-transition l =
    map dead_of l.found.items ≡ map dead_of l.initial.found.items ++ flat_map dead_in (map lined (take l.transition-index l.automaton.transitions.items))
