use Rattle.std.proofs.Common.{map, take}
use Rattle.ioa_value.specs.Plain.{plain}
use Rattle.ioa_tree.specs.View.{automaton_of, entry_of}
use Rattle.ioa_compose.specs.Bindings.{instance_with}
use Rattle.ioa_compose.specs.Signatures.{domains_in, ArePositionsOf}
use Rattle.ioa_compose.proofs.domains.all_positions.Given as goal

abbrev pub invariant-loop-entry : goal.invariant-loop-entry
invariant-loop-entry l =
    ArePositionsOf (instance_with l.types (automaton_of l.automaton) (map plain l.arguments)) (map entry_of (take l.entry-index l.entries)) (map domains_in l.all.items)
