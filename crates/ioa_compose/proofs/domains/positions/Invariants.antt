use Rattle.std.proofs.Common.{map, take}
use Rattle.ioa_value.specs.Plain.{plain}
use Rattle.ioa_value.specs.Positions.{domain_of}
use Rattle.ioa_tree.specs.View.{automaton_of, position_of}
use Rattle.ioa_tree.specs.Domains.{AreDomainsOf}
use Rattle.ioa_compose.specs.Bindings.{instance_with}
use Rattle.ioa_compose.proofs.domains.positions.Given as goal

abbrev pub invariant-loop-position : goal.invariant-loop-position
invariant-loop-position l =
    AreDomainsOf (instance_with l.types (automaton_of l.automaton) (map plain l.arguments))
    (map position_of (take l.position-index l.entry.positions.items)) (map domain_of l.positions.items)
