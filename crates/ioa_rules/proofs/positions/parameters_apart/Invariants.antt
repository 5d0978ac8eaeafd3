use Rattle.std.proofs.Common.{◌≡◌, ◌++◌, [], drop}
use Rattle.ioa_tree.specs.Instances.{field_names}
use Rattle.ioa_tree.specs.View.{automaton_of}
use Rattle.ioa_tree.specs.WellFormed as well_formed
use Rattle.ioa_rules.specs.Fields.{parameters}
use Rattle.ioa_rules.proofs.positions.parameters_apart.Given as goal

abbrev pub invariant-loop-position : goal.invariant-loop-position
invariant-loop-position l =
    let others = l.globals ++ well_formed.local_names [] [] [] (automaton_of l.automaton) in
    well_formed.apart (field_names (parameters (drop l.position-index l.positions))) others ≡ well_formed.apart (field_names (parameters l.positions)) others
