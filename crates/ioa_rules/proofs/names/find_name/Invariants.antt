use Rattle.std.proofs.Common.{◌≡◌, map, drop}
use Rattle.ioa_tree.specs.View.{name_of}
use Rattle.ioa_tree.specs.WellFormed as well_formed
use Rattle.ioa_rules.proofs.names.find_name.Given as goal

abbrev pub invariant-loop-item : goal.invariant-loop-item
invariant-loop-item g l =
    well_formed.contains (map g.T.Named.called (drop l.item-index l.items)) (name_of l.name) ≡ well_formed.contains (map g.T.Named.called l.items) (name_of l.name)
