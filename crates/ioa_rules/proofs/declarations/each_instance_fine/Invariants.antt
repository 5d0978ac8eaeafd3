use Rattle.std.proofs.Common.{◌≡◌, map, drop}
use Rattle.std.specs.List.{list_all}
use Rattle.ioa_tree.specs.View.{instance_of, tree_of}
use Rattle.ioa_tree.specs.WellFormed as well_formed
use Rattle.ioa_rules.specs.KnownTypes.{whole, early}
use Rattle.ioa_rules.proofs.declarations.each_instance_fine.Given as goal

abbrev pub invariant-loop-instance : goal.invariant-loop-instance
invariant-loop-instance l = list_all (well_formed.instance_fine (whole l.known) (early l.known) (tree_of l.before)) (map instance_of (drop l.instance-index l.composition.instances.items)) ≡ list_all (well_formed.instance_fine (whole l.known) (early l.known) (tree_of l.before)) (map instance_of l.composition.instances.items)
