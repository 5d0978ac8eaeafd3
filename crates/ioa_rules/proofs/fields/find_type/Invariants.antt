use Rattle.std.proofs.Common.{◌≡◌, map, drop}
use Rattle.ioa_tree.specs.View.{name_of}
use Rattle.ioa_tree.specs.WellFormed as well_formed
use Rattle.ioa_rules.specs.KnownTypes.{early}
use Rattle.ioa_rules.proofs.fields.find_type.Given as goal

abbrev pub invariant-loop-item : goal.invariant-loop-item
invariant-loop-item g l = well_formed.type_in (well_formed.context_of (early l.known) (map g.T.Typed.tree (drop l.item-index l.items))) (name_of l.name) ≡ well_formed.type_in (well_formed.context_of (early l.known) (map g.T.Typed.tree l.items)) (name_of l.name)
