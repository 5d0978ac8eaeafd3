use Rattle.std.proofs.Common.{◌≡◌, map, drop}
use Rattle.std.specs.List.{list_all}
use Rattle.ioa_tree.specs.WellFormed as well_formed
use Rattle.ioa_rules.specs.KnownTypes.{early}
use Rattle.ioa_rules.proofs.fields.types_known.Given as goal

abbrev pub invariant-loop-item : goal.invariant-loop-item
invariant-loop-item g l = list_all (well_formed.is_type (early l.known)) (map g.T.Typed.tree (drop l.item-index l.items)) ≡ list_all (well_formed.is_type (early l.known)) (map g.T.Typed.tree l.items)
