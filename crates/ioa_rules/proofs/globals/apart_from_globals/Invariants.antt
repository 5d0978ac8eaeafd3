use Rattle.std.proofs.Common.{◌≡◌, map, drop}
use Rattle.ioa_tree.specs.WellFormed as well_formed
use Rattle.ioa_rules.proofs.globals.apart_from_globals.Given as goal

abbrev pub invariant-loop-item : goal.invariant-loop-item
invariant-loop-item g l =
    well_formed.apart (map g.T.Named.called (drop l.item-index l.items)) l.globals ≡ well_formed.apart (map g.T.Named.called l.items) l.globals
