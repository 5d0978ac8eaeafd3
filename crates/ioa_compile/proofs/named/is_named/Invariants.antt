use Rattle.std.proofs.Common.{◌≡◌, map, drop}
use Rattle.ioa_value.specs.Table.{contains}
use Rattle.ioa_compile.proofs.named.is_named.Given as goal

abbrev pub invariant-loop-item : goal.invariant-loop-item
invariant-loop-item g l = contains (map g.T.Named.called (drop l.item-index l.items)) l.name ≡ contains (map g.T.Named.called l.items) l.name
