use Rattle.std.proofs.Common.{◌≡◌, map, drop}
use Rattle.ioa_value.specs.Table.{distinct}
use Rattle.ioa_compile.proofs.named.are_distinct.Given as goal

abbrev pub invariant-loop-i : goal.invariant-loop-i
invariant-loop-i g l = distinct (map g.T.Named.called (drop l.i l.items)) ≡ distinct (map g.T.Named.called l.items)
