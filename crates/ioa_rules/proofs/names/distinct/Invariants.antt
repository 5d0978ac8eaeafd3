use Rattle.std.proofs.Common.{◌≡◌, map, length}
use Rattle.ioa_tree.specs.WellFormed as well_formed
use Rattle.ioa_rules.proofs.names.distinct.Given as goal

abbrev pub invariant-loop-rest : goal.invariant-loop-rest
invariant-loop-rest g l = well_formed.distinct (map g.T.Named.called l.rest) ≡ well_formed.distinct (map g.T.Named.called l.items)

abbrev pub decreases-loop-rest : goal.decreases-loop-rest
decreases-loop-rest g l = length l.rest
