use Rattle.std.proofs.Common.{◌≡◌, ◌+◌, drop}
use Rattle.ioa_tree.specs.View.{arms_of, stmts_of}
use Rattle.ioa_coverage.specs.Taken as taken
use Rattle.ioa_coverage.proofs.effects.+places.Given as goal

abbrev pub invariant-places_in-loop-statement : goal.invariant-places_in-loop-statement
invariant-places_in-loop-statement l =
    l.total + taken.places_in (stmts_of (drop l.statement-index l.statements)) ≡ taken.places_in (stmts_of l.statements)

abbrev pub invariant-places_of-loop-arm : goal.invariant-places_of-loop-arm
invariant-places_of-loop-arm l =
    l.total + taken.places_of (arms_of (drop l.arm-index l.arms)) ≡ taken.places_of (arms_of l.arms)
