use Rattle.std.proofs.Common.{refl}
use Rattle.ioa_tree.specs.View.{position_of}
use Rattle.ioa_rules.proofs.SayLemmas.{says-in-list}
use Rattle.ioa_rules.proofs.positions.positions_fine.Goals as goal

pub returns-in_err-position_fine : goal.returns-in_err-position_fine
returns-in_err-position_fine c =
    says-in-list _ c.from_residual.result _ _ _ position_of _ _ _ c.position-item.result refl c.loop-position-test.true c.position-item.is
    c.loop-position.invariant c.in_err-position_fine.was c.from_residual.ensures.1 c.position_fine.ensures
