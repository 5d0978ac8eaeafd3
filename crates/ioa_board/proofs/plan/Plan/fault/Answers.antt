use Rattle.ioa_board.proofs.Making.{goes}
use Rattle.ioa_board.proofs.plan.Plan.fault.Goals as goal

pub returns-in-Next-clause-none : goal.returns-in-Next-clause-none
returns-in-Next-clause-none c = goes _ _ _ c.self.invariant.result c.self.invariant.usable c.in-Next.is c.self.view_is
