use Rattle.std.proofs.Common.{sym, subst}
use Rattle.ioa_code.specs.Stacks.{Deepens}
use Rattle.ioa_code.proofs.Depths.{deeper, deepens_under, deepens_below}
use Rattle.ioa_code.proofs.stacks.deepened.Goals as goal
use Rattle.ioa_code.proofs.stacks.deepened.Goals.{then-first_step-second_step, else-first_step-second_step}

pub returns : goal.returns
returns c =
    let s = c.args.stacks.now in
    elim c.if-first_step-second_step.branch [
      | then-first_step-second_step w ↦
          subst (λ u. Deepens s c.args.below (deeper c.depth_of-here.result u)) (sym w.under-is) (deepens_under s c.args.below c.depth_of-here.result c.depth_of-here.ensures.is c.depth_of-next.result c.depth_of-next.ensures.is)
      | else-first_step-second_step w ↦
          subst (λ u. Deepens s c.args.below (deeper c.depth_of-here.result u)) (sym w.under-is) (deepens_below s c.args.below c.depth_of-here.result c.depth_of-here.ensures.is)
    ]
