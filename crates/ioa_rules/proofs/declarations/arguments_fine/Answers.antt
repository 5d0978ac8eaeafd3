use Rattle.std.proofs.Common.{refl}
use Rattle.ioa_tree.specs.View.{expr_of}
use Rattle.ioa_rules.proofs.SayLemmas.{says-in-list}
use Rattle.ioa_rules.proofs.declarations.arguments_fine.Goals as goal

pub returns-in_err-argument_fine : goal.returns-in_err-argument_fine
returns-in_err-argument_fine c =
    says-in-list _ c.from_residual.result _ _ _ expr_of _ _ _ c.argument-item.result refl c.loop-argument-test.true c.argument-item.is c.loop-argument.invariant c.in_err-argument_fine.was c.from_residual.ensures.1 c.argument_fine.ensures
