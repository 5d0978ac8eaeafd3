use Rattle.ioa_tree.specs.View.{instance_of}
use Rattle.ioa_rules.proofs.SayLemmas.{says-in-list}
use Rattle.ioa_rules.proofs.declarations.each_instance_fine.Goals as goal

pub returns-in_err-instance_fine : goal.returns-in_err-instance_fine
returns-in_err-instance_fine c =
    says-in-list _ c.from_residual.result _ _ _ instance_of _ _ _ c.instance-item.result c.deref-instance-items.ensures.value c.loop-instance-test.true c.instance-item.is c.loop-instance.invariant c.in_err-instance_fine.was c.from_residual.ensures.1 c.instance_fine.ensures
