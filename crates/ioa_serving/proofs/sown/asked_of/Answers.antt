use Rattle.ioa_serving.proofs.Sowing.{lent_no_source, lent_none, lent_some}
use Rattle.ioa_serving.proofs.sown.asked_of.Goals as goal

pub returns-then-not-sown : goal.returns-then-not-sown
returns-then-not-sown c = lent_none c.args.sown.now.invariants c.args.sown.now.ready.source c.if-not-sown.true

pub returns-in-Some : goal.returns-in-Some
returns-in-Some c = lent_some c.args.sown.now.invariants c.args.sown.now.ready.source c.in-Some.source c.if-not-sown.false c.in-Some.is

pub returns-in-None : goal.returns-in-None
returns-in-None c = lent_no_source c.args.sown.now.invariants c.args.sown.now.ready.source c.in-None.is
