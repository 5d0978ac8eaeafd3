use Rattle.std.proofs.Common.{◌<◌, ◌∙◌, length, sym, arith}
use Rattle.std.proofs.lemmas.Bool.Decides.{nat_tests}
use Rattle.ioa_system.specs.Systems.{values_of}
use Rattle.ioa_board.proofs.Making.{some_participant}
use Rattle.ioa_board.proofs.plan.assess.Goals as goal

pub returns-then-worker-who : goal.returns-then-worker-who
returns-then-worker-who c =
    let some : 0 < length c.participants.result.now = grind (arith, nat_tests) in (
      some_participant c.args.participation.now.program c.args.participation.now.action c.participants.result.now (values_of c.args.copied.now) c.participants.ensures.found some,
      λ e. c.if-worker-who.true (c.worker.ensures ∙ sym e),
    )
