use Rattle.std.proofs.Common.{◌≡◌, ◌<◌, ◌∙◌, length, sym, arith, refl}
use Rattle.std.proofs.lemmas.Bool.Decides.{nat_tests}
use Rattle.ioa_tree.specs.Steps.{not_an_action, step}
use Rattle.ioa_compile.specs.Tables.{tabled}
use Rattle.ioa_system.specs.Systems.{values_of}
use Rattle.ioa_board.proofs.Making.{no_step, some_step}
use Rattle.ioa_board.proofs.attempt.step_by.Goals as goal

pub returns-then-is_empty-clause-value : goal.returns-then-is_empty-clause-value
returns-then-is_empty-clause-value c =
    let none : length c.participants.result.now ≡ 0 = grind (arith, nat_tests) in
    let unknown : step (tabled c.args.participation.now.program) c.args.participation.now.action (values_of c.args.states.now) ≡ not_an_action =
    no_step c.args.participation.now.program c.args.participation.now.action c.participants.result.now (values_of c.args.states.now) c.participants.ensures.found none in
    (λ known. absurd (known unknown), sym unknown, refl)

pub returns-then-worker-who-clause-value : goal.returns-then-worker-who-clause-value
returns-then-worker-who-clause-value c =
    let some : 0 < length c.participants.result.now = grind (arith, nat_tests) in (
      λ e. c.if-worker-who.true (c.worker.ensures ∙ sym e),
      some_step c.args.participation.now.program c.args.participation.now.action c.participants.result.now (values_of c.args.states.now) c.participants.ensures.found some,
      refl,
    )
