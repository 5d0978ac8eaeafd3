use Rattle.std.proofs.Common.{◌≡◌, ◌∙◌, All, false, subst, sym, arith}
use Rattle.std.proofs.lemmas.List.{take_all}
use Rattle.std.proofs.lemmas.List.Elements.{All-more}
use Rattle.ioa_compile.specs.Programs.{Prog}
use Rattle.ioa_monitor.specs.Monitoring.{hides}
use Rattle.ioa_tests.proofs.tests.watched.are_open.Goals as goal

pub loop-program-preserved : goal.loop-program-preserved
loop-program-preserved c =
    let p : Prog = c.program-item.result in
    let seen : hides p ≡ false = sym c.hides_actions.ensures.table ∙ c.if-hides_actions.false in
    All-more (λ (q : Prog). hides q ≡ false) c.args.programs.now c.loop-program.program-index p c.loop-program-test.true c.loop-program.invariant
    (subst (λ (q : Prog). hides q ≡ false) c.program-item.is seen)

pub returns : goal.returns
returns c = λ yes. subst (All (λ (p : Prog). hides p ≡ false)) (take_all c.loop-program.program-index c.args.programs.now (omega (arith, c.loop-program-test.false))) c.loop-program.invariant
