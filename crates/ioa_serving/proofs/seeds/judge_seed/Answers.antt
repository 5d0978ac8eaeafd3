use Rattle.std.proofs.Common.{◌≡◌, ◌∙◌, ap, map, subst, sym}
use Rattle.ioa_value.specs.Actions.{act_of}
use Rattle.ioa_system.specs.Logs.{Logged, logged}
use Rattle.ioa_serving.specs.SeedRuns.{IsSeedRun, asked, broken_in, judged_of, table_answer}
use Rattle.ioa_serving.proofs.seeds.judge_seed.Goals as goal

pub returns-clause-judged : goal.returns-clause-judged
returns-clause-judged c =
    let w = c.args.sown.now in
    let j = c.in_ok-judged.judged in
    let same : (judged_of j).log ≡ logged c.in_ok-log.log = c.in_ok-judged.ensures.log in
    record {
      run = subst (λ (l : Logged). IsSeedRun w.ready.program (logged w.ready.log) (map act_of w.ready.script.items) c.args.turns c.args.number l) (sym same) c.in_ok-log.ensures.ended;
      answers = c.in_ok-judged.ensures.answers ∙ ap (map (table_answer (logged c.in_ok-log.log))) c.deref.ensures.value
          ∙ ap (λ l. map (table_answer l) w.specifications.items) (sym same);
      inspected = c.in_ok-judged.ensures.inspected ∙ ap (λ o. broken_in o (logged c.in_ok-log.log)) c.asked_of.ensures ∙ ap (broken_in (asked w.invariants w.ready.source)) (sym same);
    }
