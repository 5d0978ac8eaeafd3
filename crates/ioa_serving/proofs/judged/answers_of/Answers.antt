use Rattle.std.proofs.Common.{◌<◌, ◌≤◌, List, ap, length, map, option_map, rules, ◌∙◌}
use Rattle.std.proofs.lemmas.List.{take_all}
use Rattle.ioa_compile.specs.Programs.{Prog}
use Rattle.ioa_system.specs.Logs.{logged}
use Rattle.ioa_system.specs.Outcomes.{ending_of}
use Rattle.ioa_serving.specs.SeedRuns.{table_answer}
use Rattle.ioa_serving.proofs.Judging.{answers_more}
use Rattle.ioa_serving.proofs.judged.answers_of.Goals as goal

pub loop-specification-preserved : goal.loop-specification-preserved
loop-specification-preserved c =
    let ps : List Prog = c.args.specifications.now in
    let i = c.loop-specification.specification-index in
    let inside : i < length ps = search rules in
    answers_more (option_map ending_of) (table_answer (logged c.args.log.now)) c.loop-specification.answers.items c.push.new.self.items c.in_ok-answer.answer ps i c.specification-item.result inside
    c.loop-specification.invariant (c.in_ok-answer.ensures ∙ ap (table_answer (logged c.args.log.now)) c.specification-item.is) c.in_ok-push.ensures.items

pub returns : goal.returns
returns c =
    let ps : List Prog = c.args.specifications.now in
    let i = c.loop-specification.specification-index in
    let least : length ps ≤ i = search rules in
    c.loop-specification.invariant ∙ ap (map (table_answer (logged c.args.log.now))) (take_all i ps least)
