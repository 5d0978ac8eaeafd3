use Rattle.std.proofs.Common.{ap, ◌∙◌}
use Rattle.std.specs.Option.{option_map}
use Rattle.ioa_system.specs.Outcomes.{ending_of}
use Rattle.ioa_serving.specs.Strict.{answer_on}
use Rattle.ioa_serving.proofs.Strictly.{answered}
use Rattle.ioa_serving.proofs.verdict.verdict_of.Goals as goal

pub returns : goal.returns
returns c = λ p acts h.
    answered p acts c.args.watcher.now c.took_some.result c.verdict_on.result h (c.took_some.ensures p acts h)
    (c.verdict_on.ensures ∙ ap (λ o. answer_on c.took_some.result (option_map ending_of o)) c.refusal.ensures)
