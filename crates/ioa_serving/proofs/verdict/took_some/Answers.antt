use Rattle.std.proofs.Common.{ap₂, not, ◌==◌, ◌∙◌}
use Rattle.ioa_serving.proofs.Strictly.{took}
use Rattle.ioa_serving.proofs.verdict.took_some.Goals as goal

pub returns : goal.returns
returns c = λ p acts h none.
    ap₂ (λ a b. not (a == b)) c.others-others.ensures c.heard-heard.ensures ∙ took p acts c.args.watcher.now h none
