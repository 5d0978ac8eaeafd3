use Rattle.ioa_serving.proofs.Strictly.{agrees_with_monitor}
use Rattle.ioa_serving.proofs.laws.strict_answers_agree.Goals as goal

pub returns : goal.returns
returns c = λ p acts. agrees_with_monitor p acts
