use Rattle.ioa_serving.proofs.ObjectTexts.{objects_tell}
use Rattle.ioa_serving.proofs.laws.objects_tell_actions.Goals as goal

pub returns : goal.returns
returns c = objects_tell
