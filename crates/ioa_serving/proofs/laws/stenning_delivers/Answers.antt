use Rattle.ioa_serving.proofs.Delivering.{histories_deliver, objects_deliver}
use Rattle.ioa_serving.proofs.laws.stenning_delivers.Goals as goal

pub returns-clause-histories : goal.returns-clause-histories
returns-clause-histories c = histories_deliver

pub returns-clause-objects : goal.returns-clause-objects
returns-clause-objects c = objects_deliver
