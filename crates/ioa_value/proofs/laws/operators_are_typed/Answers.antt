use Rattle.ioa_value.proofs.OperatorTyping.{op_takes, op_typed}
use Rattle.ioa_value.proofs.laws.operators_are_typed.Goals as goal

pub returns : goal.returns
returns c = record {
  takes = λ types op vs tys ty declared h e. op_takes types declared op vs tys ty h e;
  gives = λ types op vs tys ty declared h e. op_typed types declared op vs tys ty h e;
}
