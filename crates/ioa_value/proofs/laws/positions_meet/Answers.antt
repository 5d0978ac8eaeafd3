use Rattle.ioa_value.proofs.PositionLemmas.{all_meet-some, all_take-meet}
use Rattle.ioa_value.proofs.laws.positions_meet.Goals as goal

pub returns : goal.returns
returns c = record {
  some = λ types ds es declared h g e. all_meet-some types ds es declared h g e;
  only = λ types ds es vs h g. all_take-meet types ds es vs h g;
}
