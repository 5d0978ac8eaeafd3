use Rattle.ioa_tree.proofs.ValTyped.{val_typed}
use Rattle.ioa_tree.proofs.EffectTyped.{effect_typed}
use Rattle.ioa_tree.proofs.laws.well_typed_answers.Goals as goal

pub returns-clause-expressions : goal.returns-clause-expressions
returns-clause-expressions c = λ types ctx env e ty declared suits has. val_typed types declared ctx env e ty suits has

pub returns-clause-effects : goal.returns-clause-effects
returns-clause-effects c = λ types globals a e ss env declared fine suits. effect_typed types declared globals a e ss env fine suits
