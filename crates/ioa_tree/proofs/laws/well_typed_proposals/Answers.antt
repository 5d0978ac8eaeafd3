use Rattle.ioa_tree.proofs.TryTyped.{proposals_fit}
use Rattle.ioa_tree.proofs.laws.well_typed_proposals.Goals as goal

pub returns : goal.returns
returns c = proposals_fit
