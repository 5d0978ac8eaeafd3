use Rattle.ioa_picture.proofs.Edges as edges
use Rattle.ioa_picture.proofs.laws.edges_are_actions.Goals as goal

pub returns-clause-outputs : goal.returns-clause-outputs
returns-clause-outputs c = edges.takers_take

pub returns-clause-inputs : goal.returns-clause-inputs
returns-clause-inputs c = edges.given_are_passed
