use Rattle.ioa_tree.proofs.Starts.{automaton_starts, instance_arguments}
use Rattle.ioa_tree.proofs.laws.well_formed_starts.Goals as goal

pub returns-clause-variables : goal.returns-clause-variables
returns-clause-variables c = λ types globals a vs declared fine fit. automaton_starts types declared globals a vs fit fine

pub returns-clause-arguments : goal.returns-clause-arguments
returns-clause-arguments c = λ types before i declared fine. instance_arguments types declared before i fine
