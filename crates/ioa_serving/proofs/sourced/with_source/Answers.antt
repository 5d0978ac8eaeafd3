use Rattle.ioa_serving.proofs.sourced.with_source.Goals as goal

pub returns-clause-source : goal.returns-clause-source
returns-clause-source c = λ t h hosted simulates. ((t, hosted), simulates)
