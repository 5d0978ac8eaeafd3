use Rattle.ioa_serving.proofs.CarriedRuns.{histories_as_source, refuses_as_source, runs_as_source, turns_as_source}
use Rattle.ioa_serving.proofs.laws.objects_run_as_their_sources.Goals as goal

pub returns-clause-histories : goal.returns-clause-histories
returns-clause-histories c = histories_as_source

pub returns-clause-runs : goal.returns-clause-runs
returns-clause-runs c = runs_as_source

pub returns-clause-turns : goal.returns-clause-turns
returns-clause-turns c = turns_as_source

pub returns-clause-refusals : goal.returns-clause-refusals
returns-clause-refusals c = refuses_as_source
