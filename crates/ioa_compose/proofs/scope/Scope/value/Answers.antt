use Rattle.ioa_compose.proofs.ScopeLemmas.{variable-found, formal-found, none-found}
use Rattle.ioa_compose.proofs.scope.Scope.value.Goals as goal

pub returns-in-Some-clause-found : goal.returns-in-Some-clause-found
returns-in-Some-clause-found c = variable-found c.args.self.now c.args.name.now _ c.in-Some.ensures.found

pub returns-in-None-clause-found : goal.returns-in-None-clause-found
returns-in-None-clause-found c = formal-found c.args.self.now c.args.name.now _ c.in-None.ensures.missing c.found-in-None.ensures.found

pub returns-in-None-clause-missing : goal.returns-in-None-clause-missing
returns-in-None-clause-missing c = none-found c.args.self.now c.args.name.now _ c.in-None.ensures.missing c.found-in-None.ensures.missing
