use Rattle.ioa_rules.proofs.ScopeLemmas.{lookup-loop, lookup-variable, lookup-formal, lookup-parameter}
use Rattle.ioa_rules.proofs.scope.Scope.held.Goals as goal

pub returns-in-Some : goal.returns-in-Some
returns-in-Some c = lookup-loop c.args.self.now _ _ c.in-Some.ensures

pub returns-in-Some-find_type : goal.returns-in-Some-find_type
returns-in-Some-find_type c = lookup-variable c.args.self.now _ _ c.in_default.ensures c.in-Some-find_type.ensures

pub returns-in-Some-find_type-2 : goal.returns-in-Some-find_type-2
returns-in-Some-find_type-2 c = lookup-formal c.args.self.now _ _ c.in_default.ensures c.in_default-find_type.ensures c.in-Some-find_type-2.ensures

pub returns : goal.returns
returns c = lookup-parameter c.args.self.now _ _ c.in_default.ensures c.in_default-find_type.ensures c.in_default-find_type-2.ensures c.find_parameter.ensures
