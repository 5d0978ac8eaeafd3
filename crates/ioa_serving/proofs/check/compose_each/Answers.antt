use Rattle.std.proofs.Common.{ap}
use Rattle.std.proofs.lemmas.Result.{err_from_is_err_and}
use Rattle.ioa_tree.specs.View.{tree_of}
use Rattle.ioa_serving.proofs.Composed.{compose_all, compose_more, first_refused}
use Rattle.ioa_serving.proofs.Refused.{err_so}
use Rattle.ioa_serving.proofs.check.compose_each.Goals as goal

pub returns-in_err-compose_declared-clause-refused : goal.returns-in_err-compose_declared-clause-refused
returns-in_err-compose_declared-clause-refused c =
    let e = err_from_is_err_and c.from_residual.result c.from_residual.ensures.1 in
    err_so c.from_residual.result e.0 _ _ e.1 e.2
    (first_refused (tree_of c.args.checked.now) c.declarations-declarations.result.now c.loop-declaration.declaration-index c.declaration-item.result
    c.in_err-compose_declared.field-0.0 (ap tree_of c.declarations-declarations.ensures.value) c.loop-declaration-test.true c.declaration-item.is c.loop-declaration.invariant
    c.in_err-compose_declared.ensures.refused)

pub loop-declaration-preserved : goal.loop-declaration-preserved
loop-declaration-preserved c =
    compose_more (tree_of c.args.checked.now) c.declarations-declarations.result.now c.loop-declaration.declaration-index c.declaration-item.result
    c.loop-declaration-test.true c.declaration-item.is c.loop-declaration.invariant c.in_ok-compose_declared.ensures.composed

pub returns-clause-composed : goal.returns-clause-composed
returns-clause-composed c =
    compose_all (tree_of c.args.checked.now) c.declarations-declarations.result.now c.loop-declaration.declaration-index
    (ap tree_of c.declarations-declarations.ensures.value) c.loop-declaration-test.false c.loop-declaration.invariant
