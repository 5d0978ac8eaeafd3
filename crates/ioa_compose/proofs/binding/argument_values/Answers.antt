use Rattle.std.proofs.Common.{IfOk, map, subst, ◌≡◌}
use Rattle.ioa_tree.specs.View.{expr_of}
use Rattle.ioa_tree.specs.Instances.{all_values}
use Rattle.ioa_compose.specs.Bindings.{start_of, values_in}
use Rattle.ioa_compose.specs.Scopes.{environment}
use Rattle.ioa_compose.proofs.binding.argument_values.Goals as goal

pub returns : goal.returns
returns c =
    let es = map expr_of c.args.arguments.now in
    let evaluated = subst (λ u. IfOk c.evaluate_all.result (λ r. values_in r ≡ all_values (start_of u (environment c.empty.result)) es)) c.empty.ensures.types c.evaluate_all.ensures in
    subst (λ env. IfOk c.evaluate_all.result (λ r. values_in r ≡ all_values (start_of c.args.types.now env) es)) c.empty.ensures.values evaluated
