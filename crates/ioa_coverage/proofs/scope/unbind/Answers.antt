use Rattle.std.proofs.Common.{arith, length}
use Rattle.ioa_coverage.proofs.Bound.{not_some, unbound}
use Rattle.ioa_coverage.proofs.scope.unbind.Goals as goal

pub returns : goal.returns
returns c =
    unbound c.pop.result c.args.scope.now.items c.pop.new.self.items c.pop.ensures.items
    (λ none. not_some c.pop.result (length c.args.scope.now.items) (λ some. c.pop.ensures.variant.1 (omega (arith, some, c.args.scope.now.ok.0))) none)
