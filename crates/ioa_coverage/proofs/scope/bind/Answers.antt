use Rattle.ioa_coverage.proofs.Bound.{pushed, pushed_names}
use Rattle.ioa_coverage.proofs.scope.bind.Goals as goal

pub returns-clause-known : goal.returns-clause-known
returns-clause-known c = pushed c.args.scope.now.items c.push.new.self.items (record { name = c.args.name; value = c.args.value }) c.in_ok-push.ensures.items

pub returns-clause-names : goal.returns-clause-names
returns-clause-names c = pushed_names c.args.scope.now.items c.push.new.self.items (record { name = c.args.name; value = c.args.value }) c.in_ok-push.ensures.items
