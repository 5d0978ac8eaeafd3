use Rattle.std.proofs.Common.{rules}
use Rattle.ioa_tree.specs.View.{instance_of, tree_of}
use Rattle.ioa_value.proofs.ItemLemmas.{at_map}
use Rattle.ioa_compose.specs.Bindings.{Binds}
use Rattle.ioa_compose.proofs.BindingLemmas.{ready-at, unbound-in}
use Rattle.ioa_compose.proofs.FineLemmas.{bound-before}
use Rattle.ioa_clash.proofs.ZipLemmas.{zip-more}
use Rattle.ioa_compose.proofs.binding.bind_all.Goals as goal

pub bind-requires-clause-ready : goal.bind-requires-clause-ready
bind-requires-clause-ready c = ready-at _ c.args.instances.now _ c.index-instances-index.result c.requires.ready c.loop-index-test.true c.index-instances-index.is

pub returns-in_err-bind-clause-refused : goal.returns-in_err-bind-clause-refused
returns-in_err-bind-clause-refused c =
    unbound-in c.from_residual.result (tree_of c.args.declarations.now) _ c.loop-index.index (instance_of c.index-instances-index.result)
    (at_map instance_of c.args.instances.now _ c.index-instances-index.result c.loop-index-test.true c.index-instances-index.is)
    (bound-before (tree_of c.args.declarations.now) c.args.types.now c.args.instances.now c.loop-index.index c.loop-index.bindings.items c.requires.types c.loop-index.invariant) (search rules)

pub loop-index-preserved : goal.loop-index-preserved
loop-index-preserved c =
    zip-more (λ i b. Binds (tree_of c.args.declarations.now) (instance_of i) b) c.args.instances.now c.loop-index.index c.index-instances-index.result
    c.loop-index.bindings.items _ c.in_ok-bind.field-0 c.loop-index-test.true c.index-instances-index.is c.in_ok-push.ensures.items c.loop-index.invariant
    c.in_ok-bind.ensures.bound
