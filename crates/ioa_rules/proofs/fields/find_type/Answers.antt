use Rattle.std.proofs.Common.{rules}
use Rattle.ioa_rules.specs.KnownTypes.{early}
use Rattle.ioa_rules.proofs.ScopeLemmas.{types-go-on}
use Rattle.ioa_rules.proofs.fields.find_type.Goals as goal

pub loop-item-preserved : goal.loop-item-preserved
loop-item-preserved g c =
    types-go-on (early c.args.known.now) g.T.Typed.tree c.args.items.now _ c.item-item.result _ c.loop-item-test.true c.item-item.is c.loop-item.invariant (search rules)
