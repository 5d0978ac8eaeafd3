use Rattle.std.proofs.Common.{rules}
use Rattle.ioa_value.proofs.LentLemmas.{few_values}
use Rattle.ioa_value.proofs.application.apply.Goals as goal

pub lent-requires : goal.lent-requires
lent-requires c = few_values c.args.types.now c.args.op c.args.operands.now c.requires (search rules)
