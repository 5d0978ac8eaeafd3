use Rattle.ioa_value.proofs.PartLemmas.{uneven_types}
use Rattle.ioa_value.proofs.parts.are_of.Goals as goal

pub returns-then-operands-fields : goal.returns-then-operands-fields
returns-then-operands-fields c = uneven_types c.args.operands.now c.args.fields.now c.if-operands-fields.true
