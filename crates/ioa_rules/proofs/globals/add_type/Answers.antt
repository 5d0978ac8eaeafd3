use Rattle.ioa_rules.proofs.GlobalLemmas.{first-fails}
use Rattle.ioa_rules.proofs.globals.add_type.Goals as goal

pub returns-in_err-add : goal.returns-in_err-add
returns-in_err-add c =
    first-fails c.add.result c.from_residual.result _ c.args.names.now _ c.add.new.names c.add.new.names _
    c.in_err-add.was c.from_residual.ensures.1 c.add.ensures
