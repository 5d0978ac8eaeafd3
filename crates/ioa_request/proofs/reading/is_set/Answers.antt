use Rattle.std.proofs.Common.{Some, None, sym, ◌∙◌}
use Rattle.ioa_request.proofs.Asked.{set_as}
use Rattle.ioa_request.proofs.reading.is_set.Goals as goal

pub returns-in-Some : goal.returns-in-Some
returns-in-Some c = c.eq.ensures ∙ sym (set_as c.args.found.now c.args.flag.now (Some c.in-Some.value.now) c.in-Some.ensures)

pub returns-in-None : goal.returns-in-None
returns-in-None c = sym (set_as c.args.found.now c.args.flag.now None c.in-None.ensures)
