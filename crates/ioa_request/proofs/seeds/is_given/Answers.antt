use Rattle.std.proofs.Common.{◌∙◌}
use Rattle.ioa_request.proofs.Asked.{stands}
use Rattle.ioa_request.proofs.seeds.is_given.Goals as goal

pub returns : goal.returns
returns c = c.is_some.ensures ∙ stands c.args.found.now c.args.option.now c.get_str.result c.get_str.ensures
