use Rattle.std.proofs.Common.{refl}
use Rattle.ioa_request.proofs.Asked.{all_lent}
use Rattle.ioa_request.proofs.seeds.all_given.Goals as goal

pub returns : goal.returns
returns c = all_lent c.args.found.now c.args.option.now c.get_strs.result _ c.unwrap_or.result c.unwrap_or.ensures refl c.get_strs.ensures
