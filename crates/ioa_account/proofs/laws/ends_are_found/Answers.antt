use Rattle.ioa_account.proofs.Ending.{ends_are_found}
use Rattle.ioa_account.proofs.laws.ends_are_found.Goals as goal

pub returns : goal.returns
returns c = ends_are_found
