use Rattle.ioa_account.proofs.LineNumbers.{actions_have_lines}
use Rattle.ioa_account.proofs.laws.actions_have_lines.Goals as goal

pub returns : goal.returns
returns c = actions_have_lines
