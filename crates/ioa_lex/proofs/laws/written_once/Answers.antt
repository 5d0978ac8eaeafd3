use Rattle.ioa_value.proofs.Spellings.{same_terminal}
use Rattle.ioa_lex.proofs.Texts.{same_token}
use Rattle.ioa_lex.proofs.laws.written_once.Goals as goal

pub returns-clause-spelling : goal.returns-clause-spelling
returns-clause-spelling c = same_terminal

pub returns-clause-token : goal.returns-clause-token
returns-clause-token c = same_token
