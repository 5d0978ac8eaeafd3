use Rattle.ioa_lex.proofs.Covers.{same_tokens, same_stop, stops_or_lexes}
use Rattle.ioa_lex.proofs.laws.one_answer.Goals as goal

pub returns-clause-tokens : goal.returns-clause-tokens
returns-clause-tokens c = same_tokens

pub returns-clause-stop : goal.returns-clause-stop
returns-clause-stop c = same_stop

pub returns-clause-apart : goal.returns-clause-apart
returns-clause-apart c = stops_or_lexes
