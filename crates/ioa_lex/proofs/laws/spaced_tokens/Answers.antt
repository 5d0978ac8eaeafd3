use Rattle.ioa_lex.proofs.SpacedLemmas.{spaced_lexes, spaced_append, spaced_one}
use Rattle.ioa_lex.proofs.laws.spaced_tokens.Goals as goal

pub returns-clause-lexed : goal.returns-clause-lexed
returns-clause-lexed c = spaced_lexes

pub returns-clause-joined : goal.returns-clause-joined
returns-clause-joined c = spaced_append

pub returns-clause-one : goal.returns-clause-one
returns-clause-one c = spaced_one
