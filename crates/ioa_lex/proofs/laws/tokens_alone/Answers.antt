use Rattle.ioa_lex.proofs.Placed.{shown_of_placed}
use Rattle.ioa_lex.proofs.laws.tokens_alone.Goals as goal

pub returns : goal.returns
returns c = shown_of_placed
