use Rattle.std.proofs.Common.{inr}
use Rattle.ioa_causes.proofs.composing.unfit_words.Goals as goal

-- the argument is of another type
pub returns-in-Some : goal.returns-in-Some
returns-in-Some c = inr (_, c.in-Some.formal.now, _, c.in-Some.ensures, c.in_ok-other_words-in-Some.ensures)
