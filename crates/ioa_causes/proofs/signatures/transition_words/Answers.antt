use Rattle.std.proofs.Common.{inr}
use Rattle.ioa_causes.proofs.signatures.transition_words.Goals as goal

pub returns-in_ok-signed_words-in-Some : goal.returns-in_ok-signed_words-in-Some
returns-in_ok-signed_words-in-Some c = inr (c.in-Some.entry.now, c.in-Some.ensures, c.in_ok-signed_words-in-Some.ensures)
