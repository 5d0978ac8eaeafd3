use Rattle.std.proofs.Common.{inl, inr}
use Rattle.ioa_causes.proofs.signatures.match_words.Goals as goal

pub returns-in-Some : goal.returns-in-Some
returns-in-Some c = inl (c.in-Some.transition.now, c.in-Some.ensures, c.in_ok-transition_words.ensures)

pub returns-in_ok-entry_words-in-Some-entry_at : goal.returns-in_ok-entry_words-in-Some-entry_at
returns-in_ok-entry_words-in-Some-entry_at c = inr (c.in-Some-entry_at.entry.now, c.in-Some-entry_at.ensures, c.in_ok-entry_words-in-Some-entry_at.ensures)
