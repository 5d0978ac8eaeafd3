use Rattle.std.proofs.Common.{inl}
use Rattle.ioa_causes.proofs.signs.sign_words.Goals as goal

pub returns-in-Some : goal.returns-in-Some
returns-in-Some c = inl (c.in-Some.foreign.sign.now, c.in-Some.foreign.said.now, c.in-Some.ensures, c.in_ok-foreign_words.ensures)
