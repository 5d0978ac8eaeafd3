use Rattle.ioac.proofs.command.answer_of.Goals as goal

pub returns-in-Some-clause-answers : goal.returns-in-Some-clause-answers
returns-in-Some-clause-answers g c = rw c.in-Some.is c.answer_cut.ensures.answers

pub returns-in-None-clause-answers : goal.returns-in-None-clause-answers
returns-in-None-clause-answers g c = rw c.in-None.is c.answer_as.ensures.answers
