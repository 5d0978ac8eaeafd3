use Rattle.ioac.proofs.Answered.{answered}
use Rattle.ioac.proofs.command.answer.Goals as goal

pub returns-clause-answers : goal.returns-clause-answers
returns-clause-answers g c = answered c.serve_and_tell-served.result.0 _ _ _ _ _ c.serve_and_tell-served.ensures.tells
