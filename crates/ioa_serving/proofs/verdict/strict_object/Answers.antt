use Rattle.ioa_serving.proofs.verdict.strict_object.Goals as goal

pub returns-in-NothingTaken : goal.returns-in-NothingTaken
returns-in-NothingTaken c = rw c.in-NothingTaken.is c.verdict_object.ensures
