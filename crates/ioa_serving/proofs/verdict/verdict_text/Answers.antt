use Rattle.ioa_serving.proofs.verdict.verdict_text.Goals as goal

pub returns-then-json : goal.returns-then-json
returns-then-json c = rw c.if-json.true c.strict_object.ensures

pub returns : goal.returns
returns c = rw c.if-json.false c.strict_words.ensures
