use Rattle.ioa_serving.proofs.seed_lines.seed_text.Goals as goal

pub returns-then-json : goal.returns-then-json
returns-then-json c = rw c.if-json.true c.seed_object.ensures

pub returns : goal.returns
returns c = rw c.if-json.false c.seed_words.ensures
