use Rattle.ioa_serving.proofs.seed_lines.counts_text.Goals as goal

pub returns-then-json : goal.returns-then-json
returns-then-json c = rw c.if-json.true c.counts_object.ensures

pub returns : goal.returns
returns c = rw c.if-json.false c.counts_words.ensures
