use Rattle.ioac.proofs.ValueWords.{word_is_text}
use Rattle.ioac.proofs.remarks.unknown.word_text.Goals as goal

pub unreachable-requires : goal.unreachable-requires
unreachable-requires c = c.in-Err.ensures.cases.0 (word_is_text c.args.word.now c.requires)
