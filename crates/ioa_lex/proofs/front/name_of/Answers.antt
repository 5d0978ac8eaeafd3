use Rattle.std.proofs.lemmas.Str.{IsUtf8-from_ascii}
use Rattle.ioa_lex.proofs.Bytes.{ascii_of_parts}
use Rattle.ioa_lex.proofs.front.name_of.Goals as goal

pub unreachable-requires : goal.unreachable-requires
unreachable-requires c = c.in-Err.ensures.cases.0 (IsUtf8-from_ascii c.args.word.now (ascii_of_parts c.args.word.now c.requires))
