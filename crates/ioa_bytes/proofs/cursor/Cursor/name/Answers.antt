use Rattle.std.proofs.Common.{rules}
use Rattle.ioa_value.proofs.SpellLemmas.{name_is_text}
use Rattle.ioa_bytes.proofs.cursor.Cursor.name.Goals as goal

pub unreachable-requires : goal.unreachable-requires
unreachable-requires c = c.in-Err.ensures.cases.0 (name_is_text c.in_ok-word.word.now (search rules))
