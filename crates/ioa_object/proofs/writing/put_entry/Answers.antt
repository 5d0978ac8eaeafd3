use Rattle.std.proofs.Common.{length, ap, arith, string_bytes}
use Rattle.ioa_object.proofs.Texts.{name_short}
use Rattle.ioa_object.proofs.writing.put_entry.Goals as goal

pub put_text-requires : goal.put_text-requires
put_text-requires c = omega (arith, ap length c.as_str.ensures.value, name_short (string_bytes c.args.entry.now.name) c.requires.2.legal)
