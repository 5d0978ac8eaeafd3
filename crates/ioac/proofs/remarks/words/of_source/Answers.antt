use Rattle.std.proofs.Common.{IfOk, string_bytes, subst}
use Rattle.ioac.specs.Worded.{TellsCause}
use Rattle.ioac.proofs.remarks.words.of_source.Goals as goal

-- the bytes that are lent are the text's
pub returns : goal.returns
returns c = subst (λ bytes. IfOk c.of_text.result (λ words. TellsCause c.args.failure.now bytes (string_bytes words))) c.as_slice.ensures.value c.of_text.ensures
