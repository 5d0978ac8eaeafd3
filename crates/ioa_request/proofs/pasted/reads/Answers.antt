use Rattle.std.proofs.Common.{map}
use Rattle.std.specs.Char.{to_ascii_lowercase}
use Rattle.std.specs.Str.{bytes_eq}
use Rattle.std.proofs.lemmas.Bool.Decides.{same_from_decides}
use Rattle.std.proofs.lemmas.Slice.Eq.{bytes_eq-Decides}
use Rattle.ioa_request.proofs.pasted.reads.Goals as goal

pub returns : goal.returns
returns c =
    let word = map to_ascii_lowercase c.args.word.now in
    let this = map to_ascii_lowercase c.args.this.now in
    same_from_decides _ (bytes_eq word this) c.eq_ignore_ascii_case.ensures.test (bytes_eq-Decides word this)
