use Rattle.std.proofs.Common.{◌≡◌, length, sym, ap, ◌∙◌, arith}
use Rattle.std.specs.Str.{bytes_eq}
use Rattle.std.proofs.lemmas.Bool.{false_from_ne_true}
use Rattle.std.proofs.lemmas.Slice.Eq.{bytes_eq-Decides}
use Rattle.ioa_value.specs.Spelling.{spelling_of}
use Rattle.ioa_value.proofs.spelling.is_written.Goals as goal

pub returns-then-spelling-text : goal.returns-then-spelling-text
returns-then-spelling-text c =
    let word = spelling_of c.args.terminal in
    let long : length c.as_bytes-spelling.result.now ≡ length word = ap length (c.as_bytes-spelling.ensures.value ∙ c.text.ensures) in
    sym (false_from_ne_true (bytes_eq word c.args.text.now) (λ same. let e : length word ≡ length c.args.text.now = ap length ((bytes_eq-Decides word c.args.text.now).0 same) in omega arith))
