use Rattle.std.proofs.Common.{◌++◌, [], codes, string_bytes, sym, ap, ◌∙◌, append-nil}
use Rattle.ioa_value.specs.Plain.{plain_all}
use Rattle.ioa_value.specs.Written.{written_row}
use Rattle.ioa_value.proofs.WrittenLemmas.{enclosed, values_written, some_there}
use Rattle.ioa_value.proofs.writing.push_values.Goals as goal

pub returns : goal.returns
returns c =
    let types = c.args.types.now in
    let s = string_bytes c.args.text.now in
    let row = written_row types (plain_all c.args.values.now) in
    enclosed s [] (codes "(") row (codes ")") s (string_bytes c.push_str.new.self) (string_bytes c.push_row.new.text) (string_bytes c.push_str-2.new.self)
    (sym (append-nil s)) c.in_ok-push_str.ensures.bytes c.in_ok-push_row.ensures c.in_ok-push_str-2.ensures.bytes
    ∙ ap (λ l. s ++ l) (values_written types c.args.values.now (some_there c.args.values.now c.is_empty.result c.if-is_empty.false c.is_empty.ensures))
