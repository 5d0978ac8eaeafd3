use Rattle.std.proofs.Common.{◌++◌, string_bytes, ap, ◌∙◌}
use Rattle.ioa_dump.specs.Dumps.{name_line}
use Rattle.ioa_picture.proofs.Numbered.{line_more}
use Rattle.ioa_dump.proofs.types.put_names.Goals as goal

pub loop-i-preserved : goal.loop-i-preserved
loop-i-preserved c =
    let i = c.loop-i.i-counter in
    let so_far = string_bytes c.loop-i.text in
    line_more name_line string_bytes c.args.names.now i c.index-names-i.result (string_bytes c.args.text.now) so_far (string_bytes c.writeln.new.self)
    c.loop-i-test.true c.index-names-i.is c.loop-i.invariant (c.in_ok-writeln.ensures.bytes ∙ ap (λ x. so_far ++ name_line i x) c.as_str-name.ensures.value)
