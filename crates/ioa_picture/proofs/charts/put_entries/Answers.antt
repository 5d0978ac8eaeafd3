use Rattle.std.proofs.Common.{◌++◌, string_bytes, ap, ◌∙◌}
use Rattle.ioa_picture.specs.Charts.{lines_within}
use Rattle.ioa_picture.proofs.Numbered.{line_more}
use Rattle.ioa_picture.proofs.charts.put_entries.Goals as goal

pub loop-i-preserved : goal.loop-i-preserved
loop-i-preserved c =
    line_more (lines_within c.args.from c.args.to) string_bytes c.args.entries.now c.loop-i.i c.index-entries-i.result (string_bytes c.args.text.now)
    (string_bytes c.loop-i.text) (string_bytes c.put_within.new.text) c.loop-i-test.true c.index-entries-i.is c.loop-i.invariant
    (c.in_ok-put_within.ensures ∙ ap (λ lines. string_bytes c.loop-i.text ++ lines_within c.args.from c.args.to c.loop-i.i lines) c.as_str.ensures.value)
