use Rattle.std.proofs.Common.{string_bytes}
use Rattle.ioa_value.specs.Plain.{plain}
use Rattle.ioa_dump.specs.Dumps.{value_line}
use Rattle.ioa_picture.proofs.Numbered.{line_more}
use Rattle.ioa_dump.proofs.values.put_values.Goals as goal

pub loop-i-preserved : goal.loop-i-preserved
loop-i-preserved c =
    line_more (value_line c.args.label.now c.args.types.now) plain c.args.values.now c.loop-i.i c.index-values-i.result (string_bytes c.args.text.now)
    (string_bytes c.loop-i.text) (string_bytes c.put_value.new.text) c.loop-i-test.true c.index-values-i.is c.loop-i.invariant c.in_ok-put_value.ensures
