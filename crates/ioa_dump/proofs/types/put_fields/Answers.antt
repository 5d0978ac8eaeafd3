use Rattle.std.proofs.Common.{string_bytes}
use Rattle.ioa_value.specs.Shapes.{tuple_field}
use Rattle.ioa_dump.specs.Dumps.{field_line}
use Rattle.ioa_picture.proofs.Numbered.{line_more}
use Rattle.ioa_dump.proofs.types.put_fields.Goals as goal

pub loop-i-preserved : goal.loop-i-preserved
loop-i-preserved c =
    line_more (field_line c.args.types.now) tuple_field c.args.fields.now c.loop-i.i c.index-fields-i.result (string_bytes c.args.text.now)
    (string_bytes c.loop-i.text) (string_bytes c.put_field.new.text) c.loop-i-test.true c.index-fields-i.is c.loop-i.invariant c.in_ok-put_field.ensures
