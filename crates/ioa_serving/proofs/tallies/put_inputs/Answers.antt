use Rattle.std.proofs.Common.{string_bytes}
use Rattle.ioa_value.specs.Actions.{act_of}
use Rattle.ioa_serving.specs.RunReports.{left_line}
use Rattle.ioa_serving.proofs.TalliedLines.{line_more}
use Rattle.ioa_serving.proofs.tallies.put_inputs.Goals as goal

pub loop-input-preserved : goal.loop-input-preserved
loop-input-preserved c =
    line_more (left_line c.args.types.now) act_of c.args.inputs.now c.input-item.result c.loop-input.input-index (string_bytes c.args.text.now) (string_bytes c.loop-input.text) (string_bytes c.put_input.new.text)
    c.loop-input-test.true c.input-item.is c.loop-input.invariant c.in_ok-put_input.ensures
