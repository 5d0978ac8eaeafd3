use Rattle.std.proofs.Common.{string_bytes}
use Rattle.ioa_value.specs.Positions.{domain_of}
use Rattle.ioa_dump.specs.Dumps.{position_line}
use Rattle.ioa_picture.proofs.Numbered.{line_more}
use Rattle.ioa_dump.proofs.components.put_positions.Goals as goal

pub loop-i-preserved : goal.loop-i-preserved
loop-i-preserved c =
    line_more (position_line c.args.types.now) domain_of c.args.positions.now c.loop-i.i c.index-positions-i.result (string_bytes c.args.text.now)
    (string_bytes c.loop-i.text) (string_bytes c.put_position.new.text) c.loop-i-test.true c.index-positions-i.is c.loop-i.invariant c.in_ok-put_position.ensures
