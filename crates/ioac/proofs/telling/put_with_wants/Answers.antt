use Rattle.std.proofs.Common.{sym}
use Rattle.ioa_device.specs.Devices.{change, seen}
use Rattle.ioac.proofs.Wants.{put_cut, put_on}
use Rattle.ioac.proofs.telling.put_with_wants.Goals as goal

pub returns-in-Ok-clause-puts : goal.returns-in-Ok-clause-puts
returns-in-Ok-clause-puts g c =
    let errors = change g.E.Write.contents g.E.Device.failure_count c.args.errors.now c.put_wants.new.errors in
    let between = seen g.E.Write.contents g.E.Device.failure_count c.send_all.new.output in
    rw (sym c.as_bytes.ensures.value) (put_on _ _ _ errors between _ c.in-Ok.ensures.ok c.in-Ok.ensures.passed c.put_wants.ensures.puts)

pub returns-in-Err-clause-puts : goal.returns-in-Err-clause-puts
returns-in-Err-clause-puts g c =
    let errors = change g.E.Write.contents g.E.Device.failure_count c.args.errors.now c.send_all.new.output in
    rw (sym c.as_bytes.ensures.value) (put_cut _ _ _ errors c.in-Err.ensures.io.1 c.in-Err.ensures.begun)
