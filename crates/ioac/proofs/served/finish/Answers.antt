use Rattle.std.proofs.Common.{sym, subst}
use Rattle.std.specs.Io.KnownBytes.{Keeps}
use Rattle.ioa_device.specs.Devices.{change}
use Rattle.ioa_serving.proofs.Kept.{keeps_same}
use Rattle.ioac.proofs.Wants.{finished_none}
use Rattle.ioac.proofs.served.finish.Goals as goal

pub returns-in-None-clause-finishes : goal.returns-in-None-clause-finishes
returns-in-None-clause-finishes g c =
    let errors = change g.E.Write.contents g.E.Device.failure_count c.args.errors.now c.put_wants.new.errors in
    rw c.in-None.is (finished_none _ _ errors _ c.put_wants.ensures.puts
    (λ none.
    (let q = c.put_wants.ensures.quiet none in
    (q.0, subst (λ e. Keeps (g.E.Write.contents c.args.errors.now) (g.E.Write.contents e)) (sym q.1) (keeps_same (g.E.Write.contents c.args.errors.now))))))
