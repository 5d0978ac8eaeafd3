use Rattle.ioa_value.specs.Actions.{act_of}
use Rattle.ioa_watch.specs.Listening.{known}
use Rattle.ioa_watch.proofs.Listened.{line_of}
use Rattle.ioa_watch.proofs.lines.Listener.listen.Goals as goal

pub returns-in-Ok-clause-ok : goal.returns-in-Ok-clause-ok
returns-in-Ok-clause-ok c =
    let t = c.in-Ok.ensures.ok in
    line_of c.args.self.now.types.now (known c.args.watchers.now) c.args.line.now t.0 (act_of c.listen_to.new.self.action) c.listen_to.result t.1 (c.listen_to.ensures.ok t.0 t.2)

pub returns-in-Ok-clause-bad : goal.returns-in-Ok-clause-bad
returns-in-Ok-clause-bad c = λ n e.
    let t = c.in-Ok.ensures.ok in
    let h = c.listen_to.ensures.bad t.0 t.2 n e in
    (h.0, (t.0, t.1, h.1, h.2))
