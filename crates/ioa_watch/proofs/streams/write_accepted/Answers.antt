use Rattle.std.proofs.Common.{take, subst, ◌∙◌}
use Rattle.std.specs.Io.KnownBytes.{Appends}
use Rattle.std.proofs.KnownBytes.{Appends-nil}
use Rattle.std.proofs.lemmas.Result.{err_from_is_err_and, on_err_weaker, on_ok_weaker}
use Rattle.ioa_watch.proofs.streams.write_accepted.Goals as goal

pub returns-in_err-text-clause-begun : goal.returns-in_err-text-clause-begun
returns-in_err-text-clause-begun g c =
    let same = err_from_is_err_and c.from_residual.result c.from_residual.ensures.1 in
    rw same.1 (λ ps acts h. (0, Appends-nil (g.W.Write.contents c.args.output.now)))

pub returns-clause-ok : goal.returns-clause-ok
returns-clause-ok g c =
    on_ok_weaker c.send_all.result (λ sent ps acts h.
    subst (λ xs. Appends (g.W.Write.contents c.args.output.now) (g.W.Write.contents c.send_all.new.output) xs) (c.as_bytes.ensures.value ∙ c.in_ok-text.ensures ps acts h) sent) c.send_all.ensures.ok

pub returns-clause-begun : goal.returns-clause-begun
returns-clause-begun g c =
    on_err_weaker c.send_all.result (λ begun ps acts h. (
      begun.0,
      subst (λ xs. Appends (g.W.Write.contents c.args.output.now) (g.W.Write.contents c.send_all.new.output) (take begun.0 xs)) (c.as_bytes.ensures.value ∙ c.in_ok-text.ensures ps acts h) begun.1,
    )) c.send_all.ensures.begun
