use Rattle.std.proofs.Common.{◌≡◌, ap, subst, ◌∙◌, take}
use Rattle.std.proofs.lemmas.Result.{err_from_is_err_and}
use Rattle.std.specs.Io.KnownBytes.{Appends}
use Rattle.ioa_device.specs.declared.failure.LogErr.{LogErr}
use Rattle.ioa_dump.specs.Dumps.{dump}
use Rattle.ioa_serving.specs.declared.failure.Failure.{Failure}
use Rattle.ioa_serving.proofs.Refused.{err_so}
use Rattle.ioa_serving.proofs.dump.dump_object.Goals as goal

pub returns-in_err-send_all-clause-refused : goal.returns-in_err-send_all-clause-refused
returns-in_err-send_all-clause-refused g c =
    let e = err_from_is_err_and c.from_residual-in_err-send_all.result c.from_residual-in_err-send_all.ensures.1 in
    let p = c.in_ok-program.program in
    let written : c.as_bytes.result.now ≡ dump p = c.as_bytes.ensures.value ∙ c.in_ok-text.ensures in
    let (k, begun) = c.in_err-send_all.ensures.begun in
    let front = subst (λ t. Appends (g.W.Write.contents c.args.output.now) (g.W.Write.contents c.send_all.new.output) (take k t)) written begun in
    err_so c.from_residual-in_err-send_all.result e.0 (Failure.List LogErr.Io) _ e.1 (e.2 ∙ ap Failure.List c.in_err-send_all.ensures.io.0)
    (c.in_err-send_all.ensures.io.1, (p, k, c.in_ok-program.ensures.found, front))

pub returns-clause-dumps : goal.returns-clause-dumps
returns-clause-dumps g c =
    let p = c.in_ok-program.program in
    let written : c.as_bytes.result.now ≡ dump p = c.as_bytes.ensures.value ∙ c.in_ok-text.ensures in (
      p,
      c.in_ok-program.ensures.found,
      subst (λ t. Appends (g.W.Write.contents c.args.output.now) (g.W.Write.contents c.send_all.new.output) t) written c.in_ok-send_all.ensures.ok,
    )
