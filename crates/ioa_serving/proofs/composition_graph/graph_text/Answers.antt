use Rattle.std.proofs.Common.{◌≡◌, ap, subst, ◌∙◌, take}
use Rattle.std.specs.Option.{option_copied}
use Rattle.std.proofs.lemmas.Result.{err_from_is_err_and}
use Rattle.std.specs.Io.KnownBytes.{Appends}
use Rattle.ioa_device.specs.declared.failure.LogErr.{LogErr}
use Rattle.ioa_device.specs.Failing.{HasFailed}
use Rattle.ioa_picture.specs.Graphs.{graph}
use Rattle.ioa_serving.specs.declared.failure.Failure.{Failure}
use Rattle.ioa_serving.proofs.Pictured.{ungraphed}
use Rattle.ioa_serving.proofs.Refused.{err_so}
use Rattle.ioa_serving.proofs.Kept.{keeps_same}
use Rattle.ioa_serving.proofs.composition_graph.graph_text.Goals as goal

pub returns-in_err-program-clause-refused : goal.returns-in_err-program-clause-refused
returns-in_err-program-clause-refused g c =
    let e = err_from_is_err_and c.from_residual.result c.from_residual.ensures.1 in
    let out = g.W.Write.contents c.args.output.now in
    let count = g.W.Device.failure_count c.args.output.now in
    err_so c.from_residual.result e.0 _ _ e.1 e.2
    (ungraphed c.args.text.now (option_copied c.args.composition) (HasFailed count count) out out c.in_err-program.field-0.0 c.in_err-program.ensures.refused (keeps_same out))

pub returns-in_err-send_all-clause-refused : goal.returns-in_err-send_all-clause-refused
returns-in_err-send_all-clause-refused g c =
    let e = err_from_is_err_and c.from_residual-in_err-send_all.result c.from_residual-in_err-send_all.ensures.1 in
    let p = c.in_ok-program.program in
    let written : c.as_bytes.result.now ≡ graph p = c.as_bytes.ensures.value ∙ c.in_ok-drawn.ensures in
    let (k, begun) = c.in_err-send_all.ensures.begun in
    let front = subst (λ t. Appends (g.W.Write.contents c.args.output.now) (g.W.Write.contents c.send_all.new.output) (take k t)) written begun in
    err_so c.from_residual-in_err-send_all.result e.0 (Failure.List LogErr.Io) _ e.1 (e.2 ∙ ap Failure.List c.in_err-send_all.ensures.io.0)
    (c.in_err-send_all.ensures.io.1, (p, k, c.in_ok-program.ensures.gives, front))

pub returns-clause-graphs : goal.returns-clause-graphs
returns-clause-graphs g c =
    let p = c.in_ok-program.program in
    let written : c.as_bytes.result.now ≡ graph p = c.as_bytes.ensures.value ∙ c.in_ok-drawn.ensures in (
      p,
      c.in_ok-program.ensures.gives,
      subst (λ t. Appends (g.W.Write.contents c.args.output.now) (g.W.Write.contents c.send_all.new.output) t) written c.in_ok-send_all.ensures.ok,
    )
