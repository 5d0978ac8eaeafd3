use Rattle.std.proofs.Common.{◌<◌, ◌∙◌, rules, length, map, refl}
use Rattle.std.proofs.KnownBytes.{Appends-nil}
use Rattle.std.proofs.lemmas.Bool.{false≢true}
use Rattle.std.proofs.lemmas.Option.{slice_get-get_or}
use Rattle.ioa_compile.specs.Programs.{MemberCode}
use Rattle.ioa_serving.proofs.Wanting.{begun_step, on_err, quiet_step, told_step}
use Rattle.ioa_serving.proofs.reports.send_lines.Goals as goal

pub loop-i-init : goal.loop-i-init
loop-i-init g c = record { told = Appends-nil (g.W.Write.contents c.args.output.now); passed = refl; quiet = λ none. refl }

pub loop-i-preserved : goal.loop-i-preserved
loop-i-preserved g c =
    let rs = c.args.reports.now in
    let ns = map (λ (m : MemberCode). m.name) c.args.program.now.members in
    let i = c.loop-i.i in
    let lt : i < length rs = search rules in record {
      told = told_step ns rs i _ _ (slice_get-get_or rs i _ lt) c.worker_name.ensures _ _ _ c.loop-i.invariant.told c.in_ok-send_line.ensures.ok;
      passed = c.in_ok-send_line.ensures.passed ∙ c.loop-i.invariant.passed;
      quiet = λ none. (c.in_ok-send_line.ensures.quiet (quiet_step ns rs i _ _ (slice_get-get_or rs i _ lt) c.worker_name.ensures none)).1 ∙ c.loop-i.invariant.quiet none;
    }

pub returns-in_err-send_line-clause-begun : goal.returns-in_err-send_line-clause-begun
returns-in_err-send_line-clause-begun g c =
    let rs = c.args.reports.now in
    let ns = map (λ (m : MemberCode). m.name) c.args.program.now.members in
    let i = c.loop-i.i in
    let lt : i < length rs = search rules in
    on_err c.from_residual.result _ (begun_step ns rs i _ _ (slice_get-get_or rs i _ lt) c.worker_name.ensures _ _ _ c.loop-i.invariant.told c.in_err-send_line.ensures.begun)

pub returns-in_err-send_line-clause-quiet : goal.returns-in_err-send_line-clause-quiet
returns-in_err-send_line-clause-quiet g c = λ none.
    (let rs = c.args.reports.now in
    let ns = map (λ (m : MemberCode). m.name) c.args.program.now.members in
    let i = c.loop-i.i in
    let lt : i < length rs = search rules in
    absurd (false≢true (c.in_err-send_line.ensures.quiet (quiet_step ns rs i _ _ (slice_get-get_or rs i _ lt) c.worker_name.ensures none)).0))
