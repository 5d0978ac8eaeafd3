use Rattle.std.proofs.Common.{All, Err, List, ap, false, inl, subst, sym, ◌∙◌, ◌≡◌}
use Rattle.std.specs.List.{list_any}
use Rattle.std.proofs.lemmas.Option.{IfSome_then}
use Rattle.std.proofs.lemmas.Result.{err_from_is_err_and}
use Rattle.ioa_compile.specs.Programs.{Prog}
use Rattle.ioa_device.specs.declared.failure.LogErr.{LogErr}
use Rattle.ioa_monitor.specs.Monitoring.{hides}
use Rattle.ioa_request.specs.Pasted.{texts}
use Rattle.ioa_tree.specs.View.{tree_of}
use Rattle.ioa_watch.specs.declared.watcher.Watcher.{Watcher}
use Rattle.ioa_watch.specs.Streaming.{HaveHeard, has_refused}
use Rattle.ioa_serving.specs.Statuses.{watch_status}
use Rattle.ioa_serving.proofs.Kept.{keeps_same}
use Rattle.ioa_serving.proofs.Refused.{err_so}
use Rattle.ioa_serving.proofs.Watching.{cut, watching}
use Rattle.ioa_serving.proofs.stream_watch.watch_text.Goals as goal

pub returns-in_err-given-clause-refused : goal.returns-in_err-given-clause-refused
returns-in_err-given-clause-refused g c =
    let e = err_from_is_err_and c.from_residual.result c.from_residual.ensures.1 in
    err_so c.from_residual.result e.0 _ _ e.1 e.2 (inl (c.in_err-given.ensures.refused, keeps_same (g.W.Write.contents c.args.output.now)))

pub watch-requires : goal.watch-requires
watch-requires g c = subst (All (λ (p : Prog). hides p ≡ false)) (sym c.deref.ensures.value) c.in_ok-given.ensures.open

pub returns-in_err-watchers-clause-refused : goal.returns-in_err-watchers-clause-refused
returns-in_err-watchers-clause-refused g c =
    let e = err_from_is_err_and c.from_residual-in_err-watchers.result c.from_residual-in_err-watchers.ensures.1 in
    let given = c.in_ok-given.given in
    let error : LogErr = c.in_err-watchers.field-0.0 in
    let said = c.in_err-watchers.ensures in
    err_so c.from_residual-in_err-watchers.result e.0 _ _ e.1 e.2
    (cut c.args.text.now (texts c.args.compositions.now) c.args.first c.args.json (g.W.Write.contents c.args.output.now) (g.W.Write.contents c.watch.new.output) (tree_of given.checked)
    given.programs.items c.deref.result.now c.types.result.now c.in_ok-given.ensures.specified c.deref.ensures.value c.types.ensures (g.R.Read.remaining c.args.input.now) _ error said.only
    (λ io. said.devices.io (ap Err io)) said.refused)

pub returns-clause-watches : goal.returns-clause-watches
returns-clause-watches g c =
    let given = c.in_ok-given.given in
    let ws : List Watcher = c.in_ok-watchers.watchers.items in
    let same = c.deref-2.ensures.value in (
      list_any has_refused ws,
      IfSome_then (g.R.Read.remaining c.args.input.now) c.in_ok-watchers.ensures.ok
          (λ bytes k.
          watching c.args.text.now (texts c.args.compositions.now) c.args.first c.args.json (g.W.Write.contents c.args.output.now) (g.W.Write.contents c.watch.new.output)
          (tree_of given.checked) given.programs.items c.deref.result.now c.types.result.now c.in_ok-given.ensures.specified c.deref.ensures.value c.types.ensures c.args.counts bytes ws
          _ (λ ps acts h. c.counts_or_none-reports.ensures.told ps acts (subst (HaveHeard ps acts) (sym same) h)) k),
      c.status_of_watch.ensures ∙ ap watch_status (c.some_refused.ensures ∙ ap (list_any has_refused) c.deref-3.ensures.value),
      c.counts_or_none-reports.ensures.silent,
    )
