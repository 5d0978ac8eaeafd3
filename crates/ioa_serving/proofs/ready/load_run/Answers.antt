use Rattle.std.proofs.Common.{subst, sym}
use Rattle.std.proofs.lemmas.Result.{IfErr-weaker, IfOk-weaker, err_from_is_err_and}
use Rattle.ioa_serving.proofs.Refused.{err_so}
use Rattle.ioa_serving.proofs.Unrun.{ungiven, unloaded}
use Rattle.ioa_serving.proofs.ready.load_run.Goals as goal

pub returns-in_err-text-clause-refused : goal.returns-in_err-text-clause-refused
returns-in_err-text-clause-refused g c =
    let e = err_from_is_err_and c.from_residual.result c.from_residual.ensures.1 in
    err_so c.from_residual.result e.0 _ _ e.1 e.2 (unloaded (g.F.Store.holds c.args.store.now) (g.F.Store.lacks c.args.store.now) c.args.settings.now c.in_err-text.field-0.0 c.in_err-text.ensures.io)

pub returns-in_err-sourced-clause-refused : goal.returns-in_err-sourced-clause-refused
returns-in_err-sourced-clause-refused g c =
    let e = err_from_is_err_and c.from_residual-in_err-sourced.result c.from_residual-in_err-sourced.ensures.1 in
    let held = subst (g.F.Store.holds c.args.store.now c.args.settings.now.file.now) (sym c.as_slice.ensures.value) c.in_ok-text.ensures.ok in
    err_so c.from_residual-in_err-sourced.result e.0 _ _ e.1 e.2
    (ungiven (g.F.Store.holds c.args.store.now) (g.F.Store.lacks c.args.store.now) c.args.settings.now c.as_slice.result.now c.in_err-sourced.field-0.0 held c.in_err-sourced.ensures.refused)

pub returns-clause-refused : goal.returns-clause-refused
returns-clause-refused g c =
    let held = subst (g.F.Store.holds c.args.store.now c.args.settings.now.file.now) (sym c.as_slice.ensures.value) c.in_ok-text.ensures.ok in
    let of = c.in_ok-sourced.ensures.gives in
    IfErr-weaker c.ready_with.result _ _ (λ e k. k of.0 (c.as_slice.result.now, held, of.1) of.2) c.ready_with.ensures.refused

pub returns-clause-ready : goal.returns-clause-ready
returns-clause-ready g c =
    let held = subst (g.F.Store.holds c.args.store.now c.args.settings.now.file.now) (sym c.as_slice.ensures.value) c.in_ok-text.ensures.ok in
    let of = c.in_ok-sourced.ensures.gives in
    IfOk-weaker c.ready_with.result _ _ (λ r k. (k of.0 (c.as_slice.result.now, held, of.1) of.2 of.3).0) c.ready_with.ensures.ready
