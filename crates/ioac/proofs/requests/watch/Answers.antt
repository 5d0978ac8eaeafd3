use Rattle.std.proofs.Common.{inr, subst, sym}
use Rattle.std.proofs.lemmas.Result.{IfErr-weaker, IfOk-weaker}
use Rattle.ioac.proofs.requests.watch.Goals as goal

pub returns-clause-served : goal.returns-clause-served
returns-clause-served g c =
    let held = subst (g.F.Store.holds c.args.store.now c.args.file.now) (sym c.as_slice.ensures.value) c.in_ok-text.ensures.ok in
    IfOk-weaker c.watch_text.result _ _ (λ s watched. (c.as_slice.result.now, held, watched)) c.watch_text.ensures.watches

pub returns-clause-refused : goal.returns-clause-refused
returns-clause-refused g c =
    let held = subst (g.F.Store.holds c.args.store.now c.args.file.now) (sym c.as_slice.ensures.value) c.in_ok-text.ensures.ok in
    IfErr-weaker c.watch_text.result _ _ (λ e why. inr (c.as_slice.result.now, held, why)) c.watch_text.ensures.refused
