use Rattle.std.proofs.Common.{subst, sym}
use Rattle.std.specs.Option.{option_copied}
use Rattle.ioa_log.specs.LogTexts.{GoesOnAt, HasNoEnd, NoEntryAt, NotJsonAt}
use Rattle.ioa_serving.specs.Resuming.{IsLogless, unread_log}
use Rattle.ioa_serving.proofs.RunLogs.{unread_so}
use Rattle.ioa_serving.proofs.run_log.load_log.Goals as goal

pub returns-clause-refused : goal.returns-clause-refused
returns-clause-refused g c =
    let holds = g.F.Store.holds c.args.store.now in
    let lacks = g.F.Store.lacks c.args.store.now in
    let types = c.args.types.now in
    let said = c.in-Err.ensures in
    let held = subst (holds c.in-Some.name.now) (sym c.as_slice.ensures.value) c.in_ok-text.ensures.ok in
    subst (IsLogless holds lacks types (option_copied c.args.file)) (sym c.unread.ensures)
    (subst (λ o. IsLogless holds lacks types (option_copied o) (unread_log c.in-Err.error)) (sym c.in-Some.is)
    (unread_so holds lacks types c.in-Some.name.now c.as_slice.result.now c.in-Err.error held said.only
    (λ n e. subst (λ d. NotJsonAt types d.inner.now n) c.new-device.ensures (said.not_json n e))
    (λ n e. subst (λ d. NoEntryAt types d.inner.now n) c.new-device.ensures (said.bad n e))
    (λ e. let k = said.after_end e in (k.0, subst (λ d. GoesOnAt types d.inner.now k.0) c.new-device.ensures k.1))
    (λ e. subst (λ d. HasNoEnd types d.inner.now) c.new-device.ensures (said.no_end e))))
