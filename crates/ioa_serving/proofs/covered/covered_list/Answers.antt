use Rattle.std.proofs.Common.{◌≡◌, ◌∙◌, ◌∷◌, [], ℕ, Err, List, ap, string_bytes, subst, take}
use Rattle.std.proofs.lemmas.Result.{err_from_is_err_and}
use Rattle.ioa_value.specs.Lists.{BadLine, ReadsList}
use Rattle.ioa_value.specs.Table.{Table}
use Rattle.ioa_system.specs.declared.log.LogEntry.{LogEntry}
use Rattle.ioa_coverage.specs.Counts.{entered}
use Rattle.ioa_coverage.specs.Covered.{its_coverage}
use Rattle.ioa_replay.specs.ListReplays.{IsListReplayed}
use Rattle.ioa_serving.specs.declared.at_hand.AtHand.{AtHand}
use Rattle.ioa_serving.proofs.Covering.{covers_list, no_list, none_failed}
use Rattle.ioa_serving.proofs.Refused.{err_so}
use Rattle.ioa_serving.proofs.covered.covered_list.Goals as goal

pub returns-in_err-replayed-clause-refused : goal.returns-in_err-replayed-clause-refused
returns-in_err-replayed-clause-refused c =
    let e = err_from_is_err_and c.from_residual.result c.from_residual.ensures.1 in
    let x = c.in_err-replayed.field-0.0 in
    let same = ap (λ (h : AtHand). h.rest.now) c.new-at_hand.ensures in
    err_so c.from_residual.result e.0 x _ e.1 e.2
    (λ s runs. no_list c.args.program.now s runs c.args.bytes.now x c.in_err-replayed.ensures.only
    (λ is. none_failed _ _ (ap (λ (h : AtHand). h.worn) c.new-at_hand.ensures) c.in_err-replayed.ensures.devices.once (c.in_err-replayed.ensures.devices.io (ap Err is)))
    (λ n is. subst (λ (b : List ℕ). BadLine c.args.program.now.types b n) same (c.in_err-replayed.ensures.bad n (ap Err is))))

pub returns-clause-ok : goal.returns-clause-ok
returns-clause-ok c = λ s runs of.
    let n = c.performed_by.result in
    let first : c.first_of-performed.result.now ≡ take n c.in_ok-entries.entries.items = c.first_of-performed.ensures ∙ ap (take n) c.as_slice.ensures.value in
    let same = ap (λ (h : AtHand). h.rest.now) c.new-at_hand.ensures in
    covers_list c.args.program.now s runs c.types.ensures.sound.types c.args.bytes.now c.in_ok-replayed.replayed _ c.in_ok-entries.entries.items n
    (subst (λ (b : List ℕ). IsListReplayed c.args.program.now s b c.in_ok-replayed.replayed) same (c.in_ok-replayed.ensures.ok s runs))
    (subst (λ (ts : Table). ReadsList ts c.args.bytes.now (entered c.in_ok-entries.entries.items)) c.types.ensures.value c.in_ok-entries.ensures) c.performed_by.ensures
    (subst (λ (es : List LogEntry). string_bytes c.in_ok-told.told ≡ its_coverage s (entered es ∷ [])) first (c.in_ok-told.ensures s runs of))
