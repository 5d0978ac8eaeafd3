use Rattle.std.proofs.Common.{ℕ, List, ap, subst}
use Rattle.std.proofs.lemmas.Result.{err_from_is_err_and}
use Rattle.ioa_value.specs.Table.{Table}
use Rattle.ioa_system.specs.Logs.{logged}
use Rattle.ioa_log.specs.AgreeingLogs.{IsNoLog}
use Rattle.ioa_replay.specs.LogReplays.{IsReplayedAs}
use Rattle.ioa_log.specs.LogTexts.{ReadsLog}
use Rattle.ioa_serving.specs.declared.at_hand.AtHand.{AtHand}
use Rattle.ioa_serving.proofs.Covering.{covers_log}
use Rattle.ioa_serving.proofs.Refused.{err_so}
use Rattle.ioa_serving.proofs.covered.covered_log.Goals as goal

pub returns-in_err-replayed-clause-refused : goal.returns-in_err-replayed-clause-refused
returns-in_err-replayed-clause-refused c =
    let e = err_from_is_err_and c.from_residual.result c.from_residual.ensures.1 in
    let x = c.in_err-replayed.field-0.0 in
    let same = ap (λ (h : AtHand). h.rest.now) c.new-at_hand.ensures in
    err_so c.from_residual.result e.0 x _ e.1 e.2
    (λ s runs. subst (λ (b : List ℕ). IsNoLog s b x) same (c.in_err-replayed.ensures.refused s runs))

pub returns-clause-ok : goal.returns-clause-ok
returns-clause-ok c = λ s runs of.
    let same = ap (λ (h : AtHand). h.rest.now) c.new-at_hand.ensures in
    let reads = subst (λ (ts : Table). ReadsLog ts c.args.bytes.now (logged c.in_ok-log.log)) c.types.ensures.value c.in_ok-log.ensures in
    covers_log c.args.program.now c.types.ensures.sound.types c.args.bytes.now c.in_ok-replayed.replayed c.in_ok-log.log reads _ _ c.performed_entries.ensures s runs
    (subst (λ (b : List ℕ). IsReplayedAs c.args.program.now s b c.in_ok-replayed.replayed) same (c.in_ok-replayed.ensures.ok s runs))
    (c.in_ok-told.ensures s runs of)
