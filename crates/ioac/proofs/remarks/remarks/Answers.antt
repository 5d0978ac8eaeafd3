use Rattle.std.proofs.Common.{ℕ, List, [], string_bytes, sym, subst}
use Rattle.std.specs.Prelude.{IfErr, IfOk, unwrap_or}
use Rattle.ioa_serving.specs.declared.failure.Failure.{Failure}
use Rattle.ioa_serving.specs.declared.served.Served.{Served}
use Rattle.ioac.specs.Refused.{IsFailureRemark}
use Rattle.ioac.specs.Remarks.{IsRemark, log_of_run}
use Rattle.ioac.proofs.remarks.remarks.Goals.{in-Ok+in_ok-put_done-in-Ok, in-Err+in_ok-put_failure-in-Err}
use Rattle.ioac.proofs.remarks.remarks.Goals as goal

pub returns-clause-served : goal.returns-clause-served
returns-clause-served g c =
    let tells : Served → Type 0 = λ s.
    IsRemark (g.F.Store.holds c.args.store.now) (g.F.Store.lacks c.args.store.now) c.args.asked.now (unwrap_or (log_of_run c.args.ran.now) c.args.input.now) s.status (string_bytes c.match-served.text) in
    elim c.match-served.branch [
      | in-Ok+in_ok-put_done-in-Ok w ↦
          subst (λ r. IfOk r tells) (sym w.in-Ok.is)
          (subst (λ t. IsRemark (g.F.Store.holds c.args.store.now) (g.F.Store.lacks c.args.store.now) c.args.asked.now (unwrap_or (log_of_run c.args.ran.now) c.args.input.now) w.in-Ok.served.status (string_bytes t)) (sym w.text-is)
          (w.in_ok-put_done-in-Ok.ensures c.new-text.ensures.bytes))
      | in-Err+in_ok-put_failure-in-Err w ↦ subst (λ r. IfOk r tells) (sym w.in-Err.is) tt
    ]

pub returns-clause-unserved : goal.returns-clause-unserved
returns-clause-unserved g c =
    let told : Failure → List ℕ → List ℕ → Type 0 = λ e before text.
    IsFailureRemark (g.F.Store.holds c.args.store.now) (g.F.Store.lacks c.args.store.now) c.args.asked.now c.args.input.now e before text in
    let tells : Failure → Type 0 = λ e. told e [] (string_bytes c.match-served.text) in
    elim c.match-served.branch [
      | in-Ok+in_ok-put_done-in-Ok w ↦ subst (λ r. IfErr r tells) (sym w.in-Ok.is) tt
      | in-Err+in_ok-put_failure-in-Err w ↦
          subst (λ r. IfErr r tells) (sym w.in-Err.is)
          (subst (λ t. told w.in-Err.failure [] (string_bytes t)) (sym w.text-is)
          (subst (λ old. told w.in-Err.failure old (string_bytes w.put_failure.new.text)) c.new-text.ensures.bytes w.in_ok-put_failure-in-Err.ensures))
    ]
