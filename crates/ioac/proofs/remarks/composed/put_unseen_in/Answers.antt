use Rattle.std.proofs.Common.{IfSome, inr, string_bytes, subst}
use Rattle.ioa_account.proofs.Remarking.{on_ok}
use Rattle.ioac.specs.UnseenLines.{IsUnseenAt}
use Rattle.ioac.proofs.remarks.composed.put_unseen_in.Goals as goal

pub returns-in-Some : goal.returns-in-Some
returns-in-Some c =
    let hiding = c.in-Some.hiding in
    on_ok c.put_hiding.result
    (λ put. inr (
      hiding.line,
      string_bytes hiding.words,
      subst (λ o. IfSome o (λ h. IsUnseenAt c.args.asked.now c.args.bytes.now h.line (string_bytes h.words))) c.in-Some.is c.in_ok-hiding.ensures,
      put,
    ))
    c.put_hiding.ensures
