use Rattle.std.proofs.Common.{map, string_bytes, inl, inr, ap, refl, subst, ◌∙◌}
use Rattle.std.specs.Prelude.{IfSome}
use Rattle.ioa_value.specs.Actions.{act_of}
use Rattle.ioa_system.specs.Logs.{logged}
use Rattle.ioa_log.specs.LogTexts.{ReadsLog}
use Rattle.ioac.specs.Remarks.{IsNoLog, TellsObjectCounted}
use Rattle.ioa_account.proofs.Remarking.{on_ok}
use Rattle.ioac.proofs.remarks.nameless.put_monitored.Goals as goal

pub returns-in_ok-actions-in-Some : goal.returns-in_ok-actions-in-Some
returns-in_ok-actions-in-Some c =
    let log = c.in-Some.log in
    let input = c.args.input.now in
    on_ok c.put_counted.result
    (λ tells. inl (
      logged log,
      subst (λ types. ReadsLog types input (logged log)) c.types.ensures.value
          (subst (λ o. IfSome o (λ l. ReadsLog c.types.result.now input (logged l))) c.in-Some.is c.in_ok-log.ensures.log),
      subst (λ acts. TellsObjectCounted c.args.program.now input acts (string_bytes c.args.text.now) (string_bytes c.put_counted.new.text))
          (ap (map act_of) c.deref.ensures.value ∙ c.in_ok-actions-in-Some.ensures) tells,
    ))
    c.put_counted.ensures

pub returns-in-None : goal.returns-in-None
returns-in-None c = inr (subst (λ types. IsNoLog types c.args.input.now) c.types.ensures.value (c.in_ok-log.ensures.none c.in-None.is), refl)
