use Rattle.std.proofs.Common.{Err, inl, inr, ap, subst}
use Rattle.ioa_device.specs.Failing.{IsTextErr}
use Rattle.ioa_log.specs.LogTexts.{GoesOnAt, HasNoEnd, NoEntryAt, NotJsonAt}
use Rattle.ioac.proofs.remarks.ended.heard_log.Goals as goal

pub returns-in-Err-NotJson : goal.returns-in-Err-NotJson
returns-in-Err-NotJson c =
    let n = c.in-Err-NotJson.field-0-0 in
    let said = c.in-Err-NotJson.ensures.not_json n (ap Err c.in-Err-NotJson.field-0-is) in
    record { log = tt; none = λ _. inl (n, inl (subst (λ d. NotJsonAt c.args.types.now d.inner.now n) c.new-device.ensures said)) }

pub returns-in-Err-BadEntry : goal.returns-in-Err-BadEntry
returns-in-Err-BadEntry c =
    let n = c.in-Err-BadEntry.field-0-0 in
    let said = c.in-Err-BadEntry.ensures.bad n (ap Err c.in-Err-BadEntry.field-0-is) in
    record { log = tt; none = λ _. inl (n, inr (inl (subst (λ d. NoEntryAt c.args.types.now d.inner.now n) c.new-device.ensures said))) }

pub returns-in-Err-NoEnd : goal.returns-in-Err-NoEnd
returns-in-Err-NoEnd c =
    let said = c.in-Err-NoEnd.ensures.no_end (ap Err c.in-Err-NoEnd.field-0-is) in
    record { log = tt; none = λ _. inr (subst (λ d. HasNoEnd c.args.types.now d.inner.now) c.new-device.ensures said) }

pub returns-in-Err-AfterEnd : goal.returns-in-Err-AfterEnd
returns-in-Err-AfterEnd c =
    let said = c.in-Err-AfterEnd.ensures.after_end (ap Err c.in-Err-AfterEnd.field-0-is) in
    record { log = tt; none = λ _. inl (said.0, inr (inr (subst (λ d. GoesOnAt c.args.types.now d.inner.now said.0) c.new-device.ensures said.1))) }

pub returns-in-Err-WrongOwner : goal.returns-in-Err-WrongOwner
returns-in-Err-WrongOwner c = absurd (subst IsTextErr c.in-Err-WrongOwner.field-0-is c.in-Err-WrongOwner.ensures.only)

pub returns-in-Err-Diverges : goal.returns-in-Err-Diverges
returns-in-Err-Diverges c = absurd (subst IsTextErr c.in-Err-Diverges.field-0-is c.in-Err-Diverges.ensures.only)
