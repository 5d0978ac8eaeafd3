use Rattle.std.proofs.Common.{map, IfSome, string_bytes, subst}
use Rattle.ioa_system.specs.Logs.{log_entry, logged}
use Rattle.ioa_log.specs.Begun.{IsBegun}
use Rattle.ioa_causes.proofs.Found.{if_found}
use Rattle.ioac.specs.Owners.{TellsLast, TellsOwner}
use Rattle.ioac.proofs.remarks.heard.owner_words.Goals as goal

-- the log was read with the program's own types
pub returns-in-Some : goal.returns-in-Some
returns-in-Some c =
    let p = c.args.program.now in
    let log = c.args.log.now in
    let n = c.args.line in
    let begun = c.in-Some.begun in
    let begins =
    subst (λ types. IsBegun types log n (logged begun)) c.types.ensures.value
    (subst (λ o. IfSome o (λ l. IsBegun c.types.result.now log n (logged l))) c.in-Some.is c.in_ok-begun.ensures.begun) in
    if_found (λ words. TellsLast p (map log_entry c.as_slice.result.now) (string_bytes words)) (λ words. TellsOwner p log n (string_bytes words)) c.last_words.result
    (λ words tells. (logged begun, begins, subst (λ es. TellsLast p (map log_entry es) (string_bytes words)) c.as_slice.ensures.value tells))
    c.last_words.ensures
