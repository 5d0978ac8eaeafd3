use Rattle.std.proofs.Common.{◌≡◌, ◌+◌, ℕ, List, Option, Some, None, IfSome, length, sym, ap, subst, ◌∙◌, rules}
use Rattle.std.proofs.lemmas.List.{length-map}
use Rattle.ioa_value.specs.Table.{Table}
use Rattle.ioa_system.specs.Logs.{Logged, log_entry, logged}
use Rattle.ioa_log.specs.Begun.{IsBegun}
use Rattle.ioac.specs.Refused.{IsBehindEnd}
use Rattle.ioac.proofs.remarks.heard.line_behind_end.Goals as goal

-- the line behind that of the end, where there are not too many
behind : (log : List ℕ) (types : Table) (begun : Logged) (count : ℕ) (line : Option ℕ) → IsBegun types log (length log) begun → length begun.entries ≡ count
    → IfSome line (λ n. n ≡ count + 2) → IsBehindEnd log line
behind log types begun count None begins counted is = tt
behind log types begun count (Some n) begins counted is = (types, begun, begins, is ∙ ap (λ k. k + 2) (sym counted))

pub returns-in-Some : goal.returns-in-Some
returns-in-Some c =
    let log = c.args.log.now in
    let begun = c.in-Some.begun in
    let begins : IsBegun c.args.types.now log (length log) (logged begun) =
    subst (λ o. IfSome o (λ l. IsBegun c.args.types.now log (length log) (logged l))) c.in-Some.is c.in_ok-found.ensures.begun in
    let counted : length begun.entries.items ≡ c.len-count.result = search rules in
    behind log c.args.types.now (logged begun) c.len-count.result c.line_behind.result begins (length-map begun.entries.items log_entry ∙ counted) c.line_behind.ensures
