use Rattle.ioa_causes.specs.Composing.{IsOn}
use Rattle.ioa_causes.proofs.Found.{if_some}
use Rattle.ioac.specs.UnseenLines.{IsEntryLine}
use Rattle.ioac.proofs.remarks.unseen_lines.line_of_entry.Goals as goal

-- the name is the entry's
pub returns-in-Some : goal.returns-in-Some
returns-in-Some c =
    let ts = c.args.tokens.now in
    let e = c.in-Some.entry.now in
    if_some (λ line. IsOn ts e.name line) (λ line. IsEntryLine ts c.args.declarations.now c.args.assembly.now c.args.action.now c.args.component.now line) c.line_on.result
    (λ line on. (e, c.in-Some.ensures, on))
    c.line_on.ensures
