use Rattle.std.proofs.Common.{◌≡◌, Some, subst, sym}
use Rattle.ioa_causes.specs.Composing.{IsHiddenLine, IsOn, among}
use Rattle.ioa_causes.proofs.Found.{if_some}
use Rattle.ioac.proofs.remarks.unseen_lines.line_of_hidden.Goals as goal

-- the name is the first of the hidden ones that is this one
pub returns-in-Some : goal.returns-in-Some
returns-in-Some c =
    let ts = c.args.tokens.now in
    let n = c.in-Some.hidden.now in
    if_some (λ line. IsOn ts n line) (λ line. IsHiddenLine ts c.args.assembly.now c.args.name.now line) c.line_on.result
    (λ line on. (n, subst (λ ns. among c.args.name.now ns ≡ Some n) c.deref.ensures.value (sym c.in-Some.ensures), on))
    c.line_on.ensures
