use Rattle.ioa_causes.specs.Composing.{IsComponentLine, IsOn}
use Rattle.ioa_causes.proofs.Found.{if_some}
use Rattle.ioa_causes.proofs.composing.line_of_component.Goals as goal

-- the name is the component's
pub returns-in-Some : goal.returns-in-Some
returns-in-Some c =
    let ts = c.args.tokens.now in
    let n = c.in-Some.instance.now in
    if_some (λ line. IsOn ts n.name line) (λ line. IsComponentLine ts c.args.assembly.now c.args.component line) c.line_on.result (λ line on. (n, c.in-Some.ensures, on)) c.line_on.ensures
