use Rattle.std.proofs.Common.{subst, sym}
use Rattle.std.specs.Prelude.{IfSome}
use Rattle.ioa_causes.specs.Composing.{IsHiddenLine, IsRefusedOn}
use Rattle.ioa_causes.proofs.composing.line_of_refusal.Goals as goal

pub returns-in-StartFault : goal.returns-in-StartFault
returns-in-StartFault c =
    subst (λ r. IfSome c.line_of_component-in-StartFault.result (λ line. IsRefusedOn c.args.tokens.now c.args.assembly.now r line)) (sym c.in-StartFault.is)
    c.line_of_component-in-StartFault.ensures

-- of the later one
pub returns-in-Clash : goal.returns-in-Clash
returns-in-Clash c =
    subst (λ r. IfSome c.line_of_component-in-Clash.result (λ line. IsRefusedOn c.args.tokens.now c.args.assembly.now r line)) (sym c.in-Clash.is)
    c.line_of_component-in-Clash.ensures

pub returns-in-HiddenUnknown : goal.returns-in-HiddenUnknown
returns-in-HiddenUnknown c =
    subst (λ r. IfSome c.line_of_hidden.result (λ line. IsRefusedOn c.args.tokens.now c.args.assembly.now r line)) (sym c.in-HiddenUnknown.is)
    (subst (λ x. IfSome c.line_of_hidden.result (λ line. IsHiddenLine c.args.tokens.now c.args.assembly.now x line)) c.as_str.ensures.value c.line_of_hidden.ensures)
