use Rattle.std.proofs.Common.{◌≡◌, Some, subst, sym}
use Rattle.ioa_causes.proofs.Found.{if_some}
use Rattle.ioac.specs.UnseenLines.{IsEntryIn, IsEntryOf, instance_named}
use Rattle.ioac.proofs.remarks.unseen_lines.entry_in.Goals as goal

-- the component is the first of this name
pub returns-in-Some : goal.returns-in-Some
returns-in-Some c =
    let ds = c.args.declarations.now in
    let x = c.args.action.now in
    let component = c.args.component.now in
    let n = c.in-Some.instance.now in
    if_some (λ e. IsEntryOf ds n x e.now) (λ e. IsEntryIn ds c.args.assembly.now x component e.now) c.entry_of.result
    (λ e of. (n, subst (λ ns. instance_named component ns ≡ Some n) c.deref.ensures.value (sym c.in-Some.ensures), of))
    c.entry_of.ensures
