use Rattle.ioa_causes.proofs.Found.{if_some}
use Rattle.ioac.specs.UnseenLines.{IsEntryOf, IsInternalOf}
use Rattle.ioac.proofs.remarks.unseen_lines.entry_of.Goals as goal

-- the automaton is the component's
pub returns-in-Some : goal.returns-in-Some
returns-in-Some c =
    let a = c.in-Some.automaton.now in
    let x = c.args.action.now in
    if_some (λ e. IsInternalOf a x e.now) (λ e. IsEntryOf c.args.declarations.now c.args.instance.now x e.now) c.internal_of_name.result
    (λ e of. (a, c.in-Some.ensures, of))
    c.internal_of_name.ensures
