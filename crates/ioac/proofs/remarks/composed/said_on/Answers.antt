use Rattle.std.proofs.Common.{subst}
use Rattle.ioa_causes.specs.Composing.{IsRefusedOn}
use Rattle.ioac.proofs.remarks.composed.said_on.Goals as goal

-- the tokens that are lent are those that were kept
pub returns-in_ok-words-in-Some : goal.returns-in_ok-words-in-Some
returns-in_ok-words-in-Some c =
    (subst (λ ts. IsRefusedOn ts c.args.assembly.now c.args.refusal.now c.in-Some.line) c.as_slice.ensures.value c.in-Some.ensures, c.in_ok-words-in-Some.ensures)
