use Rattle.std.proofs.Common.{string_bytes, subst}
use Rattle.std.specs.Option.{option_copied}
use Rattle.ioa_causes.proofs.Found.{if_found}
use Rattle.ioac.specs.declared.remarks.composed.Hiding.{Hiding}
use Rattle.ioac.specs.Heard.{IsGivenProgram}
use Rattle.ioac.specs.UnseenLines.{IsUnseenAt, TellsUnseenOf}
use Rattle.ioac.proofs.remarks.composed.hiding_of.Goals as goal

-- the program is that of the composition at fault
pub returns-in-Some : goal.returns-in-Some
returns-in-Some c =
    let bytes = c.args.bytes.now in
    let name = option_copied c.in_ok-composition.composition in
    let p = c.in-Some.program in
    let of = subst (IsGivenProgram bytes name) c.in-Some.is c.in_ok-program.ensures in
    if_found (λ (h : Hiding). TellsUnseenOf p bytes name h.line (string_bytes h.words)) (λ (h : Hiding). IsUnseenAt c.args.asked.now bytes h.line (string_bytes h.words)) c.hiding_in.result
    (λ hiding tells. (name, p, c.in_ok-composition.ensures, of, tells))
    c.hiding_in.ensures
