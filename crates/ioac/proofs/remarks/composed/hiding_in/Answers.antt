use Rattle.std.proofs.Common.{string_bytes}
use Rattle.std.specs.Option.{option_copied}
use Rattle.ioa_causes.proofs.Found.{if_found}
use Rattle.ioac.specs.declared.remarks.composed.Hiding.{Hiding}
use Rattle.ioac.specs.UnseenLines.{TellsUnseenOf, TellsUnseenOn}
use Rattle.ioac.proofs.remarks.composed.hiding_in.Goals as goal

-- it is the program's
pub returns-in-Some : goal.returns-in-Some
returns-in-Some c =
    let bytes = c.args.bytes.now in
    let name = option_copied c.args.composition in
    let unseen = c.in-Some.unseen in
    if_found (λ (h : Hiding). TellsUnseenOn bytes name unseen h.line (string_bytes h.words)) (λ (h : Hiding). TellsUnseenOf c.args.program.now bytes name h.line (string_bytes h.words))
    c.hiding_at.result
    (λ hiding tells. (unseen, c.in-Some.ensures, tells))
    c.hiding_at.ensures
