use Rattle.std.proofs.Common.{sym, ap, subst, ◌∙◌}
use Rattle.std.specs.Option.{option_copied}
use Rattle.ioa_causes.proofs.Found.{if_ok}
use Rattle.ioac.specs.Heard.{IsAskedProgram, IsGivenProgram}
use Rattle.ioac.specs.Remarks.{named_by, source_of}
use Rattle.ioac.proofs.remarks.refused.program_asked.Goals as goal

-- the bytes are those of the file that is named
pub returns : goal.returns
returns g c =
    let holds = g.F.Store.holds c.args.store.now in
    let lacks = g.F.Store.lacks c.args.store.now in
    let from = sym c.source_of.ensures ∙ ap named_by c.in-Some.is in
    let name = option_copied c.in-Some.composition in
    if_ok (IsGivenProgram c.as_slice.result.now name) (IsAskedProgram holds lacks (source_of c.args.asked.now)) c.program_in.result
    (λ p given.
    subst (λ o. IsAskedProgram holds lacks o p) (sym from)
    (c.in_ok-bytes.bytes.items, c.in_ok-bytes.ensures, subst (λ bytes. IsGivenProgram bytes name p) c.as_slice.ensures.value given))
    c.program_in.ensures
