use Rattle.std.proofs.Common.{IfSome, ap, inl, inr, string_bytes, subst, ◌∙◌}
use Rattle.ioa_causes.specs.Composing.{TellsComposed}
use Rattle.ioa_causes.specs.Worded.{wording}
use Rattle.ioac.proofs.remarks.composed.how_refused.Goals as goal

pub returns-in-Some : goal.returns-in-Some
returns-in-Some c =
    let ds = c.args.placed.now.checked in
    let a = c.args.assembly.now in
    let r = c.args.refusal.now in
    inl (
    subst (λ ts. TellsComposed ts ds a r (string_bytes c.in-Some.words)) c.as_slice-tokens.ensures.value
    (subst (λ o. IfSome o (λ w. TellsComposed c.as_slice-tokens.result.now ds a r (string_bytes w))) c.in-Some.is c.in_ok-words.ensures))

pub returns-in_ok-general-in-None : goal.returns-in_ok-general-in-None
returns-in_ok-general-in-None c = inr (c.in_ok-general-in-None.ensures ∙ ap wording c.code.ensures)
