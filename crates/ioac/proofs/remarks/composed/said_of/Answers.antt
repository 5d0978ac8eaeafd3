use Rattle.std.proofs.Common.{◌≡◌, refl, string_bytes, sym, ◌∙◌}
use Rattle.ioa_serving.specs.FailureCodes.{failure_code, refusal_code}
use Rattle.ioa_causes.proofs.Found.{if_found}
use Rattle.ioac.specs.declared.remarks.composed.Said.{Said}
use Rattle.ioac.specs.Composed.{TellsOn, TellsRefused}
use Rattle.ioac.proofs.remarks.composed.said_of.Goals as goal

-- both codes are one
pub returns-then-is_same_code : goal.returns-then-is_same_code
returns-then-is_same_code c =
    let ts = c.args.placed.now.tokens.items in
    let ds = c.args.placed.now.checked in
    let a = c.args.assembly.now in
    let r = c.args.refusal in
    let e = c.args.failure.now in
    let codes : refusal_code r ≡ failure_code e = sym c.code_of-own.ensures ∙ c.if-is_same_code.ensures refl ∙ c.code-code.ensures in
    if_found (λ (s : Said). TellsOn ts ds a r e s.line (string_bytes s.words)) (λ (s : Said). TellsRefused ts ds a r e s.line (string_bytes s.words)) c.said_on-said.result
    (λ said tells. (codes, tells))
    c.said_on-said.ensures
