use Rattle.std.proofs.Common.{◌≡◌, IfOk, ap, ◌∙◌, string_bytes, subst}
use Rattle.std.specs.Fmt.{styled_decimal}
use Rattle.ioa_request.proofs.Keys.{digits_formatted}
use Rattle.ioa_request.proofs.key.numbered_digits.Goals as goal

pub returns-clause-digits : goal.returns-clause-digits
returns-clause-digits c =
    subst (λ ds. IfOk c.format.result (λ text. string_bytes text ≡ ds))
    (ap (λ s. styled_decimal s c.args.number) c.laid_out.ensures ∙ digits_formatted c.args.number) c.format.ensures.ok
