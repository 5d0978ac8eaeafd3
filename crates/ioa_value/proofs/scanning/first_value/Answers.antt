use Rattle.std.proofs.Common.{◌≡◌, IfOk, ap, subst, ◌∙◌}
use Rattle.std.specs.Option.{option_map}
use Rattle.ioa_value.specs.Fronts.{front_of}
use Rattle.ioa_value.specs.Tokens.{first_word}
use Rattle.ioa_value.specs.Scanning.{leading_type, scan_of}
use Rattle.ioa_value.proofs.scanning.first_value.Goals as goal

pub returns-clause-value : goal.returns-clause-value
returns-clause-value c =
    let types = c.args.types.now in
    let text = c.args.text.now in
    let front = c.first_word-front.ensures in
    let leads : c.leading-ty.result.0 ≡ leading_type types (first_word text) = c.leading-ty.ensures.value ∙ ap (leading_type types) front.word in
    subst (λ ty. IfOk c.value_of_type.result (λ r. option_map front_of r ≡ scan_of types ty text)) leads (c.value_of_type.ensures.value text (front.word, front.rest))
