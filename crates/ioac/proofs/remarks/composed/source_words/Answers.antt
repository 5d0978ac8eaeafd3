use Rattle.std.proofs.Common.{◌≡◌, IfSome, string_bytes, subst}
use Rattle.std.specs.Option.{option_copied}
use Rattle.ioa_tree.specs.View.{tree_of}
use Rattle.ioa_causes.specs.Composing.{declared, missing_words}
use Rattle.ioa_serving.specs.Headline.{Spells}
use Rattle.ioac.proofs.remarks.composed.source_words.Goals as goal

-- the declarations are those that the source spells
pub returns-in_ok-missing_words-in-Some : goal.returns-in_ok-missing_words-in-Some
returns-in_ok-missing_words-in-Some c =
    let name = option_copied c.in_ok-composition-in-Some.composition in
    let words = string_bytes c.in_ok-missing_words-in-Some.field-0 in (
      c.in-Some.checked,
      name,
      subst (λ o. IfSome o (λ s. Spells c.args.source.now (tree_of s))) c.in-Some.is c.in_ok-checked.ensures,
      c.in_ok-composition-in-Some.ensures,
      subst (λ d. words ≡ missing_words name (declared d)) c.declarations-declarations.ensures.value c.in_ok-missing_words-in-Some.ensures,
    )
