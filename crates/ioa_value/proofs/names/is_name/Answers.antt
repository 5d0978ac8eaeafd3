use Rattle.std.proofs.Common.{sym, ap, ◌∙◌, ◌&&◌, not, true}
use Rattle.ioa_value.specs.Names.{is_name, is_reserved}
use Rattle.ioa_value.proofs.Spellings.{named_so}
use Rattle.ioa_value.proofs.names.is_name.Goals as goal

pub returns-then-is_word : goal.returns-then-is_word
returns-then-is_word c =
    named_so c.args.text.now true c.is_reserved.result (sym c.if-is_word.true ∙ c.is_word.ensures) c.is_reserved.ensures

pub returns-else-is_word : goal.returns-else-is_word
unfolding is_name
returns-else-is_word c =
    c.if-is_word.false ∙ sym (ap (λ b. b && not (is_reserved c.args.text.now)) (sym c.is_word.ensures ∙ c.if-is_word.false))
