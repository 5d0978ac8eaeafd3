use Rattle.std.specs.Option.{option_copied}
use Rattle.std.proofs.Common.{sym, ◌∙◌}
use Rattle.ioa_request.specs.Pasted.{left_of, texts}
use Rattle.ioa_request.proofs.ToldWords.{told_plain}
use Rattle.ioa_request.proofs.pasted.told.Goals as goal

pub returns : goal.returns
returns c =
    told_plain (texts c.args.words.now) c.in_ok-first.first.now (left_of c.in_ok-first.left) (option_copied c.second_word-2.result) c.in_ok-first.ensures
    (sym c.is_label.ensures ∙ c.if-is_label.false) c.second_word-2.ensures
