use Rattle.std.proofs.Common.{take, ap, ◌∙◌}
use Rattle.std.proofs.lemmas.List.{take_min}
use Rattle.ioa_account.specs.Quoted.{most_shown}
use Rattle.ioa_account.proofs.Quoting.{shown_line}
use Rattle.ioa_account.proofs.quoted.put_shown.Goals as goal

pub returns : goal.returns
returns c =
    shown_line _ _ _ _ _ _ _ _ c.in_ok-push_str.ensures.bytes (c.as_str.ensures.value ∙ c.in_ok-words.ensures.lossy)
    (ap (λ k. take k c.args.line.now) c.min-count.ensures ∙ take_min most_shown c.args.line.now) c.in_ok-put_letters.ensures c.end_of.ensures c.in_ok-push_str-2.ensures.bytes
