use Rattle.std.proofs.Common.{◌∙◌}
use Rattle.std.proofs.lemmas.Result.{IfOk-weaker}
use Rattle.std.specs.Option.{option_copied}
use Rattle.ioac.proofs.ToldUnasked.{told_seeds}
use Rattle.ioac.proofs.usage.bad_run_text.Goals as goal

pub returns-in-Some : goal.returns-in-Some
returns-in-Some c =
    IfOk-weaker c.bad_seeds_text.result _ _
    (λ text e. e ∙ told_seeds c.args.found.now c.in-Some.word.now (option_copied c.get_str-turns.result) c.in-Some.ensures c.get_str-turns.ensures) c.bad_seeds_text.ensures
