use Rattle.std.proofs.Common.{◌∙◌, ap, ◌++◌, ◌∷◌}
use Rattle.ioa_value.proofs.LineLemmas.{after_ended, after_none}
use Rattle.ioa_value.proofs.lines.first_line.Goals as goal

pub returns-in-Some-clause-after : goal.returns-in-Some-clause-after
returns-in-Some-clause-after c =
    let rest = c.in-Some.parts.1.now in
    after_ended c.args.text.now rest (c.in-Some.ensures.parts ∙ ap (λ line. line ++ 10 ∷ rest) c.in-Some.ensures.line)

pub returns-in-None-clause-after : goal.returns-in-None-clause-after
returns-in-None-clause-after c = after_none c.args.text.now c.in-None.ensures.none
