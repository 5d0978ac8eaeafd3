use Rattle.std.proofs.Common.{◌∙◌, ◌++◌, ap}
use Rattle.ioa_enabled.specs.Told.{part_lines}
use Rattle.ioa_enabled.proofs.next.part_text.Goals as goal

pub returns : goal.returns
returns c = λ h hs over stands means held.
    c.in_ok-put_part.ensures h hs over stands means held ∙ ap (λ before. before ++ part_lines c.args.part h.types h.hosts hs) c.new-text.ensures.bytes
