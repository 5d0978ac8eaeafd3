use Rattle.std.proofs.Common.{◌∷◌, [], ◌++◌, map, ap, ◌∙◌}
use Rattle.ioa_value.specs.Plain.{plain}
use Rattle.ioa_value.proofs.PlainLemmas.{plain-Items}
use Rattle.ioa_value.proofs.stack.pop_sequence.Goals as goal
use Rattle.ioa_value.proofs.SequenceLemmas.{put}

pub returns : goal.returns
returns c =
    put c.args.stack.now.items c.pop.new.stack.items c.pop.result c.pop.ensures
    ∙ ap (λ v. map plain c.pop.new.stack.items ++ v ∷ []) (ap plain c.in-Items.is ∙ plain-Items c.in-Items.ty c.in-Items.items)
