use Rattle.std.proofs.Common.{◌∷◌, [], ◌++◌, map, ap, ◌∙◌}
use Rattle.ioa_value.specs.Plain.{plain}
use Rattle.ioa_value.proofs.PlainLemmas.{plain-Tuple}
use Rattle.ioa_value.proofs.stack.pop_fields.Goals as goal
use Rattle.ioa_value.proofs.SequenceLemmas.{put}

pub returns : goal.returns
returns c =
    let ty = c.in-Tuple.field-0 in (
      ty.0,
      put c.args.stack.now.items c.pop.new.stack.items c.pop.result c.pop.ensures
          ∙ ap (λ v. map plain c.pop.new.stack.items ++ v ∷ []) (ap plain c.in-Tuple.is ∙ plain-Tuple ty c.in-Tuple.fields),
    )
