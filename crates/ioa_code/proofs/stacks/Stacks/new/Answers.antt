use Rattle.std.proofs.Common.{◌++◌, ◌∷◌, [], ap, ◌∙◌}
use Rattle.ioa_code.proofs.Searching.{none, at_bottom, empty_numbered}
use Rattle.ioa_code.proofs.stacks.Stacks.new.Goals as goal

pub invariant_of-result : goal.invariant_of-result
invariant_of-result c =
    empty_numbered _ c.new.ensures.items (c.in_ok-push.ensures.items ∙ ap (λ l. l ++ none ∷ []) c.new-links.ensures.items) (c.in_ok-push-2.ensures.items ∙ ap (λ l. l ++ at_bottom ∷ []) c.new-depths.ensures.items)
