use Rattle.std.proofs.Common.{◌≡◌, ◌∙◌, ◌++◌, [], ◌∷◌, ap, rules, sym}
use Rattle.std.specs.List.{range_with_len}
use Rattle.ioa_serving.proofs.Grouping.{range_more}
use Rattle.ioa_serving.proofs.groups.apart.Goals as goal

pub loop-component-preserved : goal.loop-component-preserved
loop-component-preserved c =
    c.in_ok-push.ensures.items ∙ ap (λ l. l ++ c.loop-component.component ∷ []) c.loop-component.invariant ∙ sym (range_more c.loop-component.component)

pub returns : goal.returns
returns c =
    let all : c.loop-component.component ≡ c.args.components = search rules in
    c.in_ok-push-2.ensures.items ∙ ap (λ l. l ++ c.args.components ∷ []) (c.loop-component.invariant ∙ ap (range_with_len 0) all) ∙ sym (range_more c.args.components)
