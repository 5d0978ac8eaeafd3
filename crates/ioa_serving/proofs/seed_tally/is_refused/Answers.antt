use Rattle.std.proofs.Common.{ap₂, ap, sym, ◌∙◌, ◌||◌}
use Rattle.std.specs.List.{list_any}
use Rattle.std.specs.Prelude.{is_some}
use Rattle.ioa_serving.specs.SeedRuns.{judged_of}
use Rattle.ioa_serving.specs.Seeds.{is_broken}
use Rattle.ioa_serving.proofs.Shortest.{any_mapped}
use Rattle.ioa_serving.proofs.seed_tally.is_refused.Goals as goal

pub returns-then-refused : goal.returns-then-refused
returns-then-refused c =
    let refused = c.some_refuse-refused.ensures ∙ ap (list_any is_some) c.deref.ensures.value ∙ sym (any_mapped c.args.judged.now.answers.items) in
    c.if-refused.true ∙ ap (λ x. x || is_broken (judged_of c.args.judged.now)) (sym c.if-refused.true ∙ refused)

pub returns-else-refused : goal.returns-else-refused
returns-else-refused c =
    let refused = c.some_refuse-refused.ensures ∙ ap (list_any is_some) c.deref.ensures.value ∙ sym (any_mapped c.args.judged.now.answers.items) in
    ap₂ (λ x y. x || y) (sym c.if-refused.false ∙ refused) c.is_broken-broken.ensures
