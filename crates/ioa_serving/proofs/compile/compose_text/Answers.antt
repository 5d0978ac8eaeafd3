use Rattle.std.specs.Option.{option_copied}
use Rattle.std.proofs.lemmas.Result.{IfOk-weaker}
use Rattle.ioa_tree.specs.View.{tree_of}
use Rattle.ioa_serving.proofs.Refused.{all_uncomposed, declared}
use Rattle.ioa_serving.proofs.compile.compose_text.Goals as goal

pub returns-clause-composes : goal.returns-clause-composes
returns-clause-composes c =
    IfOk-weaker c.compose.result _ _ (
    λ p k. (
      k.2,
      declared c.args.text.now (option_copied c.args.composition) (tree_of c.in_ok-source.source) (tree_of c.in_ok-checked.checked) k.0 k.2
          c.in_ok-source.ensures.found c.in_ok-checked.ensures.same c.in_ok-checked.ensures.well_formed k.1 k.3,
      k.4,
    )
    ) c.compose.ensures.composed

pub returns-clause-refused : goal.returns-clause-refused
returns-clause-refused c =
    all_uncomposed c.compose.result c.args.text.now (option_copied c.args.composition) (tree_of c.in_ok-source.source) (tree_of c.in_ok-checked.checked)
    c.in_ok-source.ensures.found c.in_ok-checked.ensures.same c.in_ok-checked.ensures.well_formed c.compose.ensures.missing.0 c.compose.ensures.refused
