use Rattle.ioa_tree.specs.View.{tree_of}
use Rattle.ioa_serving.proofs.Composed.{all_fine, all_unfine}
use Rattle.ioa_serving.proofs.check.accept_source.Goals as goal

pub returns-then-compositions-clause-fine : goal.returns-then-compositions-clause-fine
returns-then-compositions-clause-fine c =
    all_fine c.compose_each.result c.args.text.now c.args.compositions (tree_of c.in_ok-source.source) (tree_of c.in_ok-checked.checked) c.if-compositions.true
    c.in_ok-source.ensures.found c.in_ok-checked.ensures.same c.in_ok-checked.ensures.well_formed c.compose_each.ensures.composed

pub returns-then-compositions-clause-refused : goal.returns-then-compositions-clause-refused
returns-then-compositions-clause-refused c =
    all_unfine c.compose_each.result c.args.text.now c.args.compositions (tree_of c.in_ok-source.source) (tree_of c.in_ok-checked.checked) c.if-compositions.true
    c.in_ok-source.ensures.found c.in_ok-checked.ensures.same c.in_ok-checked.ensures.well_formed c.compose_each.ensures.refused
