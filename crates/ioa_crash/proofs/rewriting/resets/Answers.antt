use Rattle.std.proofs.Common.{Vec, Global, map, ap, sym, ◌∙◌}
use Rattle.std.proofs.lemmas.List.{drop_all}
use Rattle.ioa_tree.specs.declared.tree.Statement.{Statement}
use Rattle.ioa_tree.specs.Tree.{seq, stop}
use Rattle.ioa_tree.specs.View.{variable_of}
use Rattle.ioa_crash.specs.Rewriting.{volatile, resets}
use Rattle.ioa_crash.proofs.RewritingLemmas.{reset_more, reset_same, resets_done}
use Rattle.ioa_crash.proofs.rewriting.resets.Goals as goal
use Rattle.ioa_crash.proofs.rewriting.resets.Goals.{then-not-variable+in_ok-reset+in_ok-push, else-not-variable}

pub loop-variable-preserved : goal.loop-variable-preserved
loop-variable-preserved c =
    let vs = c.args.variables.now in
    let k = c.loop-variable.variable-index in
    let xs = c.loop-variable.out.items in
    elim c.if-not-variable.branch [
      | then-not-variable+in_ok-reset+in_ok-push w ↦
          reset_more vs k c.variable-item.result c.loop-variable-test.true c.variable-item.is xs _ w.in_ok-reset.field-0 _
          (ap (λ (o : Vec Statement Global). o.items) w.out-is ∙ w.in_ok-push.ensures.items) w.if-not-variable.true w.in_ok-reset.ensures c.loop-variable.invariant
      | else-not-variable w ↦
          reset_same vs k c.variable-item.result c.loop-variable-test.true c.variable-item.is xs _ _
          (ap (λ (o : Vec Statement Global). o.items) w.out-is) w.if-not-variable.false c.loop-variable.invariant
    ]

pub returns : goal.returns
returns c =
    resets_done c.loop-variable.out.items _ c.in_ok-set_up.field-0 _ _ c.in_ok-push-2.ensures.items
    (ap (λ s. seq s stop) c.in_ok-set_up.ensures
    ∙ sym (ap (λ us. resets (volatile (map variable_of us))) (drop_all c.loop-variable.variable-index c.args.variables.now c.loop-variable-test.false)))
    c.loop-variable.invariant
