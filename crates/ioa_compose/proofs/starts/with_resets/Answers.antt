use Rattle.std.proofs.Common.{Vec, Global, ap, ◌∙◌, arith}
use Rattle.ioa_value.specs.declared.value.Value.{Value}
use Rattle.ioa_tree.specs.declared.tree.Variable.{Variable}
use Rattle.ioa_crash.proofs.RewritingLemmas.{value_more, value_same, item_read}
use Rattle.ioa_compose.proofs.starts.with_resets.Goals as goal
use Rattle.ioa_compose.proofs.starts.with_resets.Goals.{then-not-variables-i+in_ok-try_copy+in_ok-push, else-not-variables-i}

pub loop-i-preserved : goal.loop-i-preserved
loop-i-preserved c =
    let vs = c.args.variables.now in
    let ws = c.args.starts.now in
    let k = c.loop-i.i in
    let xs = c.loop-i.arguments.items in
    let long = c.loop-i.invariant.long in
    let less = c.loop-i-test.true in
    let read = ap (λ (v : Variable). v.stable) c.index-variables-i.is in
    record {
      long = long;
      values = elim c.if-not-variables-i.branch [
        | then-not-variables-i+in_ok-try_copy+in_ok-push w ↦
            value_more vs k c.index-variables-i.result less c.index-variables-i.is ws w.index-starts-i.result (omega (arith, long, less)) w.index-starts-i.is xs _
            w.in_ok-try_copy.field-0 _ (ap (λ (o : Vec Value Global). o.items) w.arguments-is ∙ w.in_ok-push.ensures.items) (read ∙ w.if-not-variables-i.true)
            w.in_ok-try_copy.ensures c.loop-i.invariant.values
        | else-not-variables-i w ↦
            let there = item_read ws k (omega (arith, long, less)) in
            value_same vs k c.index-variables-i.result less c.index-variables-i.is ws there.0 (omega (arith, long, less)) there.1 xs _ _
            (ap (λ (o : Vec Value Global). o.items) w.arguments-is) (read ∙ w.if-not-variables-i.false) c.loop-i.invariant.values
      ];
    }
