use Rattle.std.proofs.Common.{sym, subst}
use Rattle.std.proofs.lemmas.Result.{on_ok_weaker}
use Rattle.ioa_code.specs.Parts.{listing}
use Rattle.ioa_tree.specs.View.{expr_of, choice_of}
use Rattle.ioa_emit.specs.Emitting.{AddsChoice}
use Rattle.ioa_emit.proofs.Emitted.{adds_any}
use Rattle.ioa_compile.proofs.proposals.emit_choice.Goals as goal

pub returns-in_ok-emit_expression-in-Any : goal.returns-in_ok-emit_expression-in-Any
returns-in_ok-emit_expression-in-Any c =
    let s = c.args.scope.now in
    let types = c.args.scope.now.types in
    let c0 = listing types c.args.out.now in
    let c1 = listing types c.emit_expression-in-Any.new.out in
    let c2 = listing types c.put.new.out in
    on_ok_weaker c.put.result
    (λ z. subst (λ k. AddsChoice c0 c2 s (choice_of k)) (sym c.in-Any.is) (adds_any c0 c1 c2 s (expr_of c.in-Any.expression) c.in_ok-emit_expression-in-Any.ensures (z types)))
    c.put.ensures
