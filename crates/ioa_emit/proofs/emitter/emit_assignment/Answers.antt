use Rattle.std.proofs.Common.{sym, ◌∙◌}
use Rattle.std.proofs.lemmas.Result.{on_ok_weaker}
use Rattle.ioa_code.specs.Parts.{listing}
use Rattle.ioa_tree.specs.View.{name_of, expr_of}
use Rattle.ioa_emit.proofs.Emitted.{adds_assign}
use Rattle.ioa_emit.proofs.emitter.emit_assignment.Goals as goal

pub returns : goal.returns
returns c =
    let s = c.args.scope.now in
    let x = name_of c.args.name.now in
    let place = sym c.variable.ensures in
    on_ok_weaker c.put.result
    (λ z. adds_assign (listing c.args.scope.now.types c.args.out.now) (listing c.args.scope.now.types c.emit_expression.new.out) (listing c.args.scope.now.types c.put.new.out) s x (expr_of c.args.e.now) c.in-Some.i (place ∙ c.in-Some.is) c.in_ok-emit_expression.ensures (z c.args.scope.now.types))
    c.put.ensures
