use Rattle.std.proofs.Common.{refl, sym, subst}
use Rattle.std.specs.Option.{option_map}
use Rattle.std.proofs.lemmas.Result.{on_ok_weaker}
use Rattle.ioa_code.specs.Parts.{listing}
use Rattle.ioa_tree.specs.View.{expr_of}
use Rattle.ioa_emit.specs.Emitting.{AddsGuard}
use Rattle.ioa_emit.proofs.emitter.emit_guard.Goals as goal

pub returns-in-None : goal.returns-in-None
returns-in-None c =
    let s = c.args.scope.now in
    let types = c.args.scope.now.types in
    let c0 = listing types c.args.out.now in
    let c1 = listing types c.put_constant.new.out in
    on_ok_weaker c.put_constant.result
    (λ more. subst (λ g. AddsGuard c0 c1 s (option_map expr_of g)) (sym c.in-None.is) (more types refl))
    c.put_constant.ensures
