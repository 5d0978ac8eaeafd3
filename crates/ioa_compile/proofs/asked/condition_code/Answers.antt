use Rattle.std.proofs.Common.{[], ◌∷◌, map, Some, refl, sym, ap, subst}
use Rattle.ioa_value.specs.Plain.{number}
use Rattle.ioa_code.specs.declared.instr.PartKind.TheVariants.{Pre}
use Rattle.ioa_code.specs.Machine.{Listing}
use Rattle.ioa_code.specs.Parts.{listing}
use Rattle.ioa_code.specs.Valid.{Part}
use Rattle.ioa_tree.specs.View.{expr_of}
use Rattle.ioa_compose.specs.Held.{member_of}
use Rattle.ioa_emit.specs.Scopes.{IsKnown, scope_of_proposals}
use Rattle.ioa_compile.specs.Translated.{IsFor, IsGuard}
use Rattle.ioa_compile.proofs.Asking.{asks, condition_known, condition_made, condition_scope, condition_valid}
use Rattle.ioa_compile.proofs.asked.condition_code.Goals as goal

pub of_proposals-scope-requires : goal.of_proposals-scope-requires
of_proposals-scope-requires c =
    condition_scope (member_of c.args.member.now) c.requires.fine (map number c.args.slots.now) c.requires.slots (expr_of c.args.condition.now) c.requires.typed

pub emit_expression-requires-clause-known : goal.emit_expression-requires-clause-known
emit_expression-requires-clause-known c =
    let x = expr_of c.args.condition.now in
    subst (λ s. IsKnown s x) (sym c.of_proposals-scope.ensures)
    (condition_known (member_of c.args.member.now) c.requires.fine (map number c.args.slots.now) c.requires.slots x c.requires.typed)

pub verified-requires-clause-valid : goal.verified-requires-clause-valid
verified-requires-clause-valid c =
    let m = member_of c.args.member.now in
    let x = expr_of c.args.condition.now in
    let made = condition_made c.of_proposals-scope.result m x (record { instrs = c.new.result; consts = c.new-2.result }) c.emit_expression.new.out c.of_proposals-scope.ensures c.new.ensures.items c.new-2.ensures.items c.in_ok-emit_expression.ensures in
    condition_valid m c.requires.fine (map number c.args.slots.now) c.requires.slots x c.requires.typed (listing m.instance.types c.emit_expression.new.out) refl made

pub returns : goal.returns
returns c =
    let m = member_of c.args.member.now in
    let x = expr_of c.args.condition.now in
    let vs = map number c.args.slots.now in
    let value = c.in_ok-part.ensures.value in
    let is : IsFor c.in_ok-part.part m.instance.types Pre (0 ∷ []) vs [] = record {
      types_are = ap (λ (p : Part). p.code.types) value;
      verified = c.in_ok-part.ensures.sound;
      kind = ap (λ (p : Part). p.kind) value;
      result = ap (λ (p : Part). p.result) value;
      slots = ap (λ (p : Part). p.slots) value;
      args = ap (λ (p : Part). p.args) value;
    } in
    let made = condition_made c.of_proposals-scope.result m x (record { instrs = c.new.result; consts = c.new-2.result }) c.emit_expression.new.out c.of_proposals-scope.ensures c.new.ensures.items c.new-2.ensures.items c.in_ok-emit_expression.ensures in
    asks m c.requires.fine vs c.requires.slots x c.requires.typed c.in_ok-part.part is
    (subst (λ (l : Listing). IsGuard l (scope_of_proposals m) (Some x)) (sym (ap (λ (p : Part). p.code) value)) made)
