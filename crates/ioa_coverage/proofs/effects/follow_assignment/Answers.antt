use Rattle.std.proofs.Common.{◌≡◌, ◌∙◌, List, None, ap, subst, sym}
use Rattle.ioa_value.specs.Actions.{Name}
use Rattle.ioa_value.specs.Operators.{answer_of, gives}
use Rattle.ioa_value.specs.Plain.{plain}
use Rattle.ioa_tree.specs.Meaning.{val, with_name}
use Rattle.ioa_tree.specs.View.{expr_of, name_of}
use Rattle.ioa_coverage.specs.declared.scope.Binding.{Binding}
use Rattle.ioa_coverage.specs.Known.{known}
use Rattle.ioa_coverage.proofs.Followed.{assigned_to, assigns}
use Rattle.ioa_coverage.proofs.effects.follow_assignment.Goals as goal

pub assign-requires : goal.assign-requires
assign-requires c =
    let types = c.args.types.now in
    let env = known c.args.scope.now.items in
    let is : gives (plain c.in-Ok.value) ≡ val types (expr_of c.args.expression.now) env =
    ap answer_of (sym c.in-Ok.is) ∙ c.in_ok-value.ensures ∙ ap (λ (bs : List Binding). val types (expr_of c.args.expression.now) (known bs)) c.deref.ensures.value in
    subst (λ (x : Name). env x ≡ None → ⊥) (sym c.as_str.ensures.value)
    (assigned_to types c.requires.types (name_of c.args.name.now) (expr_of c.args.expression.now) env (plain c.in-Ok.value) c.requires.typed is)

pub returns-in-Ok-clause-left : goal.returns-in-Ok-clause-left
returns-in-Ok-clause-left c =
    let types = c.args.types.now in
    let env = known c.args.scope.now.items in
    let v = plain c.in-Ok.value in
    let is : gives v ≡ val types (expr_of c.args.expression.now) env =
    ap answer_of (sym c.in-Ok.is) ∙ c.in_ok-value.ensures ∙ ap (λ (bs : List Binding). val types (expr_of c.args.expression.now) (known bs)) c.deref.ensures.value in
    assigns types (name_of c.args.name.now) (expr_of c.args.expression.now) env (known c.assign.new.scope.items) v is
    (assigned_to types c.requires.types (name_of c.args.name.now) (expr_of c.args.expression.now) env v c.requires.typed is)
    (c.assign.ensures.known ∙ ap (λ (x : Name). with_name env x v) c.as_str.ensures.value)
