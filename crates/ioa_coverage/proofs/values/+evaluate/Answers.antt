use Rattle.std.proofs.Common.{◌≡◌, IfOk, [], ◌∷◌, drop, ◌+◌, refl, ap, sym, ◌∙◌, arith, map, subst}
use Rattle.ioa_value.specs.Plain.{plain}
use Rattle.std.proofs.lemmas.List.{map-append}
use Rattle.ioa_value.proofs.ItemLemmas.{passes_at}
use Rattle.ioa_tree.specs.Tree.{named, prefix, binary, empty, select}
use Rattle.ioa_tree.specs.View.{expr_of, name_of}
use Rattle.ioa_tree.specs.Meaning.{val}
use Rattle.ioa_tree.specs.Instances.{all_values, settled}
use Rattle.ioa_tree.specs.WellFormed.{nodes}
use Rattle.ioa_tree.proofs.Starts.{some_there}
use Rattle.ioa_compose.specs.Bindings.{typed, start_of, value_in, values_in}
use Rattle.ioa_value.specs.Operators.{answer_of}
use Rattle.ioa_coverage.specs.Known.{known}
use Rattle.ioa_compose.proofs.ValueLemmas.{prepended, values-go-on, values-stop}
use Rattle.ioa_compose.proofs.EvaluateLemmas.{operand_typed, left_typed, right_typed, operand_taken, operands_typed, fault_stays, name_known, empty_known, make_shown, parts_typed, tuple_typed, nodes_at, make_answer, fields_taken, field_there, HasSome}
use Rattle.ioa_coverage.proofs.Evaluated.{settled-value}
use Rattle.ioa_coverage.proofs.values.+evaluate.Goals as goal

pub evaluate-constant-requires : goal.evaluate-constant-requires
evaluate-constant-requires t c =
    let types = c.args.types.now in
    let env = known c.args.scope.now in
    let x = name_of c.in-Name.name in
    let shown : expr_of c.args.expression.now ≡ named x = ap expr_of c.in-Name.is in
    let h : HasSome types c.requires.typed.0 (named x) = subst (HasSome types c.requires.typed.0) shown c.requires.typed.2 in
    name_known types c.requires.typed.0 env x c.requires.typed.1 h
    (ap env (sym c.as_str.ensures.value) ∙ c.in-None.ensures.missing)

pub evaluate-empty-requires : goal.evaluate-empty-requires
evaluate-empty-requires t c =
    let types = c.args.types.now in
    let x = name_of c.in-Empty.name in
    let shown : expr_of c.args.expression.now ≡ empty x = ap expr_of c.in-Empty.is in
    empty_known types c.requires.typed.0 x (subst (HasSome types c.requires.typed.0) shown c.requires.typed.2)

pub evaluate-evaluate-requires-in-Binary : goal.evaluate-evaluate-requires-in-Binary
evaluate-evaluate-requires-in-Binary t c =
    let ctx = c.requires.typed.0 in
    let shown : expr_of c.args.expression.now ≡ binary (expr_of c.in-Binary.left.value) c.in-Binary.operator (expr_of c.in-Binary.right.value) = ap expr_of c.in-Binary.is in
    let h = left_typed c.args.types.now ctx _ _ _ _ shown c.requires.typed.2 in
    let size = ap nodes shown in
    let same = ap (λ e. nodes (expr_of e)) c.deref-in-Binary.ensures in
    (omega arith, (c.requires.types, (c.requires.typed.0, c.requires.typed.1, subst (λ e. HasSome c.args.types.now ctx (expr_of e)) (sym c.deref-in-Binary.ensures) h)))

pub evaluate-evaluate-requires-in-Binary-2 : goal.evaluate-evaluate-requires-in-Binary-2
evaluate-evaluate-requires-in-Binary-2 t c =
    let ctx = c.requires.typed.0 in
    let shown : expr_of c.args.expression.now ≡ binary (expr_of c.in-Binary.left.value) c.in-Binary.operator (expr_of c.in-Binary.right.value) = ap expr_of c.in-Binary.is in
    let h = right_typed c.args.types.now ctx _ _ _ _ shown c.requires.typed.2 in
    let size = ap nodes shown in
    let same = ap (λ e. nodes (expr_of e)) c.deref-in-Binary-2.ensures in
    (omega arith, (c.requires.types, (c.requires.typed.0, c.requires.typed.1, subst (λ e. HasSome c.args.types.now ctx (expr_of e)) (sym c.deref-in-Binary-2.ensures) h)))

pub evaluate-evaluate-requires-in-Prefix : goal.evaluate-evaluate-requires-in-Prefix
evaluate-evaluate-requires-in-Prefix t c =
    let ctx = c.requires.typed.0 in
    let shown : expr_of c.args.expression.now ≡ prefix c.in-Prefix.operator (expr_of c.in-Prefix.operand.value) = ap expr_of c.in-Prefix.is in
    let h = operand_typed c.args.types.now ctx _ _ _ shown c.requires.typed.2 in
    let size = ap nodes shown in
    let same = ap (λ e. nodes (expr_of e)) c.deref-in-Prefix.ensures in
    (omega arith, (c.requires.types, (c.requires.typed.0, c.requires.typed.1, subst (λ e. HasSome c.args.types.now ctx (expr_of e)) (sym c.deref-in-Prefix.ensures) h)))

pub evaluate-of_one-requires : goal.evaluate-of_one-requires
evaluate-of_one-requires t c =
    let env = known c.args.scope.now in
    let shown : expr_of c.args.expression.now ≡ prefix c.in-Prefix.operator (expr_of c.in-Prefix.operand.value) = ap expr_of c.in-Prefix.is in
    let value = ap answer_of (sym c.in-Ok.is) ∙ c.in_ok-value-in-Prefix.ensures ∙ ap (λ e. val c.args.types.now (expr_of e) env) c.deref-in-Prefix.ensures in
    operand_taken c.args.types.now c.requires.typed.0 env _ _ _ _ c.requires.types c.requires.typed.1 shown c.requires.typed.2 value

pub evaluate-joined-requires-clause-operands : goal.evaluate-joined-requires-clause-operands
evaluate-joined-requires-clause-operands t c =
    let env = known c.args.scope.now in
    let shown : expr_of c.args.expression.now ≡ binary (expr_of c.in-Binary.left.value) c.in-Binary.operator (expr_of c.in-Binary.right.value) = ap expr_of c.in-Binary.is in
    let first = ap answer_of (sym c.in-Ok-2.is) ∙ c.in_ok-value-in-Binary.ensures ∙ ap (λ e. val c.args.types.now (expr_of e) env) c.deref-in-Binary.ensures in
    let second = ap answer_of (sym c.in-Ok-3.is) ∙ c.in_ok-value-in-Binary-2.ensures ∙ ap (λ e. val c.args.types.now (expr_of e) env) c.deref-in-Binary-2.ensures in
    operands_typed c.args.types.now c.requires.typed.0 env _ _ _ _ _ _ c.requires.types c.requires.typed.1 shown c.requires.typed.2 first second

pub evaluate-joined-requires-clause-asked : goal.evaluate-joined-requires-clause-asked
evaluate-joined-requires-clause-asked t c = c.in_default.ensures.asked

pub evaluate-returns-in-Err-3 : goal.evaluate-returns-in-Err-3
evaluate-returns-in-Err-3 t c =
    let env = known c.args.scope.now in
    let shown : expr_of c.args.expression.now ≡ binary (expr_of c.in-Binary.left.value) c.in-Binary.operator (expr_of c.in-Binary.right.value) = ap expr_of c.in-Binary.is in
    let first = ap answer_of (sym c.in-Ok-2.is) ∙ c.in_ok-value-in-Binary.ensures ∙ ap (λ e. val c.args.types.now (expr_of e) env) c.deref-in-Binary.ensures in
    let second = ap answer_of (sym c.in-Err-3.is) ∙ c.in_ok-value-in-Binary-2.ensures ∙ ap (λ e. val c.args.types.now (expr_of e) env) c.deref-in-Binary-2.ensures in
    fault_stays c.args.types.now c.requires.types c.requires.typed.0 env _ _ _ _ _ _ c.requires.typed.1 shown c.requires.typed.2 first c.in_default.ensures.asked second

pub evaluate-evaluate_all-requires : goal.evaluate-evaluate_all-requires
evaluate-evaluate_all-requires t c =
    let shown = make_shown _ _ _ c.deref-in-Make.result.now c.in-Make.is c.deref-in-Make.ensures.value in
    let size = ap nodes shown in
    (omega arith, (c.requires.types, (c.requires.typed.0, c.requires.typed.1, parts_typed c.args.types.now c.requires.typed.0 _ _ _ shown c.requires.typed.2)))

pub evaluate-made-requires : goal.evaluate-made-requires
evaluate-made-requires t c =
    let shown = make_shown _ _ _ c.deref-in-Make.result.now c.in-Make.is c.deref-in-Make.ensures.value in
    fields_taken c.args.types.now c.requires.types _ _ c.requires.typed.1 _ _ _ _ shown c.requires.typed.2 (ap values_in (sym c.in-Ok-4.is) ∙ c.in_ok-parts-in-Make.ensures)

pub evaluate-returns-in-Ok-4 : goal.evaluate-returns-in-Ok-4
evaluate-returns-in-Ok-4 t c =
    let shown = make_shown _ _ _ c.deref-in-Make.result.now c.in-Make.is c.deref-in-Make.ensures.value in
    subst (λ a. IfOk c.made.result (λ r. answer_of r ≡ a))
    (make_answer c.args.types.now c.requires.types _ _ c.requires.typed.1 _ _ _ _ shown c.requires.typed.2 (ap values_in (sym c.in-Ok-4.is) ∙ c.in_ok-parts-in-Make.ensures)) c.made.ensures

pub evaluate-returns-in-Err-4 : goal.evaluate-returns-in-Err-4
evaluate-returns-in-Err-4 t c =
    let shown = make_shown _ _ _ c.deref-in-Make.result.now c.in-Make.is c.deref-in-Make.ensures.value in
    make_answer c.args.types.now c.requires.types _ _ c.requires.typed.1 _ _ _ _ shown c.requires.typed.2 (ap values_in (sym c.in-Err-4.is) ∙ c.in_ok-parts-in-Make.ensures)

pub evaluate-evaluate-requires-in-Select : goal.evaluate-evaluate-requires-in-Select
evaluate-evaluate-requires-in-Select t c =
    let ctx = c.requires.typed.0 in
    let shown : expr_of c.args.expression.now ≡ select (expr_of c.in-Select.tuple.value) (name_of c.in-Select.name) = ap expr_of c.in-Select.is in
    let h = tuple_typed c.args.types.now ctx _ _ _ shown c.requires.typed.2 in
    let size = ap nodes shown in
    let same = ap (λ e. nodes (expr_of e)) c.deref-in-Select.ensures in
    (omega arith, (c.requires.types, (c.requires.typed.0, c.requires.typed.1, subst (λ e. HasSome c.args.types.now ctx (expr_of e)) (sym c.deref-in-Select.ensures) h)))

pub evaluate-selected-requires : goal.evaluate-selected-requires
evaluate-selected-requires t c =
    let env = known c.args.scope.now in
    let shown : expr_of c.args.expression.now ≡ select (expr_of c.in-Select.tuple.value) (name_of c.in-Select.name) = ap expr_of c.in-Select.is in
    let value = ap answer_of (sym c.in-Ok-5.is) ∙ c.in_ok-tuple-in-Select.ensures ∙ ap (λ e. val c.args.types.now (expr_of e) env) c.deref-in-Select.ensures in
    field_there c.args.types.now c.requires.types _ _ c.requires.typed.1 _ _ _ _ shown c.requires.typed.2 value

-- ---- expressions in order

pub evaluate_all-evaluate-requires : goal.evaluate_all-evaluate-requires
evaluate_all-evaluate-requires t c =
    let types = c.args.types.now in
    let ctx = c.requires.typed.0 in
    let few = nodes_at c.args.expressions.now _ c.expression-item.result c.loop-expression-test.true c.expression-item.is in
    (omega (arith, few), (c.requires.types, (c.requires.typed.0, c.requires.typed.1, some_there _ (passes_at (typed types ctx) expr_of c.args.expressions.now _ c.expression-item.result c.requires.typed.2 c.loop-expression-test.true c.expression-item.is))))

pub evaluate_all-returns-in-Err : goal.evaluate_all-returns-in-Err
evaluate_all-returns-in-Err t c =
    let start = start_of c.args.types.now (known c.args.scope.now) in
    values-stop start expr_of c.args.expressions.now _ c.expression-item.result (map plain c.loop-expression.found.items) c.in-Err.fault c.loop-expression-test.true c.expression-item.is c.loop-expression.invariant
    (sym (ap settled c.in_ok-value.ensures) ∙ sym (settled-value c.in_ok-value.field-0) ∙ ap value_in c.in-Err.is)

pub evaluate_all-loop-expression-preserved : goal.evaluate_all-loop-expression-preserved
evaluate_all-loop-expression-preserved t c =
    let start = start_of c.args.types.now (known c.args.scope.now) in
    let more = map expr_of (drop (c.loop-expression.expression-index + 1) c.args.expressions.now) in
    ap (λ vs. prepended vs (all_values start more)) (ap (map plain) c.in_ok-push-in-Ok.ensures.items ∙ map-append plain c.loop-expression.found.items (c.in-Ok.value ∷ []))
    ∙ values-go-on start expr_of c.args.expressions.now c.args.expressions.now _ c.expression-item.result (map plain c.loop-expression.found.items) (plain c.in-Ok.value) refl c.loop-expression-test.true c.expression-item.is c.loop-expression.invariant
    (sym (ap settled c.in_ok-value.ensures) ∙ sym (settled-value c.in_ok-value.field-0) ∙ ap value_in c.in-Ok.is)
