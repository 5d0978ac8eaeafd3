use Rattle.std.proofs.Common.{◌≡◌, ℕ, ◌∙◌, ◌+◌, ◌<◌, ◌^◌, List, ◌∷◌, drop, length, Some, IsSome, IsTrue, pos, w64, refl, sym, ap, subst, rules, arith}
use Rattle.std.proofs.lemmas.Bool.Decides.{nat_tests}
use Rattle.std.proofs.lemmas.Int.{to_z_pos}
use Rattle.std.proofs.lemmas.List.{length-map, drop_all}
use Rattle.std.proofs.lemmas.Result.{on_ok_weaker}
use Rattle.ioa_arithmetic.specs.Arithmetic.{fits}
use Rattle.ioa_value.specs.Plain.{num, plain}
use Rattle.ioa_value.specs.Table.{type_named}
use Rattle.ioa_value.proofs.ItemLemmas.{drop_item}
use Rattle.ioa_code.specs.Parts.{listing}
use Rattle.ioa_tree.specs.View.{expr_of, exprs_of, name_of}
use Rattle.ioa_tree.specs.Types.{empty_of}
use Rattle.ioa_tree.specs.Tree.{make, binary}
use Rattle.ioa_tree.specs.WellFormed.{nodes, exprs_nodes}
use Rattle.ioa_tree.specs.declared.tree.Expression.{Expression}
use Rattle.ioa_tree.specs.declared.tree.Expression.TheViews.{the_lemmas}
use Rattle.ioa_emit.specs.Extents.{extent, exprs_extent, infix_extent}
use Rattle.ioa_emit.specs.Scopes.{place_of, IsKnown, AreAllKnown}
use Rattle.ioa_emit.specs.Emitting.{AddsConst, AddsExpr, AddsExprs, AddsCombined}
use Rattle.ioa_emit.proofs.Emitted.{adds_binary, adds_prefix, adds_operator, adds_true_side, adds_false_side, adds_empty, adds_make, adds_select, adds_no_expr, adds_also}
use Rattle.ioa_emit.proofs.Fixed.{empty_own}
use Rattle.ioa_emit.proofs.Lengths.{expr_long}
use Rattle.ioa_emit.proofs.Views.{made_of_slice}
use Rattle.ioa_emit.proofs.emitter.+expression.Goals as goal

pub emit_expression-returns-in-Number : goal.emit_expression-returns-in-Number
emit_expression-returns-in-Number t c =
    let s = c.args.scope.now in
    let types = c.args.scope.now.types in
    let c0 = listing types c.args.out.now in
    let c1 = listing types c.put_constant.new.out in
    let n = c.in-Number.n in
    let fine : IsTrue (fits (pos n)) = subst (IsKnown s) (ap expr_of c.in-Number.is) c.requires.known in
    let small : n < 2 ^ 63 = grind (arith, nat_tests) in
    let same = to_z_pos w64 n small in
    on_ok_weaker c.put_constant.result
    (λ more. subst (λ e. AddsExpr c0 c1 s (expr_of e)) (sym c.in-Number.is) (subst (λ z. AddsConst c0 c1 (num z)) same (more types (subst (λ z. IsTrue (fits z)) (sym same) fine))))
    c.put_constant.ensures

pub emit_expression-returns-in-Truth : goal.emit_expression-returns-in-Truth
emit_expression-returns-in-Truth t c =
    let s = c.args.scope.now in
    let types = c.args.scope.now.types in
    let c0 = listing types c.args.out.now in
    let c1 = listing types c.put_constant-in-Truth.new.out in
    on_ok_weaker c.put_constant-in-Truth.result
    (λ more. subst (λ e. AddsExpr c0 c1 s (expr_of e)) (sym c.in-Truth.is) (more types refl))
    c.put_constant-in-Truth.ensures

pub emit_expression-empty-requires : goal.emit_expression-empty-requires
emit_expression-empty-requires t c =
    let s = c.args.scope.now in
    let known : IsSome (empty_of s.types (name_of c.in-Empty.name)) = subst (IsKnown s) (ap expr_of c.in-Empty.is) c.requires.known in
    subst (λ l. IsSome (empty_of l (name_of c.in-Empty.name))) (sym c.types.ensures) known

pub emit_expression-returns-in-Empty : goal.emit_expression-returns-in-Empty
emit_expression-returns-in-Empty t c =
    let s = c.args.scope.now in
    let types = c.args.scope.now.types in
    let c0 = listing types c.args.out.now in
    let c1 = listing types c.put_constant-in-Empty.new.out in
    let x = name_of c.in-Empty.name in
    let v = plain c.empty.result in
    let is : empty_of types x ≡ Some v = ap (λ l. empty_of l x) (sym c.types.ensures) ∙ c.empty.ensures in
    on_ok_weaker c.put_constant-in-Empty.result
    (λ more. subst (λ e. AddsExpr c0 c1 s (expr_of e)) (sym c.in-Empty.is) (adds_empty c0 c1 s x v is (more types (empty_own types x v is))))
    c.put_constant-in-Empty.ensures

pub emit_expression-returns-in_ok-emit_expression-in-Prefix : goal.emit_expression-returns-in_ok-emit_expression-in-Prefix
emit_expression-returns-in_ok-emit_expression-in-Prefix t c =
    let s = c.args.scope.now in
    let types = c.args.scope.now.types in
    let c0 = listing types c.args.out.now in
    let c1 = listing types c.emit_expression-in-Prefix.new.out in
    let c2 = listing types c.put.new.out in
    let x = subst (λ e. AddsExpr c0 c1 s (expr_of e)) c.deref-in-Prefix.ensures c.in_ok-emit_expression-in-Prefix.ensures in
    on_ok_weaker c.put.result
    (λ z. subst (λ e. AddsExpr c0 c2 s (expr_of e)) (sym c.in-Prefix.is) (adds_prefix c0 c1 c2 s (expr_of c.in-Prefix.inner.value) c.in-Prefix.op x (z types)))
    c.put.ensures

pub emit_expression-emit_combined-requires : goal.emit_expression-emit_combined-requires
emit_expression-emit_combined-requires t c =
    let s = c.args.scope.now in
    let types = c.args.scope.now.types in
    let l = expr_of c.in-Binary.left.value in
    let r = expr_of c.deref-in-Binary-2.result.now in
    let c0 = listing types c.args.out.now in
    let c1 = listing types c.emit_expression-in-Binary.new.out in
    let is : expr_of c.args.e.now ≡ binary l c.in-Binary.operator r = ap expr_of c.in-Binary.is ∙ ap (λ x. binary l c.in-Binary.operator (expr_of x)) (sym c.deref-in-Binary-2.ensures) in
    let known : IsKnown s l × IsKnown s r = subst (IsKnown s) is c.requires.known in
    let room : length c.args.out.now.consts.items + (nodes l + nodes r + 1) < 2 ^ 16 = subst (λ x. length c.args.out.now.consts.items + nodes x < 65536) is c.requires.room in
    let short : length c.args.out.now.instrs.items + (extent l + extent r + infix_extent c.in-Binary.operator) < 2 ^ 16 = subst (λ x. length c.args.out.now.instrs.items + extent x < 65536) is c.requires.short in
    let x = subst (λ e. AddsExpr c0 c1 s (expr_of e)) c.deref-in-Binary.ensures c.in_ok-emit_expression-in-Binary.ensures in
    let long : length c1.instrs ≡ length c0.instrs + extent l = expr_long c1 s l (length c0.instrs) (length c1.instrs) x.has in
    (search (rules, the_lemmas), (known.1, (omega (arith, room, x.few, length-map c.args.out.now.consts.items plain, length-map c.emit_expression-in-Binary.new.out.consts.items plain), omega (arith, short, long))))

pub emit_expression-returns-in_ok-emit_expression-in-Binary : goal.emit_expression-returns-in_ok-emit_expression-in-Binary
emit_expression-returns-in_ok-emit_expression-in-Binary t c =
    let s = c.args.scope.now in
    let types = c.args.scope.now.types in
    let c0 = listing types c.args.out.now in
    let c1 = listing types c.emit_expression-in-Binary.new.out in
    let c2 = listing types c.emit_combined.new.out in
    let x = subst (λ e. AddsExpr c0 c1 s (expr_of e)) c.deref-in-Binary.ensures c.in_ok-emit_expression-in-Binary.ensures in
    on_ok_weaker c.emit_combined.result
    (λ y. subst (λ e. AddsExpr c0 c2 s (expr_of e)) (sym c.in-Binary.is)
    (adds_binary c0 c1 c2 s (expr_of c.in-Binary.left.value) (expr_of c.in-Binary.right.value) c.in-Binary.operator x (subst (λ e. AddsCombined c1 c2 s c.in-Binary.operator (expr_of e)) c.deref-in-Binary-2.ensures y)))
    c.emit_combined.ensures

pub emit_expression-emit_expressions-requires : goal.emit_expression-emit_expressions-requires
emit_expression-emit_expressions-requires t c =
    let s = c.args.scope.now in
    let x = name_of c.in-Make.name in
    let fields = exprs_of c.deref-in-Make.result.now in
    let is : expr_of c.args.e.now ≡ make x fields = made_of_slice c.args.e.now c.in-Make.name c.in-Make.fields c.deref-in-Make.result.now c.in-Make.is c.deref-in-Make.ensures.value in
    let known : IsSome (type_named s.types x) × AreAllKnown s fields = subst (IsKnown s) is c.requires.known in
    let room : length c.args.out.now.consts.items + (exprs_nodes fields + 1) < 2 ^ 16 = subst (λ e. length c.args.out.now.consts.items + nodes e < 65536) is c.requires.room in
    let short : length c.args.out.now.instrs.items + (exprs_extent fields + 1) < 2 ^ 16 = subst (λ e. length c.args.out.now.instrs.items + extent e < 65536) is c.requires.short in
    (search (rules, the_lemmas), (known.1, (omega (arith, room), omega (arith, short))))

pub emit_expression-returns-in_ok-emit_expressions-in-Make : goal.emit_expression-returns-in_ok-emit_expressions-in-Make
emit_expression-returns-in_ok-emit_expressions-in-Make t c =
    let s = c.args.scope.now in
    let types = c.args.scope.now.types in
    let c0 = listing types c.args.out.now in
    let c1 = listing types c.emit_expressions.new.out in
    let c2 = listing types c.put-in-Make.new.out in
    let x = name_of c.in-Make.name in
    let fields = exprs_of c.deref-in-Make.result.now in
    let is : expr_of c.args.e.now ≡ make x fields = made_of_slice c.args.e.now c.in-Make.name c.in-Make.fields c.deref-in-Make.result.now c.in-Make.is c.deref-in-Make.ensures.value in
    let named : type_named types x ≡ Some c.named_type.result.0 = ap (λ l. type_named l x) (sym c.types-in-Make.ensures) ∙ c.named_type.ensures in
    on_ok_weaker c.put-in-Make.result
    (λ z. subst (AddsExpr c0 c2 s) (sym is) (adds_make c0 c1 c2 s x fields c.named_type.result.0 named c.in_ok-emit_expressions-in-Make.ensures (z types)))
    c.put-in-Make.ensures

pub emit_expression-returns-in_ok-emit_expression-in-Select : goal.emit_expression-returns-in_ok-emit_expression-in-Select
emit_expression-returns-in_ok-emit_expression-in-Select t c =
    let s = c.args.scope.now in
    let types = c.args.scope.now.types in
    let c0 = listing types c.args.out.now in
    let c1 = listing types c.emit_expression-in-Select.new.out in
    let c2 = listing types c.put-in-Select.new.out in
    let x = name_of c.in-Select.name in
    let j = c.field-place.result in
    let operand = subst (λ e. AddsExpr c0 c1 s (expr_of e)) c.deref-in-Select.ensures c.in_ok-emit_expression-in-Select.ensures in
    let place = subst (λ e. place_of s (expr_of e) x ≡ Some j) c.deref-in-Select-2.ensures c.field-place.ensures in
    on_ok_weaker c.put-in-Select.result
    (λ z. subst (λ e. AddsExpr c0 c2 s (expr_of e)) (sym c.in-Select.is) (adds_select c0 c1 c2 s (expr_of c.in-Select.inner.value) x j place operand (z types)))
    c.put-in-Select.ensures

pub emit_expressions-loop-expression-preserved : goal.emit_expressions-loop-expression-preserved
emit_expressions-loop-expression-preserved t c =
    let s = c.args.scope.now in
    let types = c.args.scope.now.types in
    let xs = c.args.expressions.now in
    let i = c.loop-expression.expression-index in
    let x = c.expression-item.result in
    let rest = exprs_of (drop (i + 1) xs) in
    let out = c.loop-expression.out in
    let c0 = listing types out in
    let c1 = listing types c.emit_expression.new.out in
    let next : drop i xs ≡ x ∷ drop (i + 1) xs = drop_item xs i x (omega arith) c.expression-item.is in
    let inv = c.loop-expression.invariant in
    let known : IsKnown s (expr_of x) × AreAllKnown s rest = subst (λ (l : List Expression). AreAllKnown s (exprs_of l)) next inv.known in
    let room : length out.consts.items + (nodes (expr_of x) + exprs_nodes rest) < 65536 = subst (λ (l : List Expression). length out.consts.items + exprs_nodes (exprs_of l) < 65536) next inv.room in
    let short : length out.instrs.items + (extent (expr_of x) + exprs_extent rest) < 65536 = subst (λ (l : List Expression). length out.instrs.items + exprs_extent (exprs_of l) < 65536) next inv.short in
    let y = c.in_ok-emit_expression.ensures in
    let long : length c.emit_expression.new.out.instrs.items ≡ length out.instrs.items + extent (expr_of x) = expr_long c1 s (expr_of x) (length c0.instrs) (length c1.instrs) y.has in
    record {
      known = known.1;
      room = omega (arith, room, y.few, length-map out.consts.items plain, length-map c.emit_expression.new.out.consts.items plain);
      short = omega (arith, short, long);
      rest = λ new h. inv.rest new (subst (λ (l : List Expression). AddsExprs c0 new s (exprs_of l)) (sym next) (adds_also c0 c1 new s (expr_of x) rest y h));
    }

pub emit_expressions-returns : goal.emit_expressions-returns
emit_expressions-returns t c =
    let s = c.args.scope.now in
    let types = c.args.scope.now.types in
    let out = listing types c.loop-expression.out in
    let none = drop_all c.loop-expression.expression-index c.args.expressions.now (omega arith) in
    c.loop-expression.invariant.rest out (subst (λ (l : List Expression). AddsExprs out out s (exprs_of l)) (sym none) (adds_no_expr out s))

pub emit_combined-returns-in_ok-emit_expression-in-Operator : goal.emit_combined-returns-in_ok-emit_expression-in-Operator
emit_combined-returns-in_ok-emit_expression-in-Operator t c =
    let s = c.args.scope.now in
    let types = c.args.scope.now.types in
    let c0 = listing types c.args.out.now in
    let c1 = listing types c.emit_expression.new.out in
    let c2 = listing types c.put.new.out in
    let e = expr_of c.args.right.now in
    on_ok_weaker c.put.result
    (λ z. subst (λ o. AddsCombined c0 c2 s o e) (sym c.in-Operator.is) (adds_operator c0 c1 c2 s e c.in-Operator.op c.in_ok-emit_expression-in-Operator.ensures (z types)))
    c.put.ensures

pub emit_where_true-emit_expression-requires : goal.emit_where_true-emit_expression-requires
emit_where_true-emit_expression-requires t c =
    let types = c.args.scope.now.types in
    let x = c.in_ok-put.ensures types in
    let long : length c.put.new.out.instrs.items ≡ length c.args.out.now.instrs.items + 1 = x.has.1 in
    (search (rules, the_lemmas), (c.requires.known, (omega (arith, c.requires.room, x.few, length-map c.args.out.now.consts.items plain, length-map c.put.new.out.consts.items plain), omega (arith, c.requires.short, long))))

pub emit_where_true-put_constant-requires : goal.emit_where_true-put_constant-requires
emit_where_true-put_constant-requires t c =
    let types = c.args.scope.now.types in
    let x = c.in_ok-put.ensures types in
    let y = c.in_ok-emit_expression.ensures in
    let z = c.in_ok-put-2.ensures types in
    omega (arith, c.requires.room, x.few, y.few, z.few, length-map c.args.out.now.consts.items plain, length-map c.put.new.out.consts.items plain, length-map c.emit_expression.new.out.consts.items plain, length-map c.put-2.new.out.consts.items plain)

pub emit_where_true-returns : goal.emit_where_true-returns
emit_where_true-returns t c =
    let s = c.args.scope.now in
    let types = c.args.scope.now.types in
    let e = expr_of c.args.e.now in
    let t : ℕ = c.len.result + c.expression_extent.result + 2 in
    let t-is : t ≡ length c.args.out.now.instrs.items + extent e + 2 = omega (arith, c.len.ensures, c.expression_extent.ensures, c.args.out.now.instrs.ok.0) in
    on_ok_weaker c.put_constant.result
    (λ w. adds_true_side (listing types c.args.out.now) (listing types c.put.new.out) (listing types c.emit_expression.new.out) (listing types c.put-2.new.out) (listing types c.put_constant.new.out) s e c.args.other t (t + 1) (c.in_ok-put.ensures types) c.in_ok-emit_expression.ensures (c.in_ok-put-2.ensures types) (w types refl) t-is refl)
    c.put_constant.ensures

pub emit_where_false-put_constant-requires : goal.emit_where_false-put_constant-requires
emit_where_false-put_constant-requires t c =
    let types = c.args.scope.now.types in
    let x = c.in_ok-put.ensures types in
    omega (arith, c.requires.room, x.few, length-map c.args.out.now.consts.items plain, length-map c.put.new.out.consts.items plain)

pub emit_where_false-emit_expression-requires : goal.emit_where_false-emit_expression-requires
emit_where_false-emit_expression-requires t c =
    let types = c.args.scope.now.types in
    let x = c.in_ok-put.ensures types in
    let y = c.in_ok-put_constant.ensures types refl in
    let z = c.in_ok-put-2.ensures types in
    let first : length c.put.new.out.instrs.items ≡ length c.args.out.now.instrs.items + 1 = x.has.1 in
    let second : length c.put_constant.new.out.instrs.items ≡ length c.put.new.out.instrs.items + 1 = y.has.1 in
    let third : length c.put-2.new.out.instrs.items ≡ length c.put_constant.new.out.instrs.items + 1 = z.has.1 in
    (search (rules, the_lemmas), (c.requires.known, (omega (arith, c.requires.room, x.few, y.few, z.few, length-map c.args.out.now.consts.items plain, length-map c.put.new.out.consts.items plain, length-map c.put_constant.new.out.consts.items plain, length-map c.put-2.new.out.consts.items plain), omega (arith, c.requires.short, first, second, third))))

pub emit_where_false-returns : goal.emit_where_false-returns
emit_where_false-returns t c =
    let s = c.args.scope.now in
    let types = c.args.scope.now.types in
    let e = expr_of c.args.e.now in
    let t : ℕ = c.len-next.result + 3 in
    let t-is : t ≡ length c.args.out.now.instrs.items + 3 = omega (arith, c.len-next.ensures, c.args.out.now.instrs.ok.0) in
    let u : ℕ = t + c.expression_extent.result in
    let u-is : u ≡ t + extent e = omega (arith, c.expression_extent.ensures) in
    on_ok_weaker c.emit_expression.result
    (λ w. adds_false_side (listing types c.args.out.now) (listing types c.put.new.out) (listing types c.put_constant.new.out) (listing types c.put-2.new.out) (listing types c.emit_expression.new.out) s e t u (c.in_ok-put.ensures types) (c.in_ok-put_constant.ensures types refl) (c.in_ok-put-2.ensures types) w t-is u-is)
    c.emit_expression.ensures
