use denote.Param.Weighed.{at_most}
use Rattle.ioa_tree.proofs.tree.Arm.TheLaws.{the_size as the_size_of_arm}
use Rattle.std.proofs.Common.{◌≡◌, ℕ, ◌<◌, ◌+◌, List, ◌∷◌, drop, length, Some, refl, sym, ap, ◌∙◌, subst, rules, arith}
use Rattle.std.proofs.lemmas.List.{length-map, drop_all}
use Rattle.std.proofs.lemmas.Result.{on_ok_weaker}
use Rattle.ioa_value.specs.Plain.{plain}
use Rattle.ioa_value.proofs.ItemLemmas.{drop_item}
use Rattle.ioa_code.specs.Parts.{listing}
use Rattle.ioa_tree.specs.View.{name_of, expr_of, stmt_of, stmts_of, arms_of}
use Rattle.ioa_tree.specs.WellFormed.{nodes, stmt_nodes, stmts_nodes, arms_nodes}
use Rattle.ioa_tree.specs.declared.tree.Statement.{Statement}
use Rattle.ioa_tree.specs.declared.tree.Statement.TheViews.{the_lemmas}
use Rattle.ioa_tree.specs.declared.tree.Arm.{Arm}
use Rattle.ioa_emit.specs.Extents.{extent, stmt_extent, stmts_extent, arms_extent}
use Rattle.ioa_emit.specs.Scopes.{within, IsKnown, IsKnownStmt, AreKnown, AreKnownArms}
use Rattle.ioa_emit.specs.Emitting.{AddsStmt, AddsStmts}
use Rattle.ioa_emit.proofs.Lengths.{expr_long, stmt_long, stmts_long}
use Rattle.ioa_emit.proofs.Emitted.{AddsArms, adds_first, adds_none, adds_arm, adds_others, adds_choose, adds_each}
use Rattle.ioa_emit.proofs.Views.{stmt_chosen, stmt_over}
use Rattle.ioa_emit.proofs.emitter.+statements.Goals as goal

pub emit_choice-overflow_cast-next : goal.emit_choice-overflow_cast-next
emit_choice-overflow_cast-next t c =
    let s = c.args.scope.now in
    let types = c.args.scope.now.types in
    let i = c.loop-arm.arm-index in
    let a = c.arm-item.result in
    let more = arms_of (drop (i + 1) c.args.arms.now) in
    let others = stmts_of c.args.others.now in
    let cond = expr_of a.condition in
    let ss = stmts_of a.statements.items in
    let out = c.loop-arm.out in
    let end : ℕ = c.len.result + c.arms_extent.result + c.statements_extent.result in
    let small : end < 65536 = omega (arith, c.len.ensures, c.arms_extent.ensures, c.statements_extent.ensures, c.args.out.now.instrs.ok.0, c.requires.short) in
    let next : drop i c.args.arms.now ≡ a ∷ drop (i + 1) c.args.arms.now = drop_item c.args.arms.now i a (omega arith) c.arm-item.is in
    let ends : end ≡ length out.instrs.items + (extent cond + 2 + stmts_extent ss + arms_extent more + stmts_extent others) =
    subst (λ (l : List Arm). end ≡ length out.instrs.items + (arms_extent (arms_of l) + stmts_extent others)) next c.loop-arm.invariant.ends in
    let x = c.in_ok-emit_expression.ensures in
    let c0 = listing types out in
    let c1 = listing types c.emit_expression.new.out in
    let long : length c.emit_expression.new.out.instrs.items ≡ length out.instrs.items + extent cond = expr_long c1 s cond (length c0.instrs) (length c1.instrs) x.has in
    let size : stmts_extent (stmts_of c.deref.result.now) ≡ stmts_extent ss = ap (λ (l : List Statement). stmts_extent (stmts_of l)) c.deref.ensures.value in
    let lt : c.len-in-loop-arm.result + c.statements_extent-in-loop-arm.result + 2 < 65536 = omega (arith, c.len-in-loop-arm.ensures, c.emit_expression.new.out.instrs.ok.0, c.statements_extent-in-loop-arm.ensures, size, long, ends, small) in
    search rules

pub emit_choice-emit_statements-requires : goal.emit_choice-emit_statements-requires
emit_choice-emit_statements-requires t c = (
  let smaller = at_most the_size_of_arm c.args.arms.now c.loop-arm.arm-index c.arm-item.result (omega arith) in
      let here = c.arm-item.is in
      let its = c.deref-in-loop-arm.ensures.value in
      search (rules, the_lemmas),
  let s = c.args.scope.now in
      let types = c.args.scope.now.types in
      let i = c.loop-arm.arm-index in
      let a = c.arm-item.result in
      let more = arms_of (drop (i + 1) c.args.arms.now) in
      let others = stmts_of c.args.others.now in
      let cond = expr_of a.condition in
      let ss = stmts_of a.statements.items in
      let out = c.loop-arm.out in
      let end : ℕ = c.len.result + c.arms_extent.result + c.statements_extent.result in
      let small : end < 65536 = omega (arith, c.len.ensures, c.arms_extent.ensures, c.statements_extent.ensures, c.args.out.now.instrs.ok.0, c.requires.short) in
      let next : drop i c.args.arms.now ≡ a ∷ drop (i + 1) c.args.arms.now = drop_item c.args.arms.now i a (omega arith) c.arm-item.is in
      let ends : end ≡ length out.instrs.items + (extent cond + 2 + stmts_extent ss + arms_extent more + stmts_extent others) =
      subst (λ (l : List Arm). end ≡ length out.instrs.items + (arms_extent (arms_of l) + stmts_extent others)) next c.loop-arm.invariant.ends in
      let x = c.in_ok-emit_expression.ensures in
      let c0 = listing types out in
      let c1 = listing types c.emit_expression.new.out in
      let long : length c.emit_expression.new.out.instrs.items ≡ length out.instrs.items + extent cond = expr_long c1 s cond (length c0.instrs) (length c1.instrs) x.has in
      let known : IsKnown s cond × (AreKnown s ss × AreKnownArms s more) = subst (λ (l : List Arm). AreKnownArms s (arms_of l)) next c.loop-arm.invariant.known in
      let room : length out.consts.items + (nodes cond + (stmts_nodes ss + arms_nodes more) + stmts_nodes others) < 65536 =
      subst (λ (l : List Arm). length out.consts.items + (arms_nodes (arms_of l) + stmts_nodes others) < 65536) next c.loop-arm.invariant.room in
      let y = c.in_ok-put.ensures types in
      let one : length c.put.new.out.instrs.items ≡ length c.emit_expression.new.out.instrs.items + 1 = y.has.1 in
      let those = c.deref-in-loop-arm.result.now in
      let size : stmts_extent (stmts_of those) ≡ stmts_extent ss = ap (λ (l : List Statement). stmts_extent (stmts_of l)) c.deref-in-loop-arm.ensures.value in
      let count : stmts_nodes (stmts_of those) ≡ stmts_nodes ss = ap (λ (l : List Statement). stmts_nodes (stmts_of l)) c.deref-in-loop-arm.ensures.value in
      (subst (λ (l : List Statement). AreKnown s (stmts_of l)) (sym c.deref-in-loop-arm.ensures.value) known.1.0, (omega (arith, room, x.few, y.few, count, length-map out.consts.items plain, length-map c.emit_expression.new.out.consts.items plain, length-map c.put.new.out.consts.items plain), omega (arith, size, long, one, ends, small))),
)

pub emit_choice-loop-arm-preserved : goal.emit_choice-loop-arm-preserved
emit_choice-loop-arm-preserved t c =
    let s = c.args.scope.now in
    let types = c.args.scope.now.types in
    let i = c.loop-arm.arm-index in
    let a = c.arm-item.result in
    let more = arms_of (drop (i + 1) c.args.arms.now) in
    let others = stmts_of c.args.others.now in
    let cond = expr_of a.condition in
    let ss = stmts_of a.statements.items in
    let out = c.loop-arm.out in
    let end : ℕ = c.len.result + c.arms_extent.result + c.statements_extent.result in
    let small : end < 65536 = omega (arith, c.len.ensures, c.arms_extent.ensures, c.statements_extent.ensures, c.args.out.now.instrs.ok.0, c.requires.short) in
    let next : drop i c.args.arms.now ≡ a ∷ drop (i + 1) c.args.arms.now = drop_item c.args.arms.now i a (omega arith) c.arm-item.is in
    let ends : end ≡ length out.instrs.items + (extent cond + 2 + stmts_extent ss + arms_extent more + stmts_extent others) =
    subst (λ (l : List Arm). end ≡ length out.instrs.items + (arms_extent (arms_of l) + stmts_extent others)) next c.loop-arm.invariant.ends in
    let x = c.in_ok-emit_expression.ensures in
    let c0 = listing types out in
    let c1 = listing types c.emit_expression.new.out in
    let long : length c.emit_expression.new.out.instrs.items ≡ length out.instrs.items + extent cond = expr_long c1 s cond (length c0.instrs) (length c1.instrs) x.has in
    let known : IsKnown s cond × (AreKnown s ss × AreKnownArms s more) = subst (λ (l : List Arm). AreKnownArms s (arms_of l)) next c.loop-arm.invariant.known in
    let room : length out.consts.items + (nodes cond + (stmts_nodes ss + arms_nodes more) + stmts_nodes others) < 65536 =
    subst (λ (l : List Arm). length out.consts.items + (arms_nodes (arms_of l) + stmts_nodes others) < 65536) next c.loop-arm.invariant.room in
    let y = c.in_ok-put.ensures types in
    let one : length c.put.new.out.instrs.items ≡ length c.emit_expression.new.out.instrs.items + 1 = y.has.1 in
    let c2 = listing types c.put.new.out in
    let c3 = listing types c.emit_statements.new.out in
    let c4 = listing types c.put-in-loop-arm.new.out in
    let z = subst (λ (l : List Statement). AddsStmts c2 c3 s (stmts_of l)) c.deref-in-loop-arm.ensures.value c.in_ok-emit_statements.ensures in
    let w = c.in_ok-put-2.ensures types in
    let stmts_size : length c.emit_statements.new.out.instrs.items ≡ length c.put.new.out.instrs.items + stmts_extent ss = stmts_long c3 s ss (length c2.instrs) (length c3.instrs) z.has in
    let last : length c.put-in-loop-arm.new.out.instrs.items ≡ length c.emit_statements.new.out.instrs.items + 1 = w.has.1 in
    let size : stmts_extent (stmts_of c.deref.result.now) ≡ stmts_extent ss = ap (λ (l : List Statement). stmts_extent (stmts_of l)) c.deref.ensures.value in
    let to : ℕ = c.len-in-loop-arm.result + c.statements_extent-in-loop-arm.result + 2 in
    let to-is : to ≡ length c.emit_expression.new.out.instrs.items + stmts_extent ss + 2 = omega (arith, c.len-in-loop-arm.ensures, c.emit_expression.new.out.instrs.ok.0, c.statements_extent-in-loop-arm.ensures, size) in
    let left : end ≡ length c.put-in-loop-arm.new.out.instrs.items + (arms_extent more + stmts_extent others) = omega (arith, ends, long, one, stmts_size, last) in
    record {
      known = known.1.1;
      room = omega (arith, room, x.few, y.few, z.few, w.few, length-map out.consts.items plain, length-map c.emit_expression.new.out.consts.items plain, length-map c.put.new.out.consts.items plain, length-map c.emit_statements.new.out.consts.items plain, length-map c.put-in-loop-arm.new.out.consts.items plain);
      ends = left;
      rest = λ new h. c.loop-arm.invariant.rest new (subst (λ (l : List Arm). AddsArms c0 new s (arms_of l) others) (sym next) (adds_arm c0 c1 c2 c3 c4 new s cond ss more others to end x y z w h to-is left));
    }

pub emit_choice-emit_statements-requires-2 : goal.emit_choice-emit_statements-requires-2
emit_choice-emit_statements-requires-2 t c =
    let others = stmts_of c.args.others.now in
    let out = c.loop-arm.out in
    let end : ℕ = c.len.result + c.arms_extent.result + c.statements_extent.result in
    let small : end < 65536 = omega (arith, c.len.ensures, c.arms_extent.ensures, c.statements_extent.ensures, c.args.out.now.instrs.ok.0, c.requires.short) in
    let none = drop_all c.loop-arm.arm-index c.args.arms.now (omega arith) in
    let ends : end ≡ length out.instrs.items + (0 + stmts_extent others) =
    subst (λ (l : List Arm). end ≡ length out.instrs.items + (arms_extent (arms_of l) + stmts_extent others)) none c.loop-arm.invariant.ends in
    let room : length out.consts.items + (0 + stmts_nodes others) < 65536 =
    subst (λ (l : List Arm). length out.consts.items + (arms_nodes (arms_of l) + stmts_nodes others) < 65536) none c.loop-arm.invariant.room in
    (search (rules, the_lemmas), (c.requires.known.1, (omega (arith, room), omega (arith, ends, small))))

pub emit_choice-returns : goal.emit_choice-returns
emit_choice-returns t c =
    let s = c.args.scope.now in
    let types = c.args.scope.now.types in
    let others = stmts_of c.args.others.now in
    let out = listing types c.loop-arm.out in
    let new = listing types c.emit_statements-2.new.out in
    let none = drop_all c.loop-arm.arm-index c.args.arms.now (omega arith) in
    on_ok_weaker c.emit_statements-2.result
    (λ w. adds_choose (listing types c.args.out.now) new s (arms_of c.args.arms.now) others (c.loop-arm.invariant.rest new (subst (λ (l : List Arm). AddsArms out new s (arms_of l) others) (sym none) (adds_others out new s others w))))
    c.emit_statements-2.ensures

pub emit_loop-emit_expression-requires-clause-known : goal.emit_loop-emit_expression-requires-clause-known
emit_loop-emit_expression-requires-clause-known t c = c.requires.known.0

pub emit_loop-emit_expression-requires-clause-room : goal.emit_loop-emit_expression-requires-clause-room
emit_loop-emit_expression-requires-clause-room t c =
    let room : length c.args.out.now.consts.items + (nodes (expr_of c.args.items.now) + stmts_nodes (stmts_of c.args.body.now) + 1) < 65536 = c.requires.room in
    omega (arith, room)

pub emit_loop-emit_expression-requires-clause-short : goal.emit_loop-emit_expression-requires-clause-short
emit_loop-emit_expression-requires-clause-short t c =
    let short : length c.args.out.now.instrs.items + (extent (expr_of c.args.items.now) + 2 + stmts_extent (stmts_of c.args.body.now)) < 65536 = c.requires.short in
    omega (arith, short)

pub emit_loop-statements_extent-requires : goal.emit_loop-statements_extent-requires
emit_loop-statements_extent-requires t c =
    let short : length c.args.out.now.instrs.items + (extent (expr_of c.args.items.now) + 2 + stmts_extent (stmts_of c.args.body.now)) < 65536 = c.requires.short in
    omega (arith, short)

pub emit_loop-overflow_cast-past : goal.emit_loop-overflow_cast-past
emit_loop-overflow_cast-past t c =
    let e = expr_of c.args.items.now in
    let ss = stmts_of c.args.body.now in
    let types = c.args.scope.now.types in
    let short : length c.args.out.now.instrs.items + (extent e + 2 + stmts_extent ss) < 65536 = c.requires.short in
    let c0 = listing types c.args.out.now in
    let c1 = listing types c.emit_expression.new.out in
    let long : length c.emit_expression.new.out.instrs.items ≡ length c.args.out.now.instrs.items + extent e = expr_long c1 c.args.scope.now e (length c0.instrs) (length c1.instrs) c.in_ok-emit_expression.ensures.has in
    let lt : c.len-start.result + c.statements_extent.result + 2 < 65536 = omega (arith, c.len-start.ensures, c.emit_expression.new.out.instrs.ok.0, c.statements_extent.ensures, long, short) in
    search rules

pub emit_loop-within-requires-clause-few : goal.emit_loop-within-requires-clause-few
emit_loop-within-requires-clause-few t c = c.requires.known.1

pub emit_loop-within-requires-clause-sequence : goal.emit_loop-within-requires-clause-sequence
emit_loop-within-requires-clause-sequence t c = rw c.requires.known.2.1 refl

pub emit_loop-emit_statements-requires : goal.emit_loop-emit_statements-requires
emit_loop-emit_statements-requires t c =
    let s = c.args.scope.now in
    let x = name_of c.args.name.now in
    let e = expr_of c.args.items.now in
    let ss = stmts_of c.args.body.now in
    let types = c.args.scope.now.types in
    let room : length c.args.out.now.consts.items + (nodes e + stmts_nodes ss + 1) < 65536 = c.requires.room in
    let short : length c.args.out.now.instrs.items + (extent e + 2 + stmts_extent ss) < 65536 = c.requires.short in
    let c0 = listing types c.args.out.now in
    let c1 = listing types c.emit_expression.new.out in
    let v = c.in_ok-emit_expression.ensures in
    let w = c.in_ok-put.ensures types in
    let long : length c.emit_expression.new.out.instrs.items ≡ length c.args.out.now.instrs.items + extent e = expr_long c1 s e (length c0.instrs) (length c1.instrs) v.has in
    let one : length c.put.new.out.instrs.items ≡ length c.emit_expression.new.out.instrs.items + 1 = w.has.1 in
    let inner = c.within.ensures in
    let known = c.requires.known in
    let both : Some known.2.0 ≡ Some inner.0 = sym known.2.1 ∙ inner.1 in
    let same : known.2.0 ≡ inner.0 = cc in
    let body = subst (λ ty. AreKnown (within s x ty) ss) same known.2.2 in
    (search (rules, the_lemmas), (subst (λ z. AreKnown z ss) (sym inner.2) body, (omega (arith, room, v.few, w.few, length-map c.args.out.now.consts.items plain, length-map c.emit_expression.new.out.consts.items plain, length-map c.put.new.out.consts.items plain), omega (arith, short, long, one))))

pub emit_loop-overflow_cast-start : goal.emit_loop-overflow_cast-start
emit_loop-overflow_cast-start t c =
    let e = expr_of c.args.items.now in
    let ss = stmts_of c.args.body.now in
    let types = c.args.scope.now.types in
    let short : length c.args.out.now.instrs.items + (extent e + 2 + stmts_extent ss) < 65536 = c.requires.short in
    let c0 = listing types c.args.out.now in
    let c1 = listing types c.emit_expression.new.out in
    let long : length c.emit_expression.new.out.instrs.items ≡ length c.args.out.now.instrs.items + extent e = expr_long c1 c.args.scope.now e (length c0.instrs) (length c1.instrs) c.in_ok-emit_expression.ensures.has in
    let lt : c.len-start.result < 65536 = omega (arith, c.len-start.ensures, c.emit_expression.new.out.instrs.ok.0, long, short) in
    search rules

pub emit_loop-returns : goal.emit_loop-returns
emit_loop-returns t c =
    let s = c.args.scope.now in
    let x = name_of c.args.name.now in
    let e = expr_of c.args.items.now in
    let ss = stmts_of c.args.body.now in
    let types = c.args.scope.now.types in
    let c0 = listing types c.args.out.now in
    let c1 = listing types c.emit_expression.new.out in
    let c2 = listing types c.put.new.out in
    let c3 = listing types c.emit_statements.new.out in
    let c4 = listing types c.put-2.new.out in
    let inner = c.within.ensures in
    let start : ℕ = c.len-start.result in
    let start-is : start ≡ length c1.instrs = omega (arith, c.len-start.ensures, c.emit_expression.new.out.instrs.ok.0) in
    let past : ℕ = c.len-start.result + c.statements_extent.result + 2 in
    let past-is : past ≡ start + stmts_extent ss + 2 = omega (arith, c.statements_extent.ensures) in
    let body = subst (λ z. AddsStmts (listing z.types c.put.new.out) (listing z.types c.emit_statements.new.out) z ss) inner.2 c.in_ok-emit_statements.ensures in
    on_ok_weaker c.put-2.result
    (λ z. adds_each c0 c1 c2 c3 c4 s x e ss inner.0 past start inner.1 c.in_ok-emit_expression.ensures (c.in_ok-put.ensures types) body (z types) start-is past-is)
    c.put-2.ensures

pub emit_statement-emit_loop-requires : goal.emit_statement-emit_loop-requires
emit_statement-emit_loop-requires t c =
    let s = c.args.scope.now in
    let shown = stmt_over c.args.statement.now c.in-For.name c.in-For.items c.in-For.body c.in-For.field-3 c.deref-in-For.result.now c.in-For.is c.deref-in-For.ensures.value in
    (search (rules, the_lemmas), (subst (IsKnownStmt s) shown c.requires.known, (subst (λ t. length c.args.out.now.consts.items + stmt_nodes t < 65536) shown c.requires.room, subst (λ t. length c.args.out.now.instrs.items + stmt_extent t < 65536) shown c.requires.short)))

pub emit_statement-returns-in-For : goal.emit_statement-returns-in-For
emit_statement-returns-in-For t c =
    let s = c.args.scope.now in
    let types = c.args.scope.now.types in
    let shown = stmt_over c.args.statement.now c.in-For.name c.in-For.items c.in-For.body c.in-For.field-3 c.deref-in-For.result.now c.in-For.is c.deref-in-For.ensures.value in
    on_ok_weaker c.emit_loop.result
    (λ w. subst (λ t. AddsStmt (listing types c.args.out.now) (listing types c.emit_loop.new.out) s t) (sym shown) w)
    c.emit_loop.ensures

pub emit_statement-emit_choice-requires : goal.emit_statement-emit_choice-requires
emit_statement-emit_choice-requires t c =
    let s = c.args.scope.now in
    let shown = stmt_chosen c.args.statement.now c.in-If.arms c.in-If.others c.in-If.field-2 c.deref.result.now c.deref-in-If.result.now c.in-If.is c.deref.ensures.value c.deref-in-If.ensures.value in
    (search (rules, the_lemmas), (subst (IsKnownStmt s) shown c.requires.known, (subst (λ t. length c.args.out.now.consts.items + stmt_nodes t < 65536) shown c.requires.room, subst (λ t. length c.args.out.now.instrs.items + stmt_extent t < 65536) shown c.requires.short)))

pub emit_statement-returns-in-If : goal.emit_statement-returns-in-If
emit_statement-returns-in-If t c =
    let s = c.args.scope.now in
    let types = c.args.scope.now.types in
    let shown = stmt_chosen c.args.statement.now c.in-If.arms c.in-If.others c.in-If.field-2 c.deref.result.now c.deref-in-If.result.now c.in-If.is c.deref.ensures.value c.deref-in-If.ensures.value in
    on_ok_weaker c.emit_choice.result
    (λ w. subst (λ t. AddsStmt (listing types c.args.out.now) (listing types c.emit_choice.new.out) s t) (sym shown) w)
    c.emit_choice.ensures

pub emit_statements-loop-statement-preserved : goal.emit_statements-loop-statement-preserved
emit_statements-loop-statement-preserved t c =
    let s = c.args.scope.now in
    let types = c.args.scope.now.types in
    let xs = c.args.statements.now in
    let i = c.loop-statement.statement-index in
    let x = c.statement-item.result in
    let rest = stmts_of (drop (i + 1) xs) in
    let out = c.loop-statement.out in
    let c0 = listing types out in
    let c1 = listing types c.emit_statement.new.out in
    let next : drop i xs ≡ x ∷ drop (i + 1) xs = drop_item xs i x (omega arith) c.statement-item.is in
    let inv = c.loop-statement.invariant in
    let known : IsKnownStmt s (stmt_of x) × AreKnown s rest = subst (λ (l : List Statement). AreKnown s (stmts_of l)) next inv.known in
    let room : length out.consts.items + (stmt_nodes (stmt_of x) + stmts_nodes rest) < 65536 = subst (λ (l : List Statement). length out.consts.items + stmts_nodes (stmts_of l) < 65536) next inv.room in
    let short : length out.instrs.items + (stmt_extent (stmt_of x) + stmts_extent rest) < 65536 = subst (λ (l : List Statement). length out.instrs.items + stmts_extent (stmts_of l) < 65536) next inv.short in
    let y = c.in_ok-emit_statement.ensures in
    let long : length c.emit_statement.new.out.instrs.items ≡ length out.instrs.items + stmt_extent (stmt_of x) = stmt_long c1 s (stmt_of x) (length c0.instrs) (length c1.instrs) y.has in
    record {
      known = known.1;
      room = omega (arith, room, y.few, length-map out.consts.items plain, length-map c.emit_statement.new.out.consts.items plain);
      short = omega (arith, short, long);
      rest = λ new h. inv.rest new (subst (λ (l : List Statement). AddsStmts c0 new s (stmts_of l)) (sym next) (adds_first c0 c1 new s (stmt_of x) rest y h));
    }

pub emit_statements-returns : goal.emit_statements-returns
emit_statements-returns t c =
    let s = c.args.scope.now in
    let types = c.args.scope.now.types in
    let out = listing types c.loop-statement.out in
    let none = drop_all c.loop-statement.statement-index c.args.statements.now (omega arith) in
    c.loop-statement.invariant.rest out (subst (λ (l : List Statement). AddsStmts out out s (stmts_of l)) (sym none) (adds_none out s))
