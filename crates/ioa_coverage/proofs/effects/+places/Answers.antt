use Rattle.std.proofs.Common.{◌≡◌, ◌+◌, ◌<◌, ap, arith, refl, rules}
use Rattle.ioa_tree.specs.Tree.{Stmts}
use Rattle.ioa_tree.specs.View.{arms_of, stmt_of, stmts_of}
use Rattle.ioa_tree.specs.declared.tree.Statement.TheViews.{the_lemmas}
use Rattle.ioa_coverage.specs.Taken.{if_any, places, places_in, places_of}
use Rattle.ioa_coverage.proofs.Shown.{chosen_at, looped_at, none_there, some_there}
use Rattle.ioa_coverage.proofs.effects.+places.Goals as goal

pub places-places_of-own-requires : goal.places-places_of-own-requires
places-places_of-own-requires t c =
    let others = stmts_of c.in-If.others.items in
    let size : places (stmt_of c.args.statement.now) ≡ places_of (arms_of c.deref.result.now) + if_any others (1 + places_in others) 0 =
    ap places (chosen_at c.args.statement.now c.in-If.arms c.in-If.others c.in-If.field-2 c.deref.result.now c.in-If.others.items c.in-If.is c.deref.ensures.value refl) in
    (search (rules, the_lemmas), omega (arith, size, c.requires))

pub places-places_in-requires : goal.places-places_in-requires
places-places_in-requires t c =
    let those = c.deref-else-is_empty.result.now in
    let size : places (stmt_of c.args.statement.now) ≡ places_of (arms_of c.deref.result.now) + if_any (stmts_of those) (1 + places_in (stmts_of those)) 0 =
    ap places (chosen_at c.args.statement.now c.in-If.arms c.in-If.others c.in-If.field-2 c.deref.result.now those c.in-If.is c.deref.ensures.value c.deref-else-is_empty.ensures.value) in
    let some = some_there those c.is_empty.result c.in-If.others.len (1 + places_in (stmts_of those)) 0 (omega (arith, c.deref-else-is_empty.ensures.len)) c.if-is_empty.false c.is_empty.ensures in
    (search (rules, the_lemmas), omega (arith, size, some, c.requires))

pub places-overflow_add-result : goal.places-overflow_add-result
places-overflow_add-result t c =
    let those = c.deref-else-is_empty.result.now in
    let size : places (stmt_of c.args.statement.now) ≡ places_of (arms_of c.deref.result.now) + if_any (stmts_of those) (1 + places_in (stmts_of those)) 0 =
    ap places (chosen_at c.args.statement.now c.in-If.arms c.in-If.others c.in-If.field-2 c.deref.result.now those c.in-If.is c.deref.ensures.value c.deref-else-is_empty.ensures.value) in
    let some = some_there those c.is_empty.result c.in-If.others.len (1 + places_in (stmts_of those)) 0 (omega (arith, c.deref-else-is_empty.ensures.len)) c.if-is_empty.false c.is_empty.ensures in
    let lt : 1 + c.places_in.result < 18446744073709551616 = omega (arith, size, some, c.places_in.ensures, c.requires) in
    search rules

pub places-overflow_add-result-else-is_empty : goal.places-overflow_add-result-else-is_empty
places-overflow_add-result-else-is_empty t c =
    let those = c.deref-else-is_empty.result.now in
    let size : places (stmt_of c.args.statement.now) ≡ places_of (arms_of c.deref.result.now) + if_any (stmts_of those) (1 + places_in (stmts_of those)) 0 =
    ap places (chosen_at c.args.statement.now c.in-If.arms c.in-If.others c.in-If.field-2 c.deref.result.now those c.in-If.is c.deref.ensures.value c.deref-else-is_empty.ensures.value) in
    let some = some_there those c.is_empty.result c.in-If.others.len (1 + places_in (stmts_of those)) 0 (omega (arith, c.deref-else-is_empty.ensures.len)) c.if-is_empty.false c.is_empty.ensures in
    let lt : c.places_of-own.result + (1 + c.places_in.result) < 18446744073709551616 = omega (arith, size, some, c.places_of-own.ensures, c.places_in.ensures, c.requires) in
    search rules

pub places-returns-else-is_empty : goal.places-returns-else-is_empty
places-returns-else-is_empty t c =
    let those = c.deref-else-is_empty.result.now in
    let size : places (stmt_of c.args.statement.now) ≡ places_of (arms_of c.deref.result.now) + if_any (stmts_of those) (1 + places_in (stmts_of those)) 0 =
    ap places (chosen_at c.args.statement.now c.in-If.arms c.in-If.others c.in-If.field-2 c.deref.result.now those c.in-If.is c.deref.ensures.value c.deref-else-is_empty.ensures.value) in
    let some = some_there those c.is_empty.result c.in-If.others.len (1 + places_in (stmts_of those)) 0 (omega (arith, c.deref-else-is_empty.ensures.len)) c.if-is_empty.false c.is_empty.ensures in
    omega (arith, size, some, c.places_of-own.ensures, c.places_in.ensures)

pub places-returns-then-is_empty : goal.places-returns-then-is_empty
places-returns-then-is_empty t c =
    let those = c.in-If.others.items in
    let size : places (stmt_of c.args.statement.now) ≡ places_of (arms_of c.deref.result.now) + if_any (stmts_of those) (1 + places_in (stmts_of those)) 0 =
    ap places (chosen_at c.args.statement.now c.in-If.arms c.in-If.others c.in-If.field-2 c.deref.result.now those c.in-If.is c.deref.ensures.value refl) in
    let none = ap (λ (ss : Stmts). if_any ss (1 + places_in ss) 0) (none_there those c.is_empty.result c.in-If.others.len (omega (arith, c.in-If.others.ok.0)) c.if-is_empty.true c.is_empty.ensures) in
    omega (arith, size, none, c.places_of-own.ensures)

pub places-places_in-requires-in-For : goal.places-places_in-requires-in-For
places-places_in-requires-in-For t c =
    let size = ap places (looped_at c.args.statement.now c.in-For.field-0 c.in-For.field-1 c.in-For.body c.in-For.field-3 c.deref-in-For.result.now c.in-For.is c.deref-in-For.ensures.value) in
    (search (rules, the_lemmas), omega (arith, size, c.requires))

pub places-overflow_add-result-in-For : goal.places-overflow_add-result-in-For
places-overflow_add-result-in-For t c =
    let size = ap places (looped_at c.args.statement.now c.in-For.field-0 c.in-For.field-1 c.in-For.body c.in-For.field-3 c.deref-in-For.result.now c.in-For.is c.deref-in-For.ensures.value) in
    let lt : 1 + c.places_in-in-For.result < 18446744073709551616 = omega (arith, size, c.places_in-in-For.ensures, c.requires) in
    search rules

pub places-returns-in-For : goal.places-returns-in-For
places-returns-in-For t c =
    let size = ap places (looped_at c.args.statement.now c.in-For.field-0 c.in-For.field-1 c.in-For.body c.in-For.field-3 c.deref-in-For.result.now c.in-For.is c.deref-in-For.ensures.value) in
    omega (arith, size, c.places_in-in-For.ensures)
