use Rattle.std.proofs.Common.{◌≡◌, ◌+◌, refl, ap, rules, arith}
use Rattle.ioa_tree.specs.View.{stmt_of, stmts_of, arms_of}
use Rattle.ioa_emit.specs.Extents.{stmt_extent, stmts_extent, arms_extent}
use Rattle.ioa_emit.proofs.Views.{stmt_chosen, arms_within, others_within, loop_size}
use Rattle.ioa_tree.specs.declared.tree.Statement.TheViews.{the_lemmas}
use Rattle.ioa_emit.proofs.extents.+statements.Goals as goal

pub statement_extent-overflow_add-result-in-If : goal.statement_extent-overflow_add-result-in-If
statement_extent-overflow_add-result-in-If t c =
    let size : stmt_extent (stmt_of c.args.statement.now) ≡ arms_extent (arms_of c.deref.result.now) + stmts_extent (stmts_of c.deref-in-If.result.now) =
    ap stmt_extent (stmt_chosen c.args.statement.now c.in-If.arms c.in-If.others c.in-If.field-2 c.deref.result.now c.deref-in-If.result.now c.in-If.is c.deref.ensures.value c.deref-in-If.ensures.value) in
    let small = c.requires in
    let first = c.arms_extent.ensures in
    let second = c.statements_extent.ensures in
    search rules

pub statement_extent-returns-in-If : goal.statement_extent-returns-in-If
statement_extent-returns-in-If t c =
    let size : stmt_extent (stmt_of c.args.statement.now) ≡ arms_extent (arms_of c.deref.result.now) + stmts_extent (stmts_of c.deref-in-If.result.now) =
    ap stmt_extent (stmt_chosen c.args.statement.now c.in-If.arms c.in-If.others c.in-If.field-2 c.deref.result.now c.deref-in-If.result.now c.in-If.is c.deref.ensures.value c.deref-in-If.ensures.value) in
    omega (arith, size, c.arms_extent.ensures, c.statements_extent.ensures)

pub statement_extent-arms_extent-requires : goal.statement_extent-arms_extent-requires
statement_extent-arms_extent-requires t c =
    (search (rules, the_lemmas), arms_within c.args.statement.now c.in-If.arms c.in-If.others c.in-If.field-2 c.deref.result.now c.in-If.is c.deref.ensures.value c.requires)

pub statement_extent-statements_extent-requires : goal.statement_extent-statements_extent-requires
statement_extent-statements_extent-requires t c =
    (search (rules, the_lemmas), others_within c.args.statement.now c.in-If.arms c.in-If.others c.in-If.field-2 c.deref-in-If.result.now c.in-If.is c.deref-in-If.ensures.value c.requires)

pub statement_extent-expression_extent-requires-in-For : goal.statement_extent-expression_extent-requires-in-For
statement_extent-expression_extent-requires-in-For t c =
    let size = loop_size c.args.statement.now c.in-For.field-0 c.in-For.items c.in-For.body c.in-For.field-3 c.in-For.body.items c.in-For.is refl in
    omega (arith, size, c.requires)

pub statement_extent-overflow_add-result-in-For : goal.statement_extent-overflow_add-result-in-For
statement_extent-overflow_add-result-in-For t c =
    let size = loop_size c.args.statement.now c.in-For.field-0 c.in-For.items c.in-For.body c.in-For.field-3 c.in-For.body.items c.in-For.is refl in
    let small = c.requires in
    let first = c.expression_extent-in-For.ensures in
    search rules

pub statement_extent-statements_extent-requires-in-For : goal.statement_extent-statements_extent-requires-in-For
statement_extent-statements_extent-requires-in-For t c =
    let size = loop_size c.args.statement.now c.in-For.field-0 c.in-For.items c.in-For.body c.in-For.field-3 c.deref-in-For.result.now c.in-For.is c.deref-in-For.ensures.value in
    (search (rules, the_lemmas), omega (arith, size, c.requires))

pub statement_extent-overflow_add-result-in-For-2 : goal.statement_extent-overflow_add-result-in-For-2
statement_extent-overflow_add-result-in-For-2 t c =
    let size = loop_size c.args.statement.now c.in-For.field-0 c.in-For.items c.in-For.body c.in-For.field-3 c.deref-in-For.result.now c.in-For.is c.deref-in-For.ensures.value in
    let small = c.requires in
    let first = c.expression_extent-in-For.ensures in
    let second = c.statements_extent-in-For.ensures in
    search rules

pub statement_extent-returns-in-For : goal.statement_extent-returns-in-For
statement_extent-returns-in-For t c =
    let size = loop_size c.args.statement.now c.in-For.field-0 c.in-For.items c.in-For.body c.in-For.field-3 c.deref-in-For.result.now c.in-For.is c.deref-in-For.ensures.value in
    omega (arith, size, c.expression_extent-in-For.ensures, c.statements_extent-in-For.ensures)
