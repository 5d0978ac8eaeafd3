use Rattle.std.proofs.Common.{◌≡◌, ◌+◌, ap, rules, arith}
use Rattle.ioa_tree.specs.View.{expr_of, exprs_of}
use Rattle.ioa_tree.specs.declared.tree.Expression.TheViews.{the_lemmas}
use Rattle.ioa_emit.specs.Extents.{extent, exprs_extent}
use Rattle.ioa_emit.proofs.Views.{made_of_slice}
use Rattle.ioa_emit.proofs.extents.+expression.Goals as goal

pub expression_extent-expressions_extent-requires : goal.expression_extent-expressions_extent-requires
expression_extent-expressions_extent-requires t c =
    let size : extent (expr_of c.args.e.now) ≡ exprs_extent (exprs_of c.deref-in-Make.result.now) + 1 =
    ap extent (made_of_slice c.args.e.now c.in-Make.field-0 c.in-Make.fields c.deref-in-Make.result.now c.in-Make.is c.deref-in-Make.ensures.value) in
    (search (rules, the_lemmas), omega (arith, size, c.requires))

pub expression_extent-overflow_add-result-in-Make : goal.expression_extent-overflow_add-result-in-Make
expression_extent-overflow_add-result-in-Make t c =
    let size : extent (expr_of c.args.e.now) ≡ exprs_extent (exprs_of c.deref-in-Make.result.now) + 1 =
    ap extent (made_of_slice c.args.e.now c.in-Make.field-0 c.in-Make.fields c.deref-in-Make.result.now c.in-Make.is c.deref-in-Make.ensures.value) in
    let small = c.requires in
    let fields = c.expressions_extent.ensures in
    search rules

pub expression_extent-returns-in-Make : goal.expression_extent-returns-in-Make
expression_extent-returns-in-Make t c =
    let size : extent (expr_of c.args.e.now) ≡ exprs_extent (exprs_of c.deref-in-Make.result.now) + 1 =
    ap extent (made_of_slice c.args.e.now c.in-Make.field-0 c.in-Make.fields c.deref-in-Make.result.now c.in-Make.is c.deref-in-Make.ensures.value) in
    omega (arith, size, c.expressions_extent.ensures)
