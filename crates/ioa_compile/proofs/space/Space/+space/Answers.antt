use Rattle.std.proofs.Common.{◌≡◌, ◌+◌, inl, inr, ⊎_elim, Option, Some, None, IfSome, IfNone, ap, arith}
use Rattle.ioa_tree.specs.View.{expr_of, exprs_of}
use Rattle.ioa_tree.specs.WellFormed.{exprs_nodes, nodes as nodes_of}
use Rattle.ioa_compile.specs.declared.space.Space.{Space}
use Rattle.ioa_emit.specs.Extents.{extent, exprs_extent}
use Rattle.ioa_emit.proofs.Views.{made_of_slice}
use Rattle.ioa_compile.proofs.space.Space.+space.Goals as goal

weaker : (P Q : Space → Type 0) (o : Option Space) → ((s : Space) → P s → Q s) → IfSome o P → IfSome o Q
weaker P Q None f h = tt
weaker P Q (Some s) f h = f s h

weaker_none : (A B : Type 0) (o : Option Space) → (A → B) → IfNone o A → IfNone o B
weaker_none A B None f h = f h
weaker_none A B (Some s) f h = tt

pub after-returns-in_ok-less-in-Make-clause-some : goal.after-returns-in_ok-less-in-Make-clause-some
after-returns-in_ok-less-in-Make-clause-some t c =
    let whole = made_of_slice c.args.e.now c.in-Make.field-0 c.in-Make.fields c.deref-in-Make.result.now c.in-Make.is c.deref-in-Make.ensures.value in
    let n : nodes_of (expr_of c.args.e.now) ≡ exprs_nodes (exprs_of c.deref-in-Make.result.now) + 1 = ap nodes_of whole in
    let x : extent (expr_of c.args.e.now) ≡ exprs_extent (exprs_of c.deref-in-Make.result.now) + 1 = ap extent whole in
    let first = c.in_ok-less-in-Make.ensures.some in
    weaker _ _ c.after_all.result (λ left k. (omega (arith, n, first.0, k.0), omega (arith, x, first.1, k.1))) c.after_all.ensures.some

pub after-returns-in_ok-less-in-Make-clause-none : goal.after-returns-in_ok-less-in-Make-clause-none
after-returns-in_ok-less-in-Make-clause-none t c =
    let whole = made_of_slice c.args.e.now c.in-Make.field-0 c.in-Make.fields c.deref-in-Make.result.now c.in-Make.is c.deref-in-Make.ensures.value in
    let n : nodes_of (expr_of c.args.e.now) ≡ exprs_nodes (exprs_of c.deref-in-Make.result.now) + 1 = ap nodes_of whole in
    let x : extent (expr_of c.args.e.now) ≡ exprs_extent (exprs_of c.deref-in-Make.result.now) + 1 = ap extent whole in
    let first = c.in_ok-less-in-Make.ensures.some in
    weaker_none _ _ c.after_all.result (⊎_elim (λ k. inl (omega (arith, n, first.0, k))) (λ k. inr (omega (arith, x, first.1, k)))) c.after_all.ensures.none
