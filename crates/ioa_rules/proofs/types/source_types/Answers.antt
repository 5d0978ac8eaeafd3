use Rattle.std.proofs.Common.{◌+◌, drop, sym, subst, ◌∙◌}
use Rattle.ioa_tree.specs.View.{tree_of}
use Rattle.ioa_rules.proofs.SayLemmas.{memory-passed}
use Rattle.ioa_rules.proofs.TypeLemmas.{Making, at_next, at_type, at_none, at_other, no_type}
use Rattle.ioa_rules.proofs.types.source_types.Goals as goal
use Rattle.ioa_rules.proofs.types.source_types.Goals.{in-Type+in_ok-types-2, in_default}

pub with_declared-requires : goal.with_declared-requires
with_declared-requires c =
    let ds = c.args.declarations.now in
    at_next (tree_of ds) c.loop-declaration.types ds c.loop-declaration.declaration-index c.declaration-item.result c.loop-declaration-test.true
    c.declaration-item.is c.loop-declaration.invariant c.in-Type.declared c.in-Type.is

pub returns-in_err-types-2-clause-says : goal.returns-in_err-types-2-clause-says
returns-in_err-types-2-clause-says c =
    let ds = c.args.declarations.now in
    memory-passed c.with_declared.result c.from_residual-in_err-types-2.result _ _ _ _ _ c.in_err-types-2.was c.from_residual-in_err-types-2.ensures.1
    c.with_declared.ensures.says
    (at_none (tree_of ds) c.loop-declaration.types ds c.loop-declaration.declaration-index c.declaration-item.result c.loop-declaration-test.true
    c.declaration-item.is c.loop-declaration.invariant c.in-Type.declared c.in-Type.is)

pub loop-declaration-preserved : goal.loop-declaration-preserved
loop-declaration-preserved c =
    let ds = c.args.declarations.now in
    let i = c.loop-declaration.declaration-index in
    let types = c.loop-declaration.types in
    let d = c.declaration-item.result in
    let l = c.loop-declaration-test.true in
    let is = c.declaration-item.is in
    let m = c.loop-declaration.invariant in
    elim c.match-declaration.branch [
      | in-Type+in_ok-types-2 w ↦
          at_type (tree_of ds) types ds i d l is m w.in-Type.declared w.in-Type.is c.match-declaration.types w.in_ok-types-2.ensures.says
          (w.types-is ∙ w.in_ok-types-2.ensures.types)
      | in_default w ↦ subst (λ t. Making (tree_of ds) t (tree_of (drop (i + 1) ds))) (sym w.types-is)
          (at_other (tree_of ds) types ds i d l is m (no_type d w.in_default.not-Type))
    ]
