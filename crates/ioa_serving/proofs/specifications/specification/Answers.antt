use Rattle.std.proofs.Common.{inl, inr, refl}
use Rattle.std.proofs.lemmas.Result.{err_from_is_err_and}
use Rattle.ioa_lex.specs.declared.refusal.Refusal.TheVariants as refusals
use Rattle.ioa_tree.specs.View.{tree_of}
use Rattle.ioa_compose.specs.Held.{composed_of}
use Rattle.ioa_compile.specs.Subjects.{Runs, of_hosts}
use Rattle.ioa_serving.specs.declared.failure.Failure.{Failure}
use Rattle.ioa_serving.proofs.Composed.{refused_named}
use Rattle.ioa_serving.proofs.Refused.{err_so, same_refusal}
use Rattle.ioa_serving.proofs.Specified.{specifies}
use Rattle.ioa_serving.proofs.specifications.specification.Goals as goal

pub returns-in_err-composed-clause-refused : goal.returns-in_err-composed-clause-refused
returns-in_err-composed-clause-refused c =
    let e = err_from_is_err_and c.from_residual.result c.from_residual.ensures.1 in
    let x = c.in_err-composed.field-0.0 in
    let said = c.in_err-composed.ensures in
    err_so c.from_residual.result e.0 _ _ e.1 e.2 (
    inl (
      x,
      refl,
      refused_named (tree_of c.args.checked.now) c.args.composition.now c.args.composition.now x refl (λ none. same_refusal x refusals.NoComposition (said.missing.0 none))
          said.refused,
    )
    )

pub returns-in_err-program-clause-refused : goal.returns-in_err-program-clause-refused
returns-in_err-program-clause-refused c =
    let e = err_from_is_err_and c.from_residual-in_err-program.result c.from_residual-in_err-program.ensures.1 in
    err_so c.from_residual-in_err-program.result e.0 Failure.OutOfMemory _ e.1 e.2 (inr (inr refl))

pub returns-then-hides_actions-clause-refused : goal.returns-then-hides_actions-clause-refused
returns-then-hides_actions-clause-refused c =
    let k = c.in_ok-composed.ensures.composed in
    let runs : Runs c.in_ok-program.program k.2 = (composed_of c.in_ok-composed.composed, k.4, c.in_ok-program.ensures) in
    inr (inl (refl, (k.0, k.2, k.1, k.3, c.hides_actions.ensures.closed c.if-hides_actions.true (of_hosts k.2) runs)))

pub returns-clause-specifies : goal.returns-clause-specifies
returns-clause-specifies c =
    let k = c.in_ok-composed.ensures.composed in
    let runs : Runs c.in_ok-program.program k.2 = (composed_of c.in_ok-composed.composed, k.4, c.in_ok-program.ensures) in
    specifies (tree_of c.args.checked.now) c.args.composition.now c.in_ok-program.program k.0 k.2 k.1 k.3
    (c.hides_actions.ensures.open c.if-hides_actions.false (of_hosts k.2) runs) runs
