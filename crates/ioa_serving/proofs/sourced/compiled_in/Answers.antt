use Rattle.std.proofs.Common.{inl, inr, refl}
use Rattle.std.specs.Option.{option_copied}
use Rattle.std.proofs.lemmas.Result.{err_from_is_err_and}
use Rattle.ioa_lex.specs.declared.refusal.Refusal.TheVariants as refusals
use Rattle.ioa_tree.specs.View.{tree_of}
use Rattle.ioa_compose.specs.Held.{composed_of}
use Rattle.ioa_serving.proofs.Composed.{refused_as}
use Rattle.ioa_serving.proofs.Refused.{err_so, same_refusal}
use Rattle.ioa_serving.proofs.sourced.compiled_in.Goals as goal

pub returns-in_err-composition-clause-refused : goal.returns-in_err-composition-clause-refused
returns-in_err-composition-clause-refused c =
    let e = err_from_is_err_and c.from_residual.result c.from_residual.ensures.1 in
    let x = c.in_err-composition.field-0.0 in
    let said = c.in_err-composition.ensures in
    err_so c.from_residual.result e.0 _ _ e.1 e.2
    (inr (refused_as (tree_of c.args.checked.now) (option_copied c.args.composition) x (λ none. same_refusal x refusals.NoComposition (said.missing.0 none)) said.refused))

pub returns-in_err-program-clause-refused : goal.returns-in_err-program-clause-refused
returns-in_err-program-clause-refused c =
    let e = err_from_is_err_and c.from_residual-in_err-program.result c.from_residual-in_err-program.ensures.1 in
    err_so c.from_residual-in_err-program.result e.0 refusals.OutOfMemory _ e.1 e.2 (inl refl)

pub returns-clause-runs : goal.returns-clause-runs
returns-clause-runs c =
    let k = c.in_ok-composition.ensures.composed in (k.0, k.2, k.1, k.3, (composed_of c.in_ok-composition.composition, k.4, c.in_ok-program.ensures), k.4)
