use Rattle.std.proofs.Common.{refl}
use Rattle.std.proofs.lemmas.Result.{err_from_is_err_and}
use Rattle.ioa_lex.specs.declared.refusal.Refusal.TheVariants as refusals
use Rattle.ioa_tree.specs.View.{assembly_of, name_of, tree_of}
use Rattle.ioa_serving.proofs.Composed.{refused_named}
use Rattle.ioa_serving.proofs.Refused.{err_so, same_refusal}
use Rattle.ioa_serving.proofs.check.compose_declared.Goals as goal

pub returns-in_err-_composition-in-Composition-clause-refused : goal.returns-in_err-_composition-in-Composition-clause-refused
returns-in_err-_composition-in-Composition-clause-refused c =
    let e = err_from_is_err_and c.from_residual.result c.from_residual.ensures.1 in
    let composition = c.in-Composition.assembly in
    let x = c.in_err-_composition-in-Composition.field-0.0 in
    let said = c.in_err-_composition-in-Composition.ensures in
    err_so c.from_residual.result e.0 _ _ e.1 e.2 (
      assembly_of composition,
      rw c.in-Composition.is refl,
      refused_named (tree_of c.args.checked.now) c.as_str.result.now (name_of composition.name) x c.as_str.ensures.value
          (λ none. same_refusal x refusals.NoComposition (said.missing.0 none)) said.refused,
    )
