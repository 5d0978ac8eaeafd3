use Rattle.std.proofs.Common.{refl, subst, sym}
use Rattle.std.specs.Option.{option_copied}
use Rattle.std.proofs.lemmas.Result.{err_from_is_err_and}
use Rattle.ioa_tree.specs.View.{tree_of}
use Rattle.ioa_compile.specs.Programs.{Prog}
use Rattle.ioa_compile.specs.Subjects.{Runs, of_hosts}
use Rattle.ioa_serving.proofs.Refused.{declared, err_so}
use Rattle.ioa_serving.proofs.Sowing.{no_source_given, refused_given}
use Rattle.ioa_serving.proofs.sourced.sourced_in.Goals as goal

pub returns-in_err-checked-clause-refused : goal.returns-in_err-checked-clause-refused
returns-in_err-checked-clause-refused c =
    let e = err_from_is_err_and c.from_residual.result c.from_residual.ensures.1 in
    err_so c.from_residual.result e.0 _ _ e.1 e.2
    (no_source_given c.args.text.now (option_copied c.args.composition) c.in_err-checked.field-0.0 c.requires c.in_err-checked.ensures.refused)

pub returns-in_err-compiled-clause-refused : goal.returns-in_err-compiled-clause-refused
returns-in_err-compiled-clause-refused c =
    let e = err_from_is_err_and c.from_residual-in_err-compiled.result c.from_residual-in_err-compiled.ensures.1 in
    err_so c.from_residual-in_err-compiled.result e.0 _ _ e.1 e.2
    (refused_given c.args.text.now (option_copied c.args.composition) (tree_of c.in_ok-checked.checked) c.in_err-compiled.field-0.0 c.requires
    c.in_ok-checked.ensures.spelled c.in_ok-checked.ensures.well_formed c.in_err-compiled.ensures.refused)

pub returns-clause-gives : goal.returns-clause-gives
returns-clause-gives c =
    let k = c.in_ok-compiled.ensures.runs in
    let tree = tree_of c.in_ok-checked.checked in (
      of_hosts k.1,
      (c.requires, declared c.args.text.now (option_copied c.args.composition) tree tree k.0 k.1 c.in_ok-checked.ensures.spelled refl c.in_ok-checked.ensures.well_formed k.2 k.3),
      subst (λ (p : Prog). Runs p k.1) (sym c.with_source.ensures.program) k.4,
      c.with_source.ensures.source k.0 k.1 k.3 k.5,
    )
