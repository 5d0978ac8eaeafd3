use Rattle.std.proofs.Common.{inl, inr, refl, subst, sym}
use Rattle.std.specs.Option.{option_copied}
use Rattle.std.proofs.lemmas.Result.{err_from_is_err_and}
use Rattle.ioa_tree.specs.View.{tree_of}
use Rattle.ioa_compile.specs.Programs.{Prog}
use Rattle.ioa_compile.specs.Subjects.{Runs}
use Rattle.ioa_request.specs.Pasted.{texts}
use Rattle.ioa_serving.proofs.Refused.{declared, err_so}
use Rattle.ioa_serving.proofs.Sowing.{no_source_given, refused_given, specified}
use Rattle.ioa_serving.proofs.Specified.{unwatched}
use Rattle.ioa_serving.proofs.sown.programs_in.Goals as goal

pub returns-in_err-checked-clause-refused : goal.returns-in_err-checked-clause-refused
returns-in_err-checked-clause-refused c =
    let e = err_from_is_err_and c.from_residual.result c.from_residual.ensures.1 in
    err_so c.from_residual.result e.0 _ _ e.1 e.2
    (inl (no_source_given c.args.text.now (option_copied c.args.composition) c.in_err-checked.field-0.0 c.requires c.in_err-checked.ensures.refused))

pub returns-in_err-compiled-clause-refused : goal.returns-in_err-compiled-clause-refused
returns-in_err-compiled-clause-refused c =
    let e = err_from_is_err_and c.from_residual-in_err-compiled.result c.from_residual-in_err-compiled.ensures.1 in
    err_so c.from_residual-in_err-compiled.result e.0 _ _ e.1 e.2
    (inl (refused_given c.args.text.now (option_copied c.args.composition) (tree_of c.in_ok-checked.checked) c.in_err-compiled.field-0.0 c.requires
    c.in_ok-checked.ensures.spelled c.in_ok-checked.ensures.well_formed c.in_err-compiled.ensures.refused))

pub returns-in_err-specifications-clause-refused : goal.returns-in_err-specifications-clause-refused
returns-in_err-specifications-clause-refused c =
    let e = err_from_is_err_and c.from_residual-in_err-specifications.result c.from_residual-in_err-specifications.ensures.1 in
    let k = c.in_err-specifications.ensures.refused in
    err_so c.from_residual-in_err-specifications.result e.0 _ _ e.1 e.2
    (inr (
      k.0,
      unwatched c.args.text.now (texts c.args.monitors.now) (tree_of c.in_ok-checked.checked) c.in_err-specifications.field-0.0 c.requires c.in_ok-checked.ensures.spelled c.in_ok-checked.ensures.well_formed
          k.1,
    ))

pub returns-clause-gives : goal.returns-clause-gives
returns-clause-gives c =
    let k = c.in_ok-compiled.ensures.runs in
    let tree = tree_of c.in_ok-checked.checked in (
      k.1,
      (c.requires, declared c.args.text.now (option_copied c.args.composition) tree tree k.0 k.1 c.in_ok-checked.ensures.spelled refl c.in_ok-checked.ensures.well_formed k.2 k.3),
      subst (λ (p : Prog). Runs p k.1) (sym c.with_source.ensures.program) k.4,
      c.with_source.ensures.source k.0 k.1 k.3 k.5,
    )

pub returns-clause-specified : goal.returns-clause-specified
returns-clause-specified c =
    specified c.args.text.now (tree_of c.in_ok-checked.checked) (texts c.args.monitors.now) c.in_ok-specifications.specifications.items c.requires
    c.in_ok-checked.ensures.spelled c.in_ok-checked.ensures.well_formed c.in_ok-specifications.ensures.specify
