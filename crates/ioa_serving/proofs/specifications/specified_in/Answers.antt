use Rattle.std.proofs.Common.{inl, inr, refl, sym, ◌∙◌}
use Rattle.std.proofs.lemmas.Result.{err_from_is_err_and}
use Rattle.ioa_request.specs.Pasted.{texts}
use Rattle.ioa_tree.specs.View.{tree_of}
use Rattle.ioa_serving.proofs.Refused.{err_so}
use Rattle.ioa_serving.proofs.Specified.{unwatched}
use Rattle.ioa_serving.proofs.specifications.specified_in.Goals as goal

pub returns-then-is_object-clause-refused : goal.returns-then-is_object-clause-refused
returns-then-is_object-clause-refused c = inl (sym c.is_object.ensures ∙ c.if-is_object.true, refl)

pub returns-in_err-checked-clause-refused : goal.returns-in_err-checked-clause-refused
returns-in_err-checked-clause-refused c =
    let e = err_from_is_err_and c.from_residual.result c.from_residual.ensures.1 in
    err_so c.from_residual.result e.0 _ _ e.1 e.2
    (inr (sym c.is_object.ensures ∙ c.if-is_object.false, inl (c.in_err-checked.field-0.0, refl, c.in_err-checked.ensures.refused)))

pub returns-in_err-programs-clause-refused : goal.returns-in_err-programs-clause-refused
returns-in_err-programs-clause-refused c =
    let e = err_from_is_err_and c.from_residual-in_err-programs.result c.from_residual-in_err-programs.ensures.1 in
    err_so c.from_residual-in_err-programs.result e.0 _ _ e.1 e.2
    (unwatched c.args.text.now (texts c.args.compositions.now) (tree_of c.in_ok-checked.checked) c.in_err-programs.field-0.0 (sym c.is_object.ensures ∙ c.if-is_object.false)
    c.in_ok-checked.ensures.spelled c.in_ok-checked.ensures.well_formed c.in_err-programs.ensures.refused)

pub returns-clause-specified : goal.returns-clause-specified
returns-clause-specified c = record {
  is_source = sym c.is_object.ensures ∙ c.if-is_object.false;
  spells = c.in_ok-checked.ensures.spelled;
  well_formed = c.in_ok-checked.ensures.well_formed;
  each = c.in_ok-programs.ensures.specify;
}
