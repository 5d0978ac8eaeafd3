use Rattle.std.proofs.Common.{◌∙◌, refl, sym}
use Rattle.std.proofs.lemmas.Result.{err_from_is_err_and}
use Rattle.ioa_compile.specs.Subjects.{of_table}
use Rattle.ioa_serving.proofs.Refused.{err_so}
use Rattle.ioa_serving.proofs.sourced.sourced_of.Goals as goal

pub returns-in_err-program-clause-refused : goal.returns-in_err-program-clause-refused
returns-in_err-program-clause-refused c =
    let e = err_from_is_err_and c.from_residual.result c.from_residual.ensures.1 in
    err_so c.from_residual.result e.0 _ _ e.1 e.2 (c.in_err-program.ensures.refused (sym c.is_object.ensures ∙ c.if-is_object.true))

pub returns-then-is_object-clause-gives : goal.returns-then-is_object-clause-gives
returns-then-is_object-clause-gives c = (of_table c.in_ok-program.program, c.in_ok-program.ensures.gives, refl, tt)

pub sourced_in-requires : goal.sourced_in-requires
sourced_in-requires c = sym c.is_object.ensures ∙ c.if-is_object.false
