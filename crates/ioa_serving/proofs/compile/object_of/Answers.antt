use Rattle.std.proofs.Common.{◌∙◌, sym}
use Rattle.std.proofs.lemmas.Result.{err_from_is_err_and}
use Rattle.ioa_serving.proofs.Refused.{err_so}
use Rattle.ioa_serving.proofs.compile.object_of.Goals as goal

pub returns-then-is_object-clause-refused : goal.returns-then-is_object-clause-refused
returns-then-is_object-clause-refused c = sym c.is_object.ensures ∙ c.if-is_object.true

pub returns-in_err-program-clause-refused : goal.returns-in_err-program-clause-refused
returns-in_err-program-clause-refused c =
    let e = err_from_is_err_and c.from_residual.result c.from_residual.ensures.1 in
    err_so c.from_residual.result e.0 _ _ e.1 e.2 (sym c.is_object.ensures ∙ c.if-is_object.false, c.in_err-program.ensures.refused)

pub returns-clause-compiles : goal.returns-clause-compiles
returns-clause-compiles c =
    let of = c.in_ok-program.ensures.compiles in
    (of.0, (sym c.is_object.ensures ∙ c.if-is_object.false, of.1), (c.in_ok-program.program, of.2, c.in_ok-write_object.ensures))
