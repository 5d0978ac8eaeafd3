use Rattle.std.proofs.lemmas.Result.{err_from_is_err_and}
use Rattle.ioa_serving.proofs.Refused.{err_so}
use Rattle.ioac.proofs.requests.compile.Goals as goal

pub returns-in_err-compile_file-clause-refused : goal.returns-in_err-compile_file-clause-refused
returns-in_err-compile_file-clause-refused g c =
    let e = err_from_is_err_and c.from_residual.result c.from_residual.ensures.1 in
    err_so c.from_residual.result e.0 c.in_err-compile_file.field-0.0 _ e.1 e.2 c.in_err-compile_file.ensures.refused
