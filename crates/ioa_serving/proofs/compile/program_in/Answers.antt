use Rattle.std.proofs.Common.{◌∙◌, inr, sym}
use Rattle.std.specs.Option.{option_copied}
use Rattle.std.proofs.lemmas.Result.{err_from_is_err_and}
use Rattle.ioa_serving.proofs.Named.{is_named, is_other}
use Rattle.ioa_serving.proofs.Refused.{err_so}
use Rattle.ioa_serving.proofs.compile.program_in.Goals as goal

pub returns-in_err-program-clause-refused : goal.returns-in_err-program-clause-refused
returns-in_err-program-clause-refused c =
    let e = err_from_is_err_and c.from_residual.result c.from_residual.ensures.1 in
    err_so c.from_residual.result e.0 _ _ e.1 e.2 (λ begins. (begins, c.in_err-program.ensures.refused))

pub returns-then-is_other-clause-refused : goal.returns-then-is_other-clause-refused
returns-then-is_other-clause-refused c = λ begins.
    inr (is_other c.args.bytes.now (option_copied c.args.composition) c.in_ok-program.program c.name.result.now c.in_ok-program.ensures.found c.name.ensures
    (sym c.is_other.ensures ∙ c.if-is_other.true))

pub returns-clause-gives : goal.returns-clause-gives
returns-clause-gives c = record {
  object = c.in_ok-program.ensures.found;
  named = is_named (option_copied c.args.composition) c.in_ok-program.program c.name.result.now c.name.ensures (sym c.is_other.ensures ∙ c.if-is_other.false);
}
