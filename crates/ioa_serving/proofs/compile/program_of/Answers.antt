use Rattle.std.proofs.Common.{◌∙◌, inl, refl, sym}
use Rattle.std.proofs.lemmas.Result.{IfErr-weaker, IfOk-weaker, err_from_is_err_and}
use Rattle.ioa_compile.specs.Subjects.{of_hosts, of_table}
use Rattle.ioa_serving.proofs.Refused.{err_so}
use Rattle.ioa_serving.proofs.compile.program_of.Goals as goal

pub returns-then-is_object-clause-gives : goal.returns-then-is_object-clause-gives
returns-then-is_object-clause-gives c = IfOk-weaker c.program_in.result _ _ (λ p k. (of_table p, k, refl)) c.program_in.ensures.gives

pub returns-then-is_object-clause-refused : goal.returns-then-is_object-clause-refused
returns-then-is_object-clause-refused c = IfErr-weaker c.program_in.result _ _ (λ e k. k (sym c.is_object.ensures ∙ c.if-is_object.true)) c.program_in.ensures.refused

pub returns-in_err-compile_text-clause-refused : goal.returns-in_err-compile_text-clause-refused
returns-in_err-compile_text-clause-refused c =
    let e = err_from_is_err_and c.from_residual.result c.from_residual.ensures.1 in
    err_so c.from_residual.result e.0 _ _ e.1 e.2 (inl (sym c.is_object.ensures ∙ c.if-is_object.false, c.in_err-compile_text.ensures.refused))

pub returns-clause-gives : goal.returns-clause-gives
returns-clause-gives c =
    let of = c.in_ok-compile_text.ensures.compiles in
    (of_hosts of.0, (sym c.is_object.ensures ∙ c.if-is_object.false, of.1), of.2)
