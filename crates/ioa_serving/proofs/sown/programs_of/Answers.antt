use Rattle.std.proofs.Common.{inl, inr, refl, sym, ◌∙◌}
use Rattle.std.proofs.lemmas.Bool.{false≢true}
use Rattle.std.proofs.lemmas.Result.{IfErr-weaker, IfOk-weaker, err_from_is_err_and}
use Rattle.ioa_compile.specs.Subjects.{of_hosts, of_table}
use Rattle.ioa_serving.proofs.Refused.{err_so}
use Rattle.ioa_serving.proofs.Sowing.{nothing_asked, since_asked, stands}
use Rattle.ioa_serving.proofs.sown.programs_of.Goals as goal

pub programs_in-requires : goal.programs_in-requires
programs_in-requires c = sym c.is_object.ensures ∙ c.if-not-is_object.true

pub returns-then-not-is_object-clause-gives : goal.returns-then-not-is_object-clause-gives
returns-then-not-is_object-clause-gives c =
    IfOk-weaker c.programs_in.result _ _ (λ p k. (of_hosts k.0, k.1, k.2, k.3, stands c.args.invariants k.0 p.sourced.source k.3)) c.programs_in.ensures.gives

pub returns-then-not-is_object-clause-refused : goal.returns-then-not-is_object-clause-refused
returns-then-not-is_object-clause-refused c = IfErr-weaker c.programs_in.result _ _ (λ e k. since_asked k) c.programs_in.ensures.refused

pub returns-then-not-asks_nothing-clause-refused : goal.returns-then-not-asks_nothing-clause-refused
returns-then-not-asks_nothing-clause-refused c =
    inr (λ h. false≢true (sym c.if-not-asks_nothing.true ∙ c.asks_nothing.ensures.1 h), inl (sym c.is_object.ensures ∙ c.if-not-is_object.false, refl))

pub returns-in_err-program-clause-refused : goal.returns-in_err-program-clause-refused
returns-in_err-program-clause-refused c =
    let e = err_from_is_err_and c.from_residual.result c.from_residual.ensures.1 in
    err_so c.from_residual.result e.0 _ _ e.1 e.2 (inl (c.in_err-program.ensures.refused (sym c.is_object.ensures ∙ c.if-not-is_object.false)))

pub returns-clause-gives : goal.returns-clause-gives
returns-clause-gives c =
    let p = c.in_ok-program.program in
    (of_table p, c.in_ok-program.ensures.gives, refl, tt, nothing_asked (of_table p) c.args.invariants (c.asks_nothing.ensures.0 c.if-not-asks_nothing.false).1)
