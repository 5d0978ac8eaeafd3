use Rattle.ioa_inspect.proofs.broken_invariants.invariants.Goals as goal

pub returns-in-Ok-clause-ok : goal.returns-in-Ok-clause-ok
returns-in-Ok-clause-ok c = λ s stands. let k = c.in-Ok.ensures.ok s stands in (k.agreed, k.first)
