use Rattle.std.proofs.Common.{refl, sym, ◌∙◌, arith}
use Rattle.ioa_compile.proofs.Outlined.{alike_places}
use Rattle.ioa_compile.proofs.same.TypesAlike.is_like.Goals as goal

pub returns : goal.returns
returns c = (
  λ _. alike_places c.args.self.now c.args.other.now (sym c.len.ensures.count ∙ c.if-len.false ∙ c.len-2.ensures.count) (λ k h. c.loop-number.invariant k (omega (arith, c.len-number-end.ensures.count, c.loop-number-test.false))),
  λ _. refl,
)
