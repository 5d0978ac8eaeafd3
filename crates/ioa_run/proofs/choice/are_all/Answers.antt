use Rattle.std.proofs.Common.{◌∙◌, All, subst, sym, arith}
use Rattle.std.proofs.lemmas.List.{take_all}
use Rattle.std.proofs.lemmas.List.Elements.{All-more}
use Rattle.ioa_run.proofs.Filling.{IsFreeAt, filled_free}
use Rattle.ioa_run.proofs.choice.are_all.Goals as goal

pub loop-position-preserved : goal.loop-position-preserved
loop-position-preserved c =
    All-more IsFreeAt c.args.positions.now c.loop-position.position-index _ c.loop-position-test.true c.loop-position.invariant
    (subst IsFreeAt (c.position-item.is) (subst IsFreeAt (sym c.in-Typed.is) tt))

pub returns : goal.returns
returns c = λ vs l.
    let all : All IsFreeAt c.args.positions.now =
    subst (All IsFreeAt) (take_all c.loop-position.position-index c.args.positions.now (omega (arith, c.loop-position-test.false))) c.loop-position.invariant in
    filled_free c.args.positions.now vs all (l ∙ sym c.if-positions-count.false)
