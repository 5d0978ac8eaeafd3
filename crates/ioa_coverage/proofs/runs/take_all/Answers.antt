use Rattle.std.proofs.Common.{◌≡◌, ◌<◌, ℕ, List, arith, length, subst, sym}
use Rattle.ioa_value.specs.Actions.{act_of}
use Rattle.ioa_system.specs.Systems.{values_of}
use Rattle.ioa_coverage.specs.declared.effect.Effect.{Effect}
use Rattle.ioa_coverage.specs.Effects.{EntryEffect, MayTake, counts_of, effect_of, taken_at}
use Rattle.ioa_coverage.specs.Following.{with_marks}
use Rattle.ioa_coverage.proofs.Walked.{one_more_taken, still}
use Rattle.ioa_coverage.proofs.runs.take_all.Goals as goal

pub take-requires-clause-may : goal.take-requires-clause-may
take-requires-clause-may c =
    let p = c.args.program.now in
    let within : c.loop-index.index < length c.loop-index.effects = omega arith in (
      p,
      still (MayTake p) c.args.effects.now c.loop-index.effects c.loop-index.invariant.effects c.requires.may c.loop-index.index c.index-effects-index.result within,
      c.requires.types,
    )

pub loop-index-preserved : goal.loop-index-preserved
loop-index-preserved c =
    let T : EntryEffect → List ℕ = λ e. taken_at e (act_of c.args.action.now) (values_of c.args.states.now) in
    let within : c.loop-index.index < length c.loop-index.effects = omega arith in
    let x = c.index-effects-index.result in
    let y = c.take.new.self in
    one_more_taken T c.args.effects.now c.loop-index.index c.loop-index.effects x y within c.index-effects-index.is
    (subst (λ (u : Effect). effect_of y ≡ effect_of u) (sym c.index-effects-index.is) c.in_ok-take.ensures.effect) c.in_ok-take.ensures.places
    (subst (λ (u : Effect). counts_of y ≡ with_marks (counts_of u) (T (effect_of u))) (sym c.index-effects-index.is) c.in_ok-take.ensures.counts) c.loop-index.invariant
