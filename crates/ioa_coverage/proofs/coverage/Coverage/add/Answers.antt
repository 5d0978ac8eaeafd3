use Rattle.std.proofs.Common.{◌≡◌, ◌∙◌, ◌++◌, ◌∷◌, [], All, List, ap, length, map, rules, subst, sym}
use Rattle.std.proofs.lemmas.List.{length-map, with_items_is}
use Rattle.ioa_compile.specs.Programs.{Prog}
use Rattle.ioa_coverage.specs.declared.coverage.Row.{Row}
use Rattle.ioa_coverage.specs.declared.effect.Effect.{Effect}
use Rattle.ioa_coverage.specs.Effects.{MayTake, TakesAll, counts_of, effect_of, effects_in, taken_by_run}
use Rattle.ioa_coverage.specs.Counts.{AreRoomy, count_row, entered, rows_of, with_more}
use Rattle.ioa_coverage.specs.Following.{with_marks}
use Rattle.ioa_coverage.specs.Performed.{all_of}
use Rattle.ioa_coverage.proofs.Adding.{rows_more, rows_roomy}
use Rattle.ioa_coverage.proofs.Covering.{all_follow, runs_more, takes_more}
use Rattle.ioa_coverage.proofs.coverage.Coverage.add.Goals as goal

pub take_run-requires-clause-may : goal.take_run-requires-clause-may
take_run-requires-clause-may c =
    let k = c.requires in
    subst (All (λ (x : Effect). MayTake c.args.self.now.program.now (effect_of x))) (sym c.deref_mut.ensures.value) (all_follow k.0 k.1 k.2 k.3 c.args.self.now k.5 k.6 k.4)

pub counted_more-requires : goal.counted_more-requires
counted_more-requires c =
    let k = c.requires in
    subst (λ (rs : List Row). AreRoomy rs c.args.log.now) (sym c.deref.ensures.value) (rows_roomy k.0 (all_of k.3) c.args.log.now c.args.self.now.rows.items k.4.rows k.7)

pub returns : goal.returns
returns c = λ p source runs covers.
    let acts = entered c.args.log.now in
    let before = c.args.self.now.effects.items in
    let after = c.take_run.new.effects in
    let same : map effect_of after ≡ map effect_of before = c.in_ok-take_run.ensures.effects ∙ ap (map effect_of) c.deref_mut.ensures.value in
    let kept : length before ≡ c.args.self.now.effects.len = search rules in
    let long : length after ≡ c.args.self.now.effects.len = sym (length-map after effect_of) ∙ ap length same ∙ length-map before effect_of ∙ kept in
    record {
      program = covers.program;
      sound = covers.sound;
      fine = covers.fine;
      rows =
          c.in_ok-self.ensures ∙ ap (λ (rs : List Row). map (with_more acts) (map count_row rs)) c.deref.ensures.value ∙ ap (map (with_more acts)) covers.rows
          ∙ rows_more p (all_of runs) acts ∙ ap (rows_of p) (sym (runs_more runs acts));
      effects =
          subst (TakesAll p (effects_in p source) (runs ++ acts ∷ [])) (sym (with_items_is c.args.self.now.effects after long))
          (takes_more p (effects_in p source) runs acts before after covers.effects same c.in_ok-take_run.ensures.places
          (c.in_ok-take_run.ensures.counts
          ∙ ap (map (λ (x : Effect). with_marks (counts_of x) (taken_by_run c.args.self.now.program.now (effect_of x) acts))) c.deref_mut.ensures.value
          ∙ ap (λ (q : Prog). map (λ (x : Effect). with_marks (counts_of x) (taken_by_run q (effect_of x) acts)) before) covers.program));
    }
