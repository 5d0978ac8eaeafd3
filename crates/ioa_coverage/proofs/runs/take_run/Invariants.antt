use Rattle.std.proofs.Common.{◌≡◌, All, drop, map}
use Rattle.ioa_coverage.specs.Counts.{entered}
use Rattle.ioa_coverage.specs.Effects.{HasPlaces, effect_of, taken_by_run}
use Rattle.ioa_coverage.proofs.Walked.{taken_from, with_taken}
use Rattle.ioa_coverage.proofs.runs.take_run.Given as goal

-- what stands now, with what the rest of the log still takes, is what the whole takes; both systems stand in the same states
abbrev pub invariant-loop-entry : goal.invariant-loop-entry
invariant-loop-entry l = record {
  program : l.before.program ≡ l.program;
  ahead : l.after.program ≡ l.program;
  same : l.after.states ≡ l.before.states;
  effects : map effect_of l.effects ≡ map effect_of l.initial.effects;
  places : All HasPlaces l.effects;
  counts : with_taken (taken_from l.program (entered (drop l.entry-index l.log)) l.before.states) l.effects
      ≡ with_taken (λ e. taken_by_run l.program e (entered l.log)) l.initial.effects;
}
