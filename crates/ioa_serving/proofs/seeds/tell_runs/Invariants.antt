use Rattle.std.proofs.Common.{◌≡◌, ◌+◌, ◌*◌, ◌≤◌, ◌^◌, List, length}
use Rattle.std.specs.Io.KnownBytes.{Appends}
use Rattle.ioa_coverage.specs.Performed.{all_of}
use Rattle.ioa_serving.specs.Seeds.{Judged, monitors_of, performed_by_all, seed_lines, seeds_count}
use Rattle.ioa_serving.specs.SeedRuns.{AreSeedJudgments, IsCovered, IsTallyOf}
use Rattle.ioa_serving.proofs.seeds.tell_runs.Given as goal

abbrev pub invariant-loop-number : goal.invariant-loop-number
invariant-loop-number g l = record {
  judged : List Judged;
  next : l.seeds.first + length judged ≡ l.number;
  few : length judged ≤ seeds_count l.seeds;
  runs : AreSeedJudgments l.sown l.seeds.run.turns l.seeds.first judged;
  tallied : IsTallyOf (length l.sown.specifications.items) l.tally judged;
  covered : IsCovered l.sown.ready.program l.sown.ready.source l.seeds.run.coverage l.tally.coverage judged;
  bounded : length (all_of (performed_by_all judged)) ≤ length judged * 2 ^ 64;
  output : Appends (g.W.Write.contents l.initial.output) (g.W.Write.contents l.output) (seed_lines l.seeds.json (monitors_of l.seeds) l.seeds.first judged);
  passed : g.W.Device.failure_count l.output ≡ g.W.Device.failure_count l.initial.output;
}
