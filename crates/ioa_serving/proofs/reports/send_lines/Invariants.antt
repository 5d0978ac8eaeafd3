use Rattle.std.proofs.Common.{◌≡◌, [], map, take}
use Rattle.std.specs.Io.KnownBytes.{Appends}
use Rattle.ioa_serving.specs.RunReports.{wants_text}
use Rattle.ioa_serving.proofs.reports.send_lines.Given as goal

-- the lines of the workers so far are written; none, where there is none to write
abbrev pub invariant-loop-i : goal.invariant-loop-i
invariant-loop-i g l = record {
  told : Appends (g.W.Write.contents l.initial.output) (g.W.Write.contents l.output) (wants_text (map (λ m. m.name) l.program.members) (take l.i l.reports));
  passed : g.W.Device.failure_count l.output ≡ g.W.Device.failure_count l.initial.output;
  quiet : wants_text (map (λ m. m.name) l.program.members) l.reports ≡ [] → l.output ≡ l.initial.output;
}
