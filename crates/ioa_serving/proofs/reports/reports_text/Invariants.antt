use Rattle.std.proofs.Common.{◌≡◌, map, take}
use Rattle.std.specs.String.{string_bytes}
use Rattle.ioa_serving.specs.RunReports as spec
use Rattle.ioa_serving.proofs.reports.reports_text.Given as goal

-- the lines of the reports so far
abbrev pub invariant-loop-i : goal.invariant-loop-i
invariant-loop-i l = string_bytes l.text ≡ spec.reports_text (map (λ m. m.name) l.program.members) (take l.i l.reports)
