use Rattle.std.proofs.Common.{◌≡◌, ◌++◌, drop, string_bytes}
use Rattle.std.specs.List.{flat_map}
use Rattle.ioa_coverage.specs.Effects.{told_rows}
use Rattle.ioa_coverage.specs.Taken.{line_by}
use Rattle.ioa_coverage.proofs.telling.put_lines.Given as goal

-- what is told and what is left come to the whole
abbrev pub invariant-loop-index : goal.invariant-loop-index
invariant-loop-index l =
    string_bytes l.text ++ flat_map (line_by l.done) (told_rows (drop l.index l.rows) (drop l.index l.effects)) ≡ string_bytes l.initial.text ++ flat_map (line_by l.done) (told_rows l.rows l.effects)
