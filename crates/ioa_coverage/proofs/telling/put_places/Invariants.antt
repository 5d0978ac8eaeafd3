use Rattle.std.proofs.Common.{◌≡◌, ◌++◌, drop, map, string_bytes}
use Rattle.std.specs.List.{flat_map}
use Rattle.ioa_coverage.specs.Effects.{rows_of_counts, told_effect}
use Rattle.ioa_coverage.specs.Taken.{line_by}
use Rattle.ioa_coverage.proofs.telling.put_places.Given as goal

-- what is told and what is left come to the whole
abbrev pub invariant-loop-index : goal.invariant-loop-index
invariant-loop-index l =
    string_bytes l.text
    ++ flat_map (line_by l.done) (rows_of_counts (string_bytes l.row.member.now.name) (string_bytes l.row.entry.now.name) (map string_bytes (drop l.index l.effect.labels.items)) (drop l.index l.effect.taken.items))
    ≡ string_bytes l.initial.text ++ flat_map (line_by l.done) (told_effect l.row l.effect)
