use Rattle.std.proofs.Common.{◌≡◌, ◌++◌, take, string_bytes}
use Rattle.std.specs.List.{flat_map}
use Rattle.ioa_picture.specs.Charts.{arrow}
use Rattle.ioa_picture.proofs.charts.put_arrows.Given as goal

-- the arrows so far
abbrev pub invariant-loop-to : goal.invariant-loop-to
invariant-loop-to l = string_bytes l.text ≡ string_bytes l.initial.text ++ flat_map (arrow l.from l.label) (take l.to-index l.numbers)
