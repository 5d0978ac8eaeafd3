use Rattle.std.proofs.Common.{◌≡◌, ◌++◌, map, string_bytes, take}
use Rattle.std.specs.List.{flat_map}
use Rattle.ioa_tree.specs.View.{position_of}
use Rattle.ioa_enabled.specs.Signed.{more_text}
use Rattle.ioa_enabled.proofs.signatures.put_more.Given as goal

abbrev pub invariant-loop-position : goal.invariant-loop-position
invariant-loop-position l = string_bytes l.text ≡ string_bytes l.initial.text ++ flat_map more_text (map position_of (take l.position-index l.positions))
