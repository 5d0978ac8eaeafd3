use Rattle.std.proofs.Common.{◌≡◌, ◌++◌, map, take}
use Rattle.std.specs.String.{string_bytes}
use Rattle.ioa_value.specs.declared.terminal.Terminal.TheVariants as terminals
use Rattle.ioa_print.specs.Layout.{text_more, text_position}
use Rattle.ioa_tree.specs.View.{position_of}
use Rattle.ioa_print.proofs.signatures.more_positions.Given as goal

abbrev pub invariant-loop-position : goal.invariant-loop-position
invariant-loop-position l = string_bytes l.text ≡ string_bytes l.initial.text ++ text_more terminals.Comma text_position (map position_of (take l.position-index l.positions))
