use Rattle.std.proofs.Common.{◌≡◌, ◌++◌, map, take}
use Rattle.std.specs.List.{flat_map}
use Rattle.std.specs.String.{string_bytes}
use Rattle.ioa_print.specs.Layout.{text_transition}
use Rattle.ioa_tree.specs.View.{transition_of}
use Rattle.ioa_print.proofs.automata.transitions.Given as goal

abbrev pub invariant-loop-each : goal.invariant-loop-each
invariant-loop-each l = string_bytes l.text ≡ string_bytes l.initial.text ++ flat_map text_transition (map transition_of (take l.each-index l.transitions))
