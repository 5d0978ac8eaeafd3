use Rattle.std.proofs.Common.{◌≡◌, ◌++◌, map, take}
use Rattle.std.specs.List.{flat_map}
use Rattle.std.specs.String.{string_bytes}
use Rattle.ioa_print.specs.Layout.{text_declaration}
use Rattle.ioa_tree.specs.View.{declaration_of}
use Rattle.ioa_print.proofs.printing.declarations.Given as goal

abbrev pub invariant-loop-each : goal.invariant-loop-each
invariant-loop-each l = string_bytes l.text ≡ string_bytes l.initial.text ++ flat_map text_declaration (map declaration_of (take l.each-index l.declarations))
