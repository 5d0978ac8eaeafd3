use Rattle.std.proofs.Common.{◌≡◌, ◌++◌, map, take}
use Rattle.std.specs.String.{string_bytes}
use Rattle.ioa_value.specs.declared.terminal.Terminal.TheVariants as terminals
use Rattle.ioa_print.specs.Layout.{text_name, text_more}
use Rattle.ioa_tree.specs.View.{name_of}
use Rattle.ioa_print.proofs.types.more_names.Given as goal

abbrev pub invariant-loop-each : goal.invariant-loop-each
invariant-loop-each l = string_bytes l.text ≡ string_bytes l.initial.text ++ text_more terminals.Comma (text_name l.end) (map name_of (take l.each-index l.names))
