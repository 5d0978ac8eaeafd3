use Rattle.std.proofs.Common.{◌≡◌, ◌++◌, map, take}
use Rattle.std.specs.String.{string_bytes}
use Rattle.ioa_value.specs.declared.terminal.Terminal.TheVariants as terminals
use Rattle.ioa_print.specs.Layout.{space, text_field, text_more}
use Rattle.ioa_tree.specs.View.{field_of}
use Rattle.ioa_print.proofs.signatures.more_fields.Given as goal

abbrev pub invariant-loop-field : goal.invariant-loop-field
invariant-loop-field l = string_bytes l.text ≡ string_bytes l.initial.text ++ text_more terminals.Comma (text_field space) (map field_of (take l.field-index l.fields))
