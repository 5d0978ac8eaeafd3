use Rattle.std.proofs.Common.{◌≡◌, map, take}
use Rattle.ioa_tree.specs.View.{field_of}
use Rattle.ioa_crash.proofs.copies.copied_fields.Given as goal

abbrev pub invariant-loop-field : goal.invariant-loop-field
invariant-loop-field l = map field_of l.out.items ≡ map field_of (take l.field-index l.fields)
