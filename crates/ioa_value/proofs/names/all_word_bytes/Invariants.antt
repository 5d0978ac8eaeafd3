use Rattle.std.proofs.Common.{◌≡◌, true, take}
use Rattle.std.specs.List.{list_all}
use Rattle.ioa_value.specs.Names as spec
use Rattle.ioa_value.proofs.names.all_word_bytes.Given as goal

abbrev pub invariant-loop-b : goal.invariant-loop-b
invariant-loop-b l = list_all spec.is_word_byte (take l.b-index l.text) ≡ true
