use Rattle.std.proofs.Common.{◌≡◌, ◌++◌, map, take}
use Rattle.std.specs.List.{flat_map}
use Rattle.ioa_value.specs.Plain.{plain}
use Rattle.ioa_object.specs.Spelling.{value}
use Rattle.ioa_object.proofs.writing.put_values.Given as goal

abbrev pub invariant-loop-value : goal.invariant-loop-value
invariant-loop-value l = l.out.items ≡ l.initial.out.items ++ flat_map value (map plain (take l.value-index l.values))
