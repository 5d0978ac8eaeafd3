use Rattle.std.proofs.Common.{◌≡◌, ◌++◌, map, take}
use Rattle.std.specs.List.{flat_map}
use Rattle.ioa_value.specs.Plain.{plain}
use Rattle.ioa_object.specs.Spelling.{payload}
use Rattle.ioa_object.proofs.writing.+payload.Given as goal

abbrev pub invariant-put_payloads-loop-value : goal.invariant-put_payloads-loop-value
invariant-put_payloads-loop-value l = l.out.items ≡ l.initial.out.items ++ flat_map payload (map plain (take l.value-index l.values))
