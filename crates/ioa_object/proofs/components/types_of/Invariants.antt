use Rattle.std.proofs.Common.{◌≡◌, map, take}
use Rattle.ioa_value.specs.Plain.{number, plain}
use Rattle.ioa_value.specs.Typing.{own}
use Rattle.ioa_object.proofs.components.types_of.Given as goal

abbrev pub invariant-loop-value : goal.invariant-loop-value
invariant-loop-value l = map number l.found.items ≡ map (λ v. own (plain v)) (take l.value-index l.values)
