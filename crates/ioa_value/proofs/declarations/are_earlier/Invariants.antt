use Rattle.std.proofs.Common.{◌<◌, All, map, take}
use Rattle.ioa_value.specs.Table.{types_of}
use Rattle.ioa_value.specs.Shapes.{tuple_field}
use Rattle.ioa_value.proofs.declarations.are_earlier.Given as goal

abbrev pub invariant-loop-i : goal.invariant-loop-i
invariant-loop-i l = All (λ t. t < l.count) (types_of (map tuple_field (take l.i l.fields)))
