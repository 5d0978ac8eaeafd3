use Rattle.std.proofs.Common.{◌≡◌, ◌+◌, ◌*◌, map, take}
use Rattle.ioa_value.specs.Plain.{plain_all}
use Rattle.ioa_value.specs.Table.{types_of}
use Rattle.ioa_value.specs.Shapes.{tuple_field}
use Rattle.ioa_value.specs.Typing.{first_of, firsts as values_of}
use Rattle.ioa_value.proofs.initial.+first.Given as goal

abbrev pub decreases-first : goal.decreases-first
decreases-first l = 2 * l.ty.0 + 1

abbrev pub decreases-firsts : goal.decreases-firsts
decreases-firsts l = 2 * l.ty.0

abbrev pub invariant-firsts-loop-i : goal.invariant-firsts-loop-i
invariant-firsts-loop-i l =
    plain_all l.values.items ≡ values_of (first_of l.types) (types_of (map tuple_field (take l.i l.fields)))
