use Rattle.std.proofs.Common.{All, map, take}
use Rattle.ioa_value.specs.Names.{IsName}
use Rattle.ioa_value.specs.Table.{field_names}
use Rattle.ioa_value.specs.Shapes.{tuple_field}
use Rattle.ioa_value.proofs.declarations.are_legal.Given as goal

abbrev pub invariant-loop-i : goal.invariant-loop-i
invariant-loop-i l = All IsName (field_names (map tuple_field (take l.i l.fields)))
