use Rattle.std.proofs.Common.{map, take}
use Rattle.ioa_value.specs.Plain.{number}
use Rattle.ioa_tree.specs.View.{field_of}
use Rattle.ioa_compile.specs.Matching.{AreTypesOf}
use Rattle.ioa_compile.proofs.types.variable_types.Given as goal

abbrev pub invariant-loop-variable : goal.invariant-loop-variable
invariant-loop-variable l = AreTypesOf l.types (map (λ v. field_of v.field) (take l.variable-index l.variables)) (map number l.found.items)
