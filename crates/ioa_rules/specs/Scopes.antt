-- The names that an expression may use, with their types.
use Rattle.std.specs.Prelude.{List, map, ◌++◌}
use Rattle.ioa_value.specs.Table.{Table}
use Rattle.ioa_tree.specs.Tree.{FieldTree, PositionTree}
use Rattle.ioa_tree.specs.View.{field_of, variable_of, position_of}
use Rattle.ioa_tree.specs.WellFormed.{Context, context_of, position_fields}
use Rattle.ioa_rules.specs.declared.scope.Scope.{Scope}
use Rattle.ioa_rules.specs.KnownTypes.{early}
use Rattle.ioa_rules.specs.Loops.{loops_of}

-- of loops, variables, formals and the parameters among positions
abbrev pub context_in : Table → Context → List FieldTree → List FieldTree → List PositionTree → Context
context_in types loops variables formals positions =
    loops ++ ((context_of types variables ++ context_of types formals) ++ context_of types (position_fields positions))

abbrev pub context : Scope → Context
context s =
    context_in (early s.known) (loops_of s.loops) (map (λ v. v.field) (map variable_of s.variables.now)) (map field_of s.formals.now) (map position_of s.positions.now)
