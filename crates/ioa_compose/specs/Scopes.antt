-- The names that an expression may use, with their types and their values.
use Rattle.std.specs.Prelude.{map, ◌++◌}
use Rattle.ioa_value.specs.Plain.{plain}
use Rattle.ioa_tree.specs.View.{field_of, variable_of}
use Rattle.ioa_tree.specs.Meaning.{Env, values_of, over}
use Rattle.ioa_tree.specs.Instances.{field_names}
use Rattle.ioa_tree.specs.WellFormed.{Context, context_of}
use Rattle.ioa_compose.specs.declared.scope.Scope.{Scope}

-- variables and formals
abbrev pub context : Scope → Context
context s = context_of s.types.now (map (λ v. v.field) (map variable_of s.variables.now)) ++ context_of s.types.now (map field_of s.formals.now)

abbrev pub environment : Scope → Env
environment s =
    over (values_of (map (λ v. v.field.name) (map variable_of s.variables.now)) (map plain s.values.now))
    (values_of (field_names (map field_of s.formals.now)) (map plain s.arguments.now))
