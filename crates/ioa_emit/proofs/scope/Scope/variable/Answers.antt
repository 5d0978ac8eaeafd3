use Rattle.std.proofs.Common.{◌≡◌, ◌<◌, ◌≤◌, length, map, sym, ◌∙◌, rules, arith}
use Rattle.ioa_tree.specs.View.{name_of, variable_of}
use Rattle.ioa_crash.specs.Limits.{component_limits}
use Rattle.ioa_value.proofs.PlaceLemmas.{place_below}
use Rattle.ioa_emit.proofs.scope.Scope.variable.Goals as goal

pub overflow_cast-result : goal.overflow_cast-result
overflow_cast-result c =
    let names = map (λ v. v.field.name) (map variable_of c.self.inside.variables.now) in
    let i = c.in-Some.place in
    let below : i < length names = place_below names (name_of c.args.name.now) i (sym c.variable_place.ensures ∙ c.in-Some.is) in
    let few : length names ≤ component_limits.variables = c.self.invariant.variables in
    let lt : i < component_limits.variables = omega arith in
    search rules
