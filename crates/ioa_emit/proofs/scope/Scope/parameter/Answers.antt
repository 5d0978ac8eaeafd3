use Rattle.std.proofs.Common.{◌≡◌, ◌<◌, ◌≤◌, length, map, sym, ◌∙◌, rules, arith}
use Rattle.ioa_value.specs.declared.limits.TheConstants.{LIMITS}
use Rattle.ioa_tree.specs.View.{name_of, position_of}
use Rattle.ioa_emit.proofs.ParameterPlaces.{parameter_below}
use Rattle.ioa_emit.proofs.scope.Scope.parameter.Goals as goal

pub overflow_cast-result : goal.overflow_cast-result
overflow_cast-result c =
    let names = map position_of c.self.inside.positions.now in
    let i = c.in-Some.place in
    let below : i < length names = parameter_below names (name_of c.args.name.now) i (sym c.parameter_place.ensures ∙ c.in-Some.is) in
    let few : length names ≤ LIMITS.parameters = c.self.invariant.parameters in
    let lt : i < LIMITS.parameters = omega arith in
    search rules
