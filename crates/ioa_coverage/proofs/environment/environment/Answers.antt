use Rattle.std.proofs.Common.{◌≡◌, ◌∙◌, List, ap, map}
use Rattle.ioa_value.specs.Plain.{plain}
use Rattle.ioa_tree.specs.declared.tree.Field.{Field}
use Rattle.ioa_tree.specs.declared.tree.Position.{Position}
use Rattle.ioa_tree.specs.declared.tree.Variable.{Variable}
use Rattle.ioa_tree.specs.Instances.{field_names, formal_values, parameter_values, position_fields, state_of}
use Rattle.ioa_tree.specs.Meaning.{Env, over, values_of}
use Rattle.ioa_tree.specs.Tree.{VariableTree}
use Rattle.ioa_tree.specs.View.{automaton_of, field_of, position_of, variable_of}
use Rattle.ioa_coverage.specs.declared.scope.Binding.{Binding}
use Rattle.ioa_coverage.specs.Effects.{instance_of}
use Rattle.ioa_coverage.specs.Known.{known}
use Rattle.ioa_coverage.proofs.Naming.{over_nothing}
use Rattle.ioa_coverage.proofs.environment.environment.Goals as goal

pub returns : goal.returns
returns c =
    let a = c.args.automaton.now in
    let given = map plain c.args.given.now in
    let state : Env = state_of (automaton_of a) (map plain c.args.values.now) in
    let named : List Position → Env = λ ps. values_of (field_names (position_fields (map position_of ps))) (parameter_values (map position_of ps) given) in
    let first = known c.bind_variables.new.scope.items in
    let second = known c.bind_parameters.new.scope.items in
    let variables : first ≡ state =
    c.in_ok-bind_variables.ensures
    ∙ ap (λ (vs : List Variable). over (values_of (map (λ (u : VariableTree). u.field.name) (map variable_of vs)) (map plain c.args.values.now)) (known c.new-scope.result.items)) c.deref.ensures.value
    ∙ ap (λ (bs : List Binding). over state (known bs)) c.new-scope.ensures.items ∙ over_nothing state in
    let parameters : second ≡ over (named c.args.entry.now.positions.items) state =
    c.in_ok-bind_parameters.ensures ∙ ap (λ (ps : List Position). over (named ps) first) c.deref-2.ensures.value ∙ ap (λ (e : Env). over (named c.args.entry.now.positions.items) e) variables in
    c.in_ok-bind_formals.ensures ∙ ap (λ (fs : List Field). over (values_of (field_names (map field_of fs)) (map plain c.args.arguments.now)) second) c.deref-3.ensures.value
    ∙ ap (λ (e : Env). over (formal_values (instance_of c.args.types.now a c.args.arguments.now)) e) parameters
