use Rattle.std.proofs.Common.{◌++◌, List, map, take, sym, ap, subst, ◌∙◌}
use Rattle.std.proofs.lemmas.List.{take-map}
use Rattle.ioa_value.specs.Plain.{plain}
use Rattle.ioa_value.specs.declared.value.Value.{Value}
use Rattle.ioa_tree.specs.declared.tree.Field.{Field}
use Rattle.ioa_tree.specs.Tree.{VariableTree}
use Rattle.ioa_tree.specs.View.{field_of, variable_of}
use Rattle.ioa_tree.specs.Instances.{Fit, field_names}
use Rattle.ioa_tree.specs.Meaning.{values_of, over}
use Rattle.ioa_tree.specs.WellFormed.{context_of}
use Rattle.ioa_compose.proofs.ScopeLemmas.{state-suits}
use Rattle.ioa_compose.proofs.scope.Scope.of_state.Goals as goal

pub returns-clause-names : goal.returns-clause-names
returns-clause-names c =
    let types = c.args.member.now.types in
    let vs = c.args.member.now.automaton.variables.items in
    let first = ap (map variable_of) c.declared_variables.ensures ∙ sym (take-map variable_of c.args.member.now.declared vs) in
    ap (λ (us : List VariableTree). context_of types (map (λ v. v.field) us) ++ context_of types (map field_of c.deref.result.now)) first
    ∙ ap (λ (fs : List Field). context_of types (map (λ v. v.field) (take c.args.member.now.declared (map variable_of vs))) ++ context_of types (map field_of fs)) c.deref.ensures.value

pub returns-clause-values : goal.returns-clause-values
returns-clause-values c =
    let vs = c.args.member.now.automaton.variables.items in
    let values = map plain c.args.values.now in
    let first = ap (map variable_of) c.declared_variables.ensures ∙ sym (take-map variable_of c.args.member.now.declared vs) in
    let state = values_of (map (λ (v : VariableTree). v.field.name) (take c.args.member.now.declared (map variable_of vs))) values in
    ap (λ (us : List VariableTree). over (values_of (map (λ v. v.field.name) us) values) (values_of (field_names (map field_of c.deref.result.now)) (map plain c.deref-2.result.now))) first
    ∙ ap (λ (fs : List Field). over state (values_of (field_names (map field_of fs)) (map plain c.deref-2.result.now))) c.deref.ensures.value
    ∙ ap (λ (ws : List Value). over state (values_of (field_names (map field_of c.args.member.now.automaton.formals.items)) (map plain ws))) c.deref-2.ensures.value

pub returns-clause-suits : goal.returns-clause-suits
returns-clause-suits c =
    let types = c.args.member.now.types in
    let values = map plain c.args.values.now in
    let first = ap (map variable_of) c.declared_variables.ensures ∙ sym (take-map variable_of c.args.member.now.declared c.args.member.now.automaton.variables.items) in
    let of_formals : Fit types (map field_of c.deref.result.now) (map plain c.args.member.now.arguments.items) =
    subst (λ (fs : List Field). Fit types (map field_of fs) (map plain c.args.member.now.arguments.items)) (sym c.deref.ensures.value) c.requires.formals in
    state-suits types c.declared_variables.result.now values c.deref.result.now (map plain c.deref-2.result.now)
    (subst (λ (us : List VariableTree). Fit types (map (λ v. v.field) us) values) (sym first) c.requires.variables)
    (subst (λ (args : List Value). Fit types (map field_of c.deref.result.now) (map plain args)) (sym c.deref-2.ensures.value) of_formals)
