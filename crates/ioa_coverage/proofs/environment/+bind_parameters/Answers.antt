use Rattle.std.proofs.Common.{◌∙◌, ◌∷◌, List, ap, ap₂, arith, map, sym}
use Rattle.std.proofs.lemmas.List.{nil_from_length}
use Rattle.std.proofs.lemmas.Result.{on_ok_weaker}
use Rattle.ioa_value.specs.Plain.{plain}
use Rattle.ioa_value.specs.declared.value.Value.{Value}
use Rattle.ioa_tree.specs.declared.tree.Position.{Position}
use Rattle.ioa_tree.specs.Instances.{field_names, parameter_values, position_fields}
use Rattle.ioa_tree.specs.Meaning.{Env, over, values_of}
use Rattle.ioa_tree.specs.View.{name_of, position_of}
use Rattle.ioa_coverage.specs.Known.{known}
use Rattle.ioa_coverage.proofs.Naming.{first_and_rest, next_named, no_parameters, rest_of}
use Rattle.ioa_coverage.proofs.environment.+bind_parameters.Goals as goal

-- parameters in front of what others stand for
abbrev named : List Position → List Value → Env → Env
named ps vs old = over (values_of (field_names (position_fields (map position_of ps))) (parameter_values (map position_of ps) (map plain vs))) old

pub returns-in-empty-values : goal.returns-in-empty-values
returns-in-empty-values t c =
    let old = known c.args.scope.now.items in
    no_parameters (map position_of c.args.positions.now) old ∙ ap (λ (vs : List Value). named c.args.positions.now vs old) (sym (nil_from_length c.args.values.now (omega arith)))

pub returns-in_ok-try_copy-in-Typed : goal.returns-in_ok-try_copy-in-Typed
returns-in_ok-try_copy-in-Typed t c =
    let ps = c.args.positions.now in
    let vs = c.args.values.now in
    let p = c.position-item.result in
    let v = c.value-item.result in
    let others = map position_of (rest_of ps) in
    let old = known c.args.scope.now.items in
    on_ok_weaker c.bind.result
    (λ put. next_named (name_of c.in-Typed.field.name) (plain v) (plain c.in_ok-try_copy-in-Typed.field-0) (field_names (position_fields others)) (parameter_values others (map plain (rest_of vs))) old
    (known c.bind_parameters.new.scope.items) (known c.bind.new.scope.items) c.in_ok-bind_parameters-in-len1-up-values.ensures c.in_ok-try_copy-in-Typed.ensures put
    ∙ ap (λ (q : Position). named (q ∷ rest_of ps) (v ∷ rest_of vs) old) (sym c.in-Typed.is)
    ∙ ap₂ (λ (qs : List Position) (ws : List Value). named qs ws old) (first_and_rest ps p c.in-len1-up.len_at_least c.position-item.is)
    (first_and_rest vs v c.in-len1-up-values.len_at_least c.value-item.is))
    c.bind.ensures.known
