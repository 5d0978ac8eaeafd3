use Rattle.std.proofs.Common.{◌∙◌, List, ap₂, map}
use Rattle.std.proofs.lemmas.Result.{on_ok_weaker}
use Rattle.ioa_value.specs.Plain.{plain}
use Rattle.ioa_value.specs.declared.value.Value.{Value}
use Rattle.ioa_tree.specs.declared.tree.Field.{Field}
use Rattle.ioa_tree.specs.Instances.{field_names}
use Rattle.ioa_tree.specs.Meaning.{over, values_of}
use Rattle.ioa_tree.specs.View.{field_of, name_of}
use Rattle.ioa_coverage.specs.Known.{known}
use Rattle.ioa_coverage.proofs.Naming.{first_and_rest, next_named, rest_of}
use Rattle.ioa_coverage.proofs.environment.+bind_formals.Goals as goal

pub returns-in_ok-try_copy-in-len1-up-values : goal.returns-in_ok-try_copy-in-len1-up-values
returns-in_ok-try_copy-in-len1-up-values t c =
    let xs = c.args.formals.now in
    let vs = c.args.values.now in
    let x = c.formal-item.result in
    let v = c.value-item.result in
    let old = known c.args.scope.now.items in
    on_ok_weaker c.bind.result
    (λ put. next_named (name_of x.name) (plain v) (plain c.in_ok-try_copy-in-len1-up-values.field-0) (field_names (map field_of (rest_of xs))) (map plain (rest_of vs)) old
    (known c.bind_formals.new.scope.items) (known c.bind.new.scope.items) c.in_ok-bind_formals-in-len1-up-values.ensures c.in_ok-try_copy-in-len1-up-values.ensures put
    ∙ ap₂ (λ (ys : List Field) (ws : List Value). over (values_of (field_names (map field_of ys)) (map plain ws)) old)
    (first_and_rest xs x c.in-len1-up.len_at_least c.formal-item.is) (first_and_rest vs v c.in-len1-up-values.len_at_least c.value-item.is))
    c.bind.ensures.known
