use Rattle.std.proofs.Common.{◌∷◌, [], sym, ap, ◌∙◌, ◌+◌, map, drop}
use Rattle.std.proofs.lemmas.List.{map-append}
use Rattle.ioa_value.specs.Plain.{plain}
use Rattle.ioa_tree.specs.View.{variable_of}
use Rattle.ioa_tree.specs.Meaning.{values_of}
use Rattle.ioa_tree.specs.Instances.{all_values, start_value, field_names}
use Rattle.ioa_compose.specs.Bindings.{plain_in, value_in}
use Rattle.ioa_compose.proofs.ValueLemmas.{prepended, values-go-on}
use Rattle.ioa_compose.proofs.StartLemmas.{fine-at, known-at}
use Rattle.ioa_compose.proofs.starts.start_values.Goals as goal

pub start_value-requires-clause-fine : goal.start_value-requires-clause-fine
start_value-requires-clause-fine c =
    fine-at c.args.types.now (plain_in c.args.types.now c.args.binding.now).automaton c.args.binding.now.automaton.now.variables.items _ _ c.variable-item.result c.requires.startable.well.fine c.deref-variable-items.ensures.value c.loop-variable-test.true c.variable-item.is

pub start_value-requires-clause-known : goal.start_value-requires-clause-known
start_value-requires-clause-known c =
    known-at c.args.types.now c.args.binding.now.automaton.now.variables.items _ _ c.variable-item.result c.requires.startable.well.known c.deref-variable-items.ensures.value c.loop-variable-test.true c.variable-item.is

pub loop-variable-preserved : goal.loop-variable-preserved
loop-variable-preserved c =
    let n = plain_in c.args.types.now c.args.binding.now in
    let start = start_value n.types (values_of (field_names n.automaton.formals) n.arguments) in
    let longer = ap (map plain) c.in_ok-push-in-Ok.ensures.items ∙ map-append plain c.loop-variable.values.items (c.in-Ok.value ∷ []) in
    ap (λ vs. prepended vs (all_values start (map variable_of (drop (c.loop-variable.variable-index + 1) c.args.binding.now.automaton.now.variables.items)))) longer
    ∙ values-go-on start variable_of c.args.binding.now.automaton.now.variables.items _ _ c.variable-item.result (map plain c.loop-variable.values.items) (plain c.in-Ok.value)
    c.deref-variable-items.ensures.value c.loop-variable-test.true c.variable-item.is c.loop-variable.invariant (sym c.in_ok-value.ensures ∙ ap value_in c.in-Ok.is)
