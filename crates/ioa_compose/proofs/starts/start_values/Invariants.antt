use Rattle.std.proofs.Common.{◌≡◌, map, drop}
use Rattle.ioa_value.specs.Plain.{plain}
use Rattle.ioa_tree.specs.View.{variable_of}
use Rattle.ioa_tree.specs.Meaning.{values_of}
use Rattle.ioa_tree.specs.Instances.{all_values, start_value, field_names}
use Rattle.ioa_compose.specs.Bindings.{plain_in}
use Rattle.ioa_compose.proofs.ValueLemmas.{prepended}
use Rattle.ioa_compose.proofs.starts.start_values.Given as goal

abbrev pub invariant-loop-variable : goal.invariant-loop-variable
invariant-loop-variable l = let n = plain_in l.types l.binding in
    let start = start_value n.types (values_of (field_names n.automaton.formals) n.arguments) in
    prepended (map plain l.values.items) (all_values start (map variable_of (drop l.variable-index l.binding.automaton.now.variables.items))) ≡ all_values start n.automaton.variables
