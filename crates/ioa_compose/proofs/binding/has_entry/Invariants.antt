use Rattle.std.proofs.Common.{◌≡◌, map, drop}
use Rattle.ioa_value.specs.Table.{contains}
use Rattle.ioa_tree.specs.View.{name_of, entry_of, automaton_of}
use Rattle.ioa_compose.proofs.binding.has_entry.Given as goal

abbrev pub invariant-loop-entry : goal.invariant-loop-entry
invariant-loop-entry l =
    contains (map (λ e. e.name) (map entry_of (drop l.entry-index l.automaton.entries.items))) (name_of l.name)
    ≡ contains (map (λ e. e.name) (automaton_of l.automaton).entries) (name_of l.name)
