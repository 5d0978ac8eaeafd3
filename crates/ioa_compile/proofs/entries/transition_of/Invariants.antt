use Rattle.std.proofs.Common.{◌≡◌, map, drop}
use Rattle.std.specs.List.{find}
use Rattle.std.specs.Str.{bytes_eq}
use Rattle.ioa_tree.specs.View.{entry_of, transition_of, automaton_of, name_of}
use Rattle.ioa_tree.specs.Instances.{transition_for}
use Rattle.ioa_compile.proofs.entries.transition_of.Given as goal

abbrev pub invariant-loop-transition : goal.invariant-loop-transition
invariant-loop-transition l =
    transition_for (automaton_of l.automaton) (entry_of l.entry) ≡ find (λ t. bytes_eq t.name (name_of l.entry.name)) (map transition_of (drop l.transition-index l.automaton.transitions.items))
