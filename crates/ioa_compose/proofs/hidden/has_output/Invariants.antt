use Rattle.std.proofs.Common.{◌≡◌, ◌&&◌, map, drop, Some}
use Rattle.std.specs.List.{list_any}
use Rattle.std.specs.Str.{bytes_eq}
use Rattle.ioa_tree.specs.View.{name_of, entry_of, automaton_of}
use Rattle.ioa_tree.specs.Components.{is_output}
use Rattle.ioa_tree.specs.Compositions as spec
use Rattle.ioa_compose.proofs.hidden.has_output.Given as goal

abbrev pub invariant-loop-entry : goal.invariant-loop-entry
invariant-loop-entry l =
    list_any (λ e. is_output (Some e.kind) && bytes_eq e.name (name_of l.name)) (map entry_of (drop l.entry-index l.automaton.entries.items))
    ≡ spec.has_output (name_of l.name) (automaton_of l.automaton)
