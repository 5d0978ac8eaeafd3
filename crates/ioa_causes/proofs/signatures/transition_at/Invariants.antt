use Rattle.std.proofs.Common.{◌≡◌, ◌==◌, drop}
use Rattle.std.specs.Prelude.{find}
use Rattle.ioa_tree.specs.declared.tree.Transition.{Transition}
use Rattle.ioa_causes.proofs.signatures.transition_at.Given as goal

-- the first that is left is the first of all
abbrev pub invariant-loop-transition : goal.invariant-loop-transition
invariant-loop-transition l =
    find (λ (t : Transition). t.name.line == l.index) (drop l.transition-index l.automaton.transitions.items) ≡ find (λ (t : Transition). t.name.line == l.index) l.automaton.transitions.items
