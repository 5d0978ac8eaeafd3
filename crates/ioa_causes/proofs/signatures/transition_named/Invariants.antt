use Rattle.std.proofs.Common.{◌≡◌, drop}
use Rattle.ioa_causes.specs.Words.{transition_named}
use Rattle.ioa_causes.proofs.signatures.transition_named.Given as goal

-- the first that is left is the first of all
abbrev pub invariant-loop-transition : goal.invariant-loop-transition
invariant-loop-transition l = transition_named l.name (drop l.transition-index l.automaton.transitions.items) ≡ transition_named l.name l.automaton.transitions.items
