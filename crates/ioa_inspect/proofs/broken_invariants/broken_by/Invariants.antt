use Rattle.ioa_compose.specs.Held.{composed_of}
use Rattle.ioa_inspect.proofs.Breaking.{Sought}
use Rattle.ioa_inspect.proofs.broken_invariants.broken_by.Given as goal

abbrev pub invariant-loop-number : goal.invariant-loop-number
invariant-loop-number l = Sought (composed_of l.asked) l.component l.state.values l.number
