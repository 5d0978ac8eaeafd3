use Rattle.ioa_compose.specs.Held.{composed_of}
use Rattle.ioa_system.specs.Systems.{values_of}
use Rattle.ioa_inspect.proofs.Breaking.{Looked}
use Rattle.ioa_inspect.proofs.broken_invariants.broken_in.Given as goal

abbrev pub invariant-loop-component : goal.invariant-loop-component
invariant-loop-component l = Looked (composed_of l.asked) l.count (values_of l.states) l.component
