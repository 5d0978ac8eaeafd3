use Rattle.std.proofs.Common.{◌≡◌, ◌≤◌, Some, slice_get, take}
use Rattle.ioa_tree.specs.Compositions.{Member}
use Rattle.ioa_compose.specs.Held.{composed_of}
use Rattle.ioa_account.specs.Counts.{asked_of}
use Rattle.ioa_account.proofs.counts.asked_of.Given as goal

-- those among the invariants so far
abbrev pub invariant-loop-number : goal.invariant-loop-number
invariant-loop-number l = record {
  counted : (m : Member) → slice_get (composed_of l.composition).members l.component ≡ Some m
      → l.count ≡ asked_of (take l.number (composed_of l.composition).invariants) m.instance.automaton.name;
  within : l.count ≤ l.number;
}
