use Rattle.std.proofs.Common.{◌≡◌, ◌≤◌, ◌*◌, take}
use Rattle.ioa_tree.specs.Compositions.{instances_of}
use Rattle.ioa_compose.specs.Held.{composed_of}
use Rattle.ioa_account.specs.Counts.{asked_invariants}
use Rattle.ioa_account.proofs.counts.asked_of_all.Given as goal

-- those of the components so far
abbrev pub invariant-loop-component : goal.invariant-loop-component
invariant-loop-component l = record {
  counted : l.count ≡ asked_invariants (composed_of l.composition).invariants (take l.component (instances_of (composed_of l.composition)));
  within : l.count ≤ 256 * l.component;
}
