use Rattle.std.proofs.Common.{◌≡◌, take}
use Rattle.ioa_system.specs.Drafted.{drafted}
use Rattle.ioa_system.proofs.steps.changed.Given as goal

abbrev pub invariant-loop-i : goal.invariant-loop-i
invariant-loop-i l = l.after.items ≡ drafted l.states (take l.i l.participants) l.drafts
