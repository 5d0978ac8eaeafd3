use Rattle.std.proofs.Common.{◌≡◌, take}
use Rattle.ioa_system.specs.Participants.{taken}
use Rattle.ioa_system.specs.Systems.{slot_types, types_of}
use Rattle.ioa_tests.proofs.tests.calls.lent.Given as goal

abbrev pub invariant-loop-i : goal.invariant-loop-i
invariant-loop-i l = types_of l.lent.items ≡ taken (take l.i-index l.i-items) (slot_types l.system.program.members)
