use Rattle.std.proofs.Common.{◌≡◌, ◌++◌, map, take, string_bytes}
use Rattle.ioa_compose.specs.Held.{member_of}
use Rattle.ioa_system.specs.Systems.{values_of}
use Rattle.ioa_picture.specs.Lines.{numbered}
use Rattle.ioa_account.specs.States.{slots_in}
use Rattle.ioa_account.proofs.states.put_slots.Given as goal

-- the lines of the states so far
abbrev pub invariant-loop-i : goal.invariant-loop-i
invariant-loop-i l = string_bytes l.text ≡ string_bytes l.fn.text ++ numbered (slots_in l.types (map member_of l.members)) 0 (take l.i (values_of l.states))
