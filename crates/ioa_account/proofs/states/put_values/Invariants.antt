use Rattle.std.proofs.Common.{◌≡◌, ◌++◌, map, take, string_bytes}
use Rattle.ioa_value.specs.Plain.{plain}
use Rattle.ioa_compose.specs.Held.{member_of}
use Rattle.ioa_picture.specs.Lines.{numbered}
use Rattle.ioa_account.specs.States.{slot_line}
use Rattle.ioa_account.proofs.states.put_values.Given as goal

-- the lines of the slots so far
abbrev pub invariant-loop-i : goal.invariant-loop-i
invariant-loop-i l = string_bytes l.text ≡ string_bytes l.fn.text ++ numbered (slot_line l.types (member_of l.member)) 0 (take l.i (map plain l.values))
