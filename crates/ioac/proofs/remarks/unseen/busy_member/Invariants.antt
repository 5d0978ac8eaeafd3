use Rattle.std.proofs.Common.{◌≡◌, drop}
use Rattle.std.specs.Prelude.{find}
use Rattle.ioac.specs.Unseen.{is_busy}
use Rattle.ioac.proofs.remarks.unseen.busy_member.Given as goal

-- the first that is left is the first of all
abbrev pub invariant-loop-member : goal.invariant-loop-member
invariant-loop-member l = find is_busy (drop l.member-index l.members) ≡ find is_busy l.members
