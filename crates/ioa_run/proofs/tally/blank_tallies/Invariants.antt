use Rattle.std.proofs.Common.{◌≡◌, map, take}
use Rattle.ioa_compile.specs.Shown.{member_code}
use Rattle.ioa_run.specs.Tallies.{blank, tally_of}
use Rattle.ioa_run.proofs.tally.blank_tallies.Given as goal

-- a blank one for each component so far
abbrev pub invariant-loop-member : goal.invariant-loop-member
invariant-loop-member l = map tally_of l.tallies.items ≡ map blank (map member_code (take l.member-index l.members))
