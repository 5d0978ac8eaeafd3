use Rattle.std.proofs.Common.{◌≡◌, ◌++◌, take, string_bytes}
use Rattle.std.specs.List.{flat_map}
use Rattle.ioac.specs.Hints.{like_line}
use Rattle.ioac.proofs.remarks.entries.put_like.Given as goal

-- the lines of the components so far
abbrev pub invariant-loop-member : goal.invariant-loop-member
invariant-loop-member l = string_bytes l.text ≡ string_bytes l.initial.text ++ flat_map (like_line l.name) (take l.member-index l.members)
