use Rattle.std.proofs.Common.{◌≡◌, drop}
use Rattle.ioa_causes.specs.Composing.{among}
use Rattle.ioac.proofs.remarks.unseen_lines.name_among.Given as goal

-- the first that is left is the first of all
abbrev pub invariant-loop-own : goal.invariant-loop-own
invariant-loop-own l = among l.name (drop l.own-index l.names) ≡ among l.name l.names
