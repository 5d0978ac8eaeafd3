use Rattle.std.proofs.Common.{◌≡◌, drop}
use Rattle.ioac.specs.UnseenLines.{instance_named}
use Rattle.ioac.proofs.remarks.unseen_lines.instance_named.Given as goal

-- the first that is left is the first of all
abbrev pub invariant-loop-instance : goal.invariant-loop-instance
invariant-loop-instance l = instance_named l.name (drop l.instance-index l.instances) ≡ instance_named l.name l.instances
