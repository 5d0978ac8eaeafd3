use Rattle.std.proofs.Common.{append_assoc}
use Rattle.ioa_serving.proofs.invariant_replay.broken_text.Goals as goal

pub returns : goal.returns
returns c = simp append_assoc (rw c.new-text.ensures.bytes at c.in_ok-writeln.ensures.bytes)
