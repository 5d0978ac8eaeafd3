use Rattle.std.proofs.Common.{◌≡◌, drop}
use Rattle.ioa_warnings.specs.Comments as spec
use Rattle.ioa_warnings.proofs.operands.is_operand.Given as goal

-- what is left reads on from here as all does from its beginning
abbrev pub invariant-loop-byte : goal.invariant-loop-byte
invariant-loop-byte l = spec.reads_on l.reading (drop l.byte-index l.text) ≡ spec.is_operand l.text
