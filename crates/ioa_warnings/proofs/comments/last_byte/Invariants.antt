use Rattle.std.proofs.Common.{◌≡◌, drop}
use Rattle.std.specs.Option.{option_or}
use Rattle.ioa_warnings.specs.Comments as spec
use Rattle.ioa_warnings.proofs.comments.last_byte.Given as goal

-- it is the last one of what is left, and otherwise the last one so far
abbrev pub invariant-loop-byte : goal.invariant-loop-byte
invariant-loop-byte l = option_or (spec.last_byte (drop l.byte-index l.text)) l.last ≡ spec.last_byte l.text
