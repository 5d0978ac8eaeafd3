use Rattle.std.proofs.Common.{ℕ, ◌<◌, length, map}
use Rattle.ioa_clash.specs.Clashes.{signature_of, IsClearTill}
use Rattle.ioa_clash.proofs.clashes.first_clash.Given as goal

abbrev pub invariant-loop-i : goal.invariant-loop-i
invariant-loop-i l = (k : ℕ) → k < l.i → IsClearTill l.types (map signature_of l.signatures) k (length l.signatures)
