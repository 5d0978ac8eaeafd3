use Rattle.std.proofs.Common.{length, map}
use Rattle.ioa_clash.specs.Clashes.{signature_of}
use Rattle.ioa_clash.proofs.SearchLemmas.{IsBest}
use Rattle.ioa_clash.proofs.clashes.first_of.Given as goal

abbrev pub invariant-loop-k : goal.invariant-loop-k
invariant-loop-k l = IsBest l.types (map signature_of l.signatures) (length l.signatures) l.i l.k l.end l.first
