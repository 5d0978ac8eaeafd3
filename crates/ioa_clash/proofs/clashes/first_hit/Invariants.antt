use Rattle.std.proofs.Common.{map}
use Rattle.ioa_clash.specs.Clashes.{signed_of, signature_of}
use Rattle.ioa_clash.proofs.SearchLemmas.{IsHitAmong}
use Rattle.ioa_clash.proofs.clashes.first_hit.Given as goal

abbrev pub invariant-loop-k : goal.invariant-loop-k
invariant-loop-k l = IsHitAmong l.types (map signature_of l.signatures) (signed_of l.entry) l.start l.fn.end l.places l.k l.first
