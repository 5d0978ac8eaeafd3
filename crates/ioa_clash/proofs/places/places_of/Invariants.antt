use Rattle.std.proofs.Common.{map}
use Rattle.ioa_clash.specs.Clashes.{signature_of}
use Rattle.ioa_clash.specs.Index.{entry_name, place_of}
use Rattle.ioa_clash.proofs.IndexLemmas.{LeavesIn}
use Rattle.ioa_clash.proofs.places.places_of.Given as goal

abbrev pub invariant-loop-component : goal.invariant-loop-component
invariant-loop-component l = LeavesIn entry_name place_of l.index l.component (map signature_of l.signatures)
