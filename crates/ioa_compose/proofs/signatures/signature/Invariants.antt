use Rattle.std.proofs.Common.{◌≡◌, map, take}
use Rattle.ioa_tree.specs.View.{entry_of}
use Rattle.ioa_clash.specs.Clashes.{signed_of}
use Rattle.ioa_compose.specs.Signatures.{domains_in, signed_entries}
use Rattle.ioa_compose.proofs.signatures.signature.Given as goal

abbrev pub invariant-loop-k : goal.invariant-loop-k
invariant-loop-k l =
    map signed_of l.signature.items ≡ signed_entries (map entry_of (take l.k l.binding.own.entries.items)) (map domains_in (take l.k l.binding.positions.items))
