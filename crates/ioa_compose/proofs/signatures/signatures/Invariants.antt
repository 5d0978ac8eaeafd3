use Rattle.std.proofs.Common.{◌≡◌, map, take}
use Rattle.ioa_clash.specs.Clashes.{signature_of}
use Rattle.ioa_compose.specs.Signatures.{signature_in}
use Rattle.ioa_compose.proofs.signatures.signatures.Given as goal

abbrev pub invariant-loop-binding : goal.invariant-loop-binding
invariant-loop-binding l = map signature_of l.signatures.items ≡ map signature_in (take l.binding-index l.bindings)
