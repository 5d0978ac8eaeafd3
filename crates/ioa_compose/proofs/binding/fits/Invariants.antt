use Rattle.std.proofs.Common.{◌≡◌, map, drop, length}
use Rattle.ioa_value.specs.Plain.{plain}
use Rattle.ioa_tree.specs.View.{field_of}
use Rattle.ioa_compose.specs.Bindings.{fit}
use Rattle.ioa_compose.proofs.binding.fits.Given as goal

abbrev pub invariant-loop-i : goal.invariant-loop-i
invariant-loop-i l = (length l.fields ≡ length l.values) × (fit l.types (map field_of (drop l.i l.fields)) (map plain (drop l.i l.values)) ≡ fit l.types (map field_of l.fields) (map plain l.values))
