-- What is pending at earlier places.
use Rattle.std.proofs.Common.{◌≡◌, ℕ, List, Some, subst}
use Rattle.std.specs.Prelude.{slice_get}
use Rattle.ioa_code.specs.declared.pending.Pending.{Pending}
use Rattle.ioa_code.specs.declared.pending.Pending.TheVariants.{Stack}
use Rattle.ioa_code.specs.Stacks.{Numbering, IsNumber}
use Rattle.ioa_code.specs.Valid.{Part}
use Rattle.ioa_code.specs.Pending.{Represents, Reached}
use Rattle.ioa_code.proofs.Numbered.{is_number}

pub number_pending : (part : Part) (s : Numbering) (pending : List Pending) (place k j : ℕ) → Reached part s pending place → slice_get pending k ≡ Some (Stack j) → IsNumber s j
number_pending part s pending place k j r e =
    let m = subst (λ o. Represents s.nodes o (r.brought k)) e (r.holds k) in is_number s j m.0 m.2
