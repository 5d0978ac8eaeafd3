-- Versions of the format: version 2 has the instructions of loops, version 1 has not.
use Rattle.std.specs.Prelude.{◌≡◌, ℕ, zero, suc, Bool, true, false, not, ◌&&◌, ◌||◌, Option, Some, None}
use Rattle.std.specs.List.{list_any}
use Rattle.ioa_code.specs.Loops.{has_loops}
use Rattle.ioa_code.specs.Valid.{Part}
use Rattle.ioa_compile.specs.Programs.{EntryCode, MemberCode, Prog}

-- ---- what has loops: some part has an instruction of loops

abbrev pub part_loops : Part → Bool
part_loops part = has_loops part.code.instrs

abbrev pub local_loops : Option Part → Bool
local_loops (Some part) = part_loops part
local_loops None = false

abbrev pub entry_loops : EntryCode → Bool
entry_loops e = local_loops e.pre || (local_loops e.propose || part_loops e.effect)

abbrev pub member_loops : MemberCode → Bool
member_loops m = list_any entry_loops m.entries

abbrev pub loops_in : Prog → Bool
loops_in p = list_any member_loops p.members

-- where loops may stand, or there are none
abbrev pub MayStand : Bool → Bool → Type 0
MayStand loops has = has ≡ true → loops ≡ true

-- loops may stand, and there are none
abbrev pub is_needless : Bool → Bool → Bool
is_needless loops has = loops && not has

-- ---- their bytes

-- of the version with loops, or the one without
abbrev pub version_byte : Bool → ℕ
version_byte false = 1
version_byte true = 2

-- whether loops may stand under the version of this byte, if it is a version's
abbrev pub version_of : ℕ → Option Bool
version_of zero = None
version_of (suc zero) = Some false
version_of (suc (suc zero)) = Some true
version_of (suc (suc (suc n))) = None
