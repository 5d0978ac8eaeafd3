-- The code that proposes, in a program.
use Rattle.std.proofs.Common.{◌≡◌, ℕ, zero, suc, List, [], ◌∷◌, Some, subst}
use Rattle.std.specs.Prelude.{slice_get}
use Rattle.ioa_value.specs.Table.{Table}
use Rattle.ioa_code.specs.declared.instr.PartKind.TheVariants.{Propose}
use Rattle.ioa_code.specs.Valid.{Part}
use Rattle.ioa_tree.specs.declared.tree.Kind.{Kind}
use Rattle.ioa_tree.specs.declared.tree.Kind.TheVariants.{Input, Output, Internal}
use Rattle.ioa_compile.specs.Programs.{EntryCode, MemberCode, Prog}
use Rattle.ioa_compile.specs.Tables.{AreEntries, AreMembers, HasLocal, IsEntry, IsMember, IsPart, IsProgram, parameter_types}

member_got : (types : Table) (ms : List MemberCode) (i : ℕ) (m : MemberCode) → AreMembers types ms → slice_get ms i ≡ Some m → IsMember types m
member_got types [] i m h e = absurd (cc)
member_got types (x ∷ ms) zero m h e = let q : x ≡ m = cc in subst (IsMember types) q h.0
member_got types (x ∷ ms) (suc i) m h e = member_got types ms i m h.1 e

entry_got : (m : MemberCode) (es : List EntryCode) (i : ℕ) (d : EntryCode) → AreEntries m es → slice_get es i ≡ Some d → IsEntry m d
entry_got m [] i d h e = absurd (cc)
entry_got m (x ∷ es) zero d h e = let q : x ≡ d = cc in subst (IsEntry m) q h.0
entry_got m (x ∷ es) (suc i) d h e = entry_got m es i d h.1 e

local_got : (P : Part → Type 0) (k : Kind) (p : Part) → HasLocal P k (Some p) → P p
local_got P Input p h = absurd h
local_got P Output p h = h
local_got P Internal p h = h

pub proposing : (p : Prog) (i j : ℕ) (m : MemberCode) (d : EntryCode) (part : Part) → IsProgram p → slice_get p.members i ≡ Some m → slice_get m.entries j ≡ Some d → d.propose ≡ Some part
    → IsPart m Propose [] (parameter_types d.positions) part
proposing p i j m d part s mi dj has =
    let entry : IsEntry m d = entry_got m m.entries j d (member_got p.types p.members i m s.members mi).entries dj in
    local_got (IsPart m Propose [] (parameter_types d.positions)) d.kind part (subst (λ o. HasLocal (IsPart m Propose [] (parameter_types d.positions)) d.kind o) has entry.propose)
