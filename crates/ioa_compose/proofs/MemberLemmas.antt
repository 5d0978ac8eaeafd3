-- A component at its place.
use Rattle.std.proofs.Common.{◌≡◌, ℕ, zero, suc, ◌<◌, List, [], ◌∷◌, map, length, get_or, sym, subst, arith}
use Rattle.ioa_value.specs.Table.{Table, AreTypes}
use Rattle.ioa_compose.specs.declared.member.Member.{Member}
use Rattle.ioa_compose.specs.Held.{member_of}
use Rattle.ioa_compose.specs.Fine.{IsFine, AllFine, AreOver}
use Rattle.ioa_crash.specs.Limits.{component_limits}

pub fine_at : (xs : List Member) (i : ℕ) (x : Member) → AllFine component_limits (map member_of xs) → i < length xs → x ≡ get_or xs i x → IsFine component_limits (member_of x)
fine_at [] i x h lt e = absurd (omega arith)
fine_at (y ∷ ys) zero x h lt e = subst (λ z. IsFine component_limits (member_of z)) (sym e) h.0
fine_at (y ∷ ys) (suc i) x h lt e = fine_at ys i x h.1 (omega arith) e

pub declared_at : (types : Table) (xs : List Member) (i : ℕ) (x : Member) → AreTypes types → AreOver types (map member_of xs) → i < length xs → x ≡ get_or xs i x → AreTypes x.types
declared_at types [] i x d h lt e = absurd (omega arith)
declared_at types (y ∷ ys) zero x d h lt e = subst (λ z. AreTypes z.types) (sym e) (subst AreTypes (sym h.0) d)
declared_at types (y ∷ ys) (suc i) x d h lt e = declared_at types ys i x d h.1 (omega arith) e
