-- A combination of values by its number, place by place: the value of a place is that of the remainder, and the quotient goes on to the next.
use Rattle.std.proofs.Common.{◌≡◌, ℕ, zero, suc, ◌+◌, ◌<◌, ◌/◌, ◌%◌, List, [], ◌∷◌, ◌++◌, length, append_assoc, append-nil, map, Option, Some, None, refl, sym, ap, ap₂, ◌∙◌, arith}
use Rattle.std.specs.Prelude.{slice_get}
use Rattle.std.specs.Option.{option_map}
use Rattle.ioa_value.specs.Plain.{Val}
use Rattle.ioa_enabled.specs.Offers.{picked}
use Rattle.ioa_enabled.specs.Sampled.{both}

-- the values so far, and what is picked behind them
abbrev pub behind : List Val → Option (List Val) → Option (List Val)
behind vs o = option_map (λ us. vs ++ us) o

pub begins : (o : Option (List Val)) → behind [] o ≡ o
begins None = refl
begins (Some us) = refl

one_more : (vs : List Val) (v : Val) (o : Option (List Val)) → behind vs (both (Some v) o) ≡ behind (vs ++ v ∷ []) o
one_more vs v None = refl
one_more vs v (Some us) = ap Some (sym (append_assoc vs (v ∷ []) us))

-- a place without values
pub nothing_there : (vs : List Val) (column : List Val) (rest : List (List Val)) (left : ℕ) → length column ≡ 0 → behind vs (picked (column ∷ rest) left) ≡ None
nothing_there vs [] rest left none = refl
nothing_there vs (x ∷ xs) rest left none = absurd (omega (arith, none))

-- the value of a place
pub picks_one : (vs : List Val) (column : List Val) (rest : List (List Val)) (left : ℕ) (v : Val) → slice_get column (left % length column) ≡ Some v
    → behind vs (picked (column ∷ rest) left) ≡ behind (vs ++ v ∷ []) (picked rest (left / length column))
picks_one vs column rest left v at =
    ap (λ o. behind vs (both o (picked rest (left / length column)))) at ∙ one_more vs v (picked rest (left / length column))

-- behind the last place
pub picks_last : (vs : List Val) (left : ℕ) → left ≡ 0 → behind vs (picked [] left) ≡ Some vs
picks_last vs zero e = ap Some (append-nil vs)
picks_last vs (suc n) e = absurd (cc)

pub past_all : (vs : List Val) (left : ℕ) → (left ≡ 0 → ⊥) → behind vs (picked [] left) ≡ None
past_all vs zero e = absurd (e refl)
past_all vs (suc n) e = refl
