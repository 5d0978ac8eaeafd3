-- Positions of signatures: the values that an action may have in a place.
use Rattle.std.specs.Prelude.{ℕ, ◌<◌, ◌==◌, ◌&&◌, Bool, true, false, List, [], ◌∷◌, length}
use Rattle.ioa_value.specs.declared.positions.Position.{Position}
use Rattle.ioa_value.specs.declared.positions.Position.TheVariants.{Typed, Constant}
use Rattle.ioa_value.specs.Plain.{Val, plain}
use Rattle.ioa_value.specs.Same.{same}
use Rattle.ioa_value.specs.Table.{Table}
use Rattle.ioa_value.specs.Typing.{HasType, is_of, own}

-- every value of a type, or a single value
pub data Domain : Type 0 where
  every : ℕ → Domain
  single : Val → Domain

-- the value is one of the domain's
abbrev pub takes : Table → Domain → Val → Bool
takes types (every ty) v = is_of types v ty
takes types (single w) v = same w v

-- the values are of the domains, one for each
abbrev pub all_take : Table → List Domain → List Val → Bool
all_take types [] [] = true
all_take types [] (v ∷ vs) = false
all_take types (d ∷ ds) [] = false
all_take types (d ∷ ds) (v ∷ vs) = takes types d v && all_take types ds vs

-- some value is of both domains: every type has a value
abbrev pub meets : Table → Domain → Domain → Bool
meets types (every s) (every t) = s == t
meets types (every s) (single w) = is_of types w s
meets types (single v) (every t) = is_of types v t
meets types (single v) (single w) = same v w

-- some values are of both lists of domains
abbrev pub all_meet : Table → List Domain → List Domain → Bool
all_meet types [] [] = true
all_meet types [] (e ∷ es) = false
all_meet types (d ∷ ds) [] = false
all_meet types (d ∷ ds) (e ∷ es) = meets types d e && all_meet types ds es

-- the type of the domain's values
abbrev pub domain_type : Domain → ℕ
domain_type (every ty) = ty
domain_type (single v) = own v

-- the domain has a value: its type is declared, or its one value is of the type that it says it has
abbrev pub IsDomain : Table → Domain → Type 0
IsDomain types (every ty) = ty < length types
IsDomain types (single v) = HasType types v (own v)

-- a position without the memory that holds it
abbrev pub domain_of : Position → Domain
domain_of (Typed ty) = every ty.0
domain_of (Constant v) = single (plain v)
