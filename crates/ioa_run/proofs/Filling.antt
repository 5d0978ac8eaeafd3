-- Values that stand in the places of all parameters already.
use Rattle.std.proofs.Common.{◌≡◌, List, [], ◌∷◌, length, map, All, refl, ap, ◌∙◌, arith}
use Rattle.std.proofs.lemmas.List.Elements.{All-head, All-tail}
use Rattle.ioa_value.specs.Plain.{Val}
use Rattle.ioa_value.specs.Positions.{Domain, every, single, domain_of}
use Rattle.ioa_value.specs.declared.positions.Position.{Position}
use Rattle.ioa_run.specs.Proposers.{filled}

-- the position is a parameter's
abbrev pub IsFree : Domain → Type 0
IsFree (every ty) = Unit {0}
IsFree (single c) = ⊥

abbrev pub IsFreeAt : Position → Type 0
IsFreeAt p = IsFree (domain_of p)

free_first : (d : Domain) (ds : List Domain) (v : Val) (vs : List Val) → IsFree d → filled (d ∷ ds) (v ∷ vs) ≡ v ∷ filled ds vs
free_first (every ty) ds v vs h = refl
free_first (single c) ds v vs h = absurd h

pub filled_free : (ps : List Position) (vs : List Val) → All IsFreeAt ps → length vs ≡ length ps → filled (map domain_of ps) vs ≡ vs
filled_free [] [] a l = refl
filled_free [] (v ∷ vs) a l = absurd (omega (arith, l))
filled_free (p ∷ ps) [] a l = absurd (omega (arith, l))
filled_free (p ∷ ps) (v ∷ vs) a l =
    free_first (domain_of p) (map domain_of ps) v vs (All-head IsFreeAt p ps a) ∙ ap (λ ws. v ∷ ws) (filled_free ps vs (All-tail IsFreeAt p ps a) (omega (arith, l)))
