-- A place in some bytes from which they are read.
use Rattle.std.specs.Prelude.{ℕ, List, refl}
use Rattle.std.specs.Coded.{Coded, code_by, coded×, coded_ℕ, coded_list}

-- how many bytes came before, those that are to come, and how many parts of code came before
pub record Spot : Type 0 where
  pub place : ℕ
  pub rest : List ℕ
  pub parts : ℕ

abbrev pub coded_spot : Coded Spot
coded_spot =
    code_by (ℕ × (List ℕ × ℕ)) (coded× coded_ℕ (coded× (coded_list coded_ℕ) coded_ℕ)) (λ c. (c.place, (c.rest, c.parts))) (λ p. record { place = p.0; rest = p.1.0; parts = p.1.1 }) (λ _. refl)
