-- What an object gives.
use Rattle.std.proofs.Common.{◌≡◌, ◌∙◌, ℕ, List, Option, true, false, sym, subst}
use Rattle.ioa_value.specs.Actions.{Name}
use Rattle.ioa_compile.specs.Programs.{Prog}
use Rattle.ioa_compile.specs.Subjects.{RunsAs, Subject, of_composition, of_hosts, of_table}
use Rattle.ioa_serving.specs.Headline.{IsFileOf, IsObjectOf, begins_object}

-- the program that it is the object of
pub object_gives : (bytes : List ℕ) (name : Option Name) (p : Prog) → begins_object bytes ≡ true → (s : Subject) × IsFileOf bytes name s × RunsAs p s → IsObjectOf bytes name p
object_gives bytes name p begins (of_hosts h, gives, runs) = absurd (no_both (sym begins ∙ gives.0))
  where
    no_both : true ≡ false → ⊥
    no_both e = cc
object_gives bytes name p begins (of_composition d, gives, runs) = absurd gives
object_gives bytes name p begins (of_table q, gives, runs) = subst (IsObjectOf bytes name) (sym runs) gives
