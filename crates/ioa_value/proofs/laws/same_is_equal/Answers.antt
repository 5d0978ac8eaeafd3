use Rattle.ioa_value.proofs.SameLemmas.{same_equal, same-refl}
use Rattle.std.proofs.Common.{subst, IsTrue}
use Rattle.ioa_value.specs.Same.{same}
use Rattle.ioa_value.proofs.laws.same_is_equal.Goals as goal

pub returns : goal.returns
returns c = λ v w. (same_equal v w, λ e. subst (λ x. IsTrue (same v x)) e (same-refl v))
