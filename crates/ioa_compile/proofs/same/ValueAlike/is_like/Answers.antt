use Rattle.std.proofs.Common.{IsTrue, sym, ◌∙◌, subst}
use Rattle.ioa_value.specs.Plain.{plain}
use Rattle.ioa_value.specs.Same as spec
use Rattle.ioa_value.proofs.SameLemmas.{same_equal, same-refl}
use Rattle.ioa_compile.proofs.same.ValueAlike.is_like.Goals as goal

pub returns : goal.returns
returns c =
    let v = plain c.args.self.now in
    (λ t. same_equal v (plain c.args.other.now) (sym c.same.ensures ∙ t), λ e. c.same.ensures ∙ subst (λ w. IsTrue (spec.same v w)) e (same-refl v))
