use Rattle.std.proofs.Common.{◌≡◌, subst, take}
use Rattle.std.specs.Prelude.{IfSome}
use Rattle.ioa_tree.specs.Types.{types_of}
use Rattle.ioa_tree.specs.View.{tree_of}
use Rattle.ioa_causes.proofs.LegalFronts.{legal_front}
use Rattle.ioa_causes.proofs.mistyped.mistyped_words.Goals as goal

pub types_before-requires : goal.types_before-requires
types_before-requires c = legal_front c.args.declarations.now _ c.requires

-- the types are those of the declarations before the place
pub returns-in-Some-misfit_in : goal.returns-in-Some-misfit_in
returns-in-Some-misfit_in c = (
  c.min-place.result,
  c.in-Some.types,
  c.in-Some-misfit_in.misfit,
  subst (λ o. IfSome o (λ types. types ≡ types_of (tree_of (take c.min-place.result c.args.declarations.now)))) c.in-Some.is c.in_ok-types.ensures,
  c.in-Some-misfit_in.ensures,
  c.in_ok-misfit_words-in-Some-misfit_in.ensures,
)
