use Rattle.std.proofs.Common.{◌≡◌, Some, subst, sym}
use Rattle.std.specs.Option.{option_copied}
use Rattle.ioa_tree.specs.Compositions.{picked}
use Rattle.ioa_tree.specs.View.{assembly_of, tree_of}
use Rattle.ioac.specs.UnseenLines.{IsUnseenOn}
use Rattle.ioac.proofs.remarks.composed.line_among.Goals as goal

-- the composition is the one that is picked, and the tokens that are lent are those that were kept
pub returns : goal.returns
returns c =
    let ds = c.args.placed.now.checked in
    let a = c.in_ok-assembly.assembly.now in
    let u = c.args.unseen in
    let line = c.in_ok-line.line in (
      a,
      subst (λ d. picked (tree_of d) (option_copied c.args.composition) ≡ Some (assembly_of a)) c.declarations-declarations.ensures.value (sym c.in_ok-assembly.ensures),
      subst (λ ts. IsUnseenOn ts ds a u line) c.as_slice.ensures.value
          (subst (λ d. IsUnseenOn c.as_slice.result.now d a u line) c.declarations-declarations.ensures.value c.in_ok-line.ensures),
    )
