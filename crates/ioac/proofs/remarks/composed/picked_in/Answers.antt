use Rattle.std.proofs.Common.{◌≡◌, Some, IfSome, string_bytes, subst, sym}
use Rattle.std.specs.Option.{option_copied}
use Rattle.ioa_tree.specs.Compositions.{picked}
use Rattle.ioa_tree.specs.Tree.{CompositionTree}
use Rattle.ioa_tree.specs.View.{assembly_of, tree_of}
use Rattle.ioa_compose.specs.Refusals.{IsRefused}
use Rattle.ioa_causes.proofs.Found.{if_found}
use Rattle.ioac.specs.declared.remarks.composed.Said.{Said}
use Rattle.ioac.specs.Composed.{IsRefusedAs, TellsRefused}
use Rattle.ioac.proofs.remarks.composed.picked_in.Goals as goal

-- the composition that is picked is the one that is refused
pub returns : goal.returns
returns c =
    let ts = c.args.placed.now.tokens.items in
    let ds = c.args.placed.now.checked in
    let name = option_copied c.args.name in
    let e = c.args.failure.now in
    let a = c.in-Some.assembly.now in
    let r = c.in-Some-2.refusal in
    let picks : picked (tree_of ds) name ≡ Some (assembly_of a) = subst (λ d. picked (tree_of d) name ≡ Some (assembly_of a)) c.declarations-declarations.ensures.value (sym c.in-Some.ensures) in
    let refused : (t : CompositionTree) → picked (tree_of ds) name ≡ Some t → IsRefused (tree_of ds) t r =
    subst (λ o. IfSome o (λ q. (t : CompositionTree) → picked (tree_of ds) name ≡ Some t → IsRefused (tree_of ds) t q)) c.in-Some-2.is c.in_ok-refusal.ensures in
    if_found (λ (s : Said). TellsRefused ts ds a r e s.line (string_bytes s.words)) (λ (s : Said). IsRefusedAs ts ds name e s.line (string_bytes s.words)) c.said_of.result
    (λ said tells. (a, r, picks, refused (assembly_of a) picks, tells))
    c.said_of.ensures
