use Rattle.std.proofs.Common.{◌≡◌, [], ◌∷◌, ◌++◌, Some, refl, sym, ap, ◌∙◌, subst}
use Rattle.ioa_value.specs.Table.{capacity}
use Rattle.ioa_code.specs.Bound.{capacity_on}
use Rattle.ioa_code.specs.Machine.{on_top}
use Rattle.ioa_code.specs.Pending.{Represents}
use Rattle.ioa_code.specs.Scan.{types_in}
use Rattle.ioa_code.proofs.Lists.{on_top-append}
use Rattle.ioa_code.proofs.Nodes.{split_top}
use Rattle.ioa_code.proofs.Starting.{no_top}
use Rattle.ioa_code.proofs.bounds.turns.Goals as goal

pub returns-in-Some-clause-value : goal.returns-in-Some-clause-value
returns-in-Some-clause-value c b m =
    let nodes = c.args.stacks.now.nodes in
    let types = c.args.types.now in
    let x = subst (λ p. Represents nodes (Some p) b) c.in-Stack.is m in
    let y = split_top nodes c.in-Stack.stack (c.in-Some.field-0-0, c.in-Some.ty) x.0 x.2 (sym c.top.ensures.node ∙ c.in-Some.is) in
    let there : types_in b ≡ y.0 ++ c.in-Some.ty ∷ [] = ap types_in x.1 ∙ y.1 in
    let found : on_top 1 (types_in b) 0 (λ below top. capacity_on types top) ≡ capacity types c.in-Some.ty =
    ap (λ l. on_top 1 l 0 (λ below top. capacity_on types top)) there ∙ on_top-append 1 y.0 (c.in-Some.ty ∷ []) 0 (λ below top. capacity_on types top) refl in
    c.capacity.ensures.value ∙ sym found

pub returns-in-None-clause-value : goal.returns-in-None-clause-value
returns-in-None-clause-value c b m =
    let nodes = c.args.stacks.now.nodes in
    let types = c.args.types.now in
    let x = subst (λ p. Represents nodes (Some p) b) c.in-Stack.is m in
    let there : types_in b ≡ [] = ap types_in x.1 ∙ no_top nodes c.in-Stack.stack x.0 x.2 (sym c.top.ensures.node ∙ c.in-None.is) in
    sym (ap (λ l. on_top 1 l 0 (λ below top. capacity_on types top)) there)
