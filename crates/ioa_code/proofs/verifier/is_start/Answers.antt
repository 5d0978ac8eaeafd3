use Rattle.std.proofs.Common.{◌≡◌, ℕ, List, Some, sym, ◌∙◌, subst}
use Rattle.ioa_code.specs.Pending.{Represents}
use Rattle.ioa_code.specs.Scan.{same_types}
use Rattle.ioa_code.specs.Stacks.{IsStack}
use Rattle.ioa_code.proofs.Starting.{starts_empty, starts_other, starts_same}
use Rattle.ioa_code.proofs.verifier.is_start.Goals as goal

pub returns-then-same : goal.returns-then-same
returns-then-same c b ts m h =
    let s = c.args.stacks.now in
    let m' = subst (λ x. Represents s.nodes (Some x) b) c.in-Stack.is m in
    starts_same c.args.types.now s c.in-Stack.list b m' c.args.stack ts h (c.in-Some.below, c.in-Some.item) (sym c.top.ensures.node ∙ c.in-Some.is) c.is_item.result
    (subst (λ x. (us vs : List ℕ) → IsStack s.nodes c.in-Some.below us → IsStack s.nodes c.in-Stack.list vs → x ≡ same_types us vs) c.if-same.true c.same.ensures) c.is_item.ensures

pub returns-else-same : goal.returns-else-same
returns-else-same c b ts m h =
    let s = c.args.stacks.now in
    let m' = subst (λ x. Represents s.nodes (Some x) b) c.in-Stack.is m in
    starts_other c.args.types.now s c.in-Stack.list b m' c.args.stack ts h (c.in-Some.below, c.in-Some.item) (sym c.top.ensures.node ∙ c.in-Some.is)
    (subst (λ x. (us vs : List ℕ) → IsStack s.nodes c.in-Some.below us → IsStack s.nodes c.in-Stack.list vs → x ≡ same_types us vs) c.if-same.false c.same.ensures)

pub returns-in-None : goal.returns-in-None
returns-in-None c b ts m h =
    let s = c.args.stacks.now in
    let m' = subst (λ x. Represents s.nodes (Some x) b) c.in-Stack.is m in
    starts_empty c.args.types.now s c.in-Stack.list b m' c.args.stack ts h (sym c.top.ensures.node ∙ c.in-None.is)
