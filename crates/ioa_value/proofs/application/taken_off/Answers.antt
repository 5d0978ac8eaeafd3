use Rattle.std.proofs.Common.{◌≡◌, ◌-◌, length, sym, ap, ◌∙◌, subst, arith, rules}
use Rattle.ioa_value.specs.Operators.{arity, operate, Takes}
use Rattle.ioa_value.proofs.LentLemmas.{few_values}
use Rattle.ioa_value.proofs.StackLemmas.{top_of, below_of}
use Rattle.ioa_value.proofs.application.taken_off.Goals as goal
use Rattle.ioa_value.proofs.application.taken_off.Goals.{After-deref}

-- where the operands begin
from : (c : After-deref) → c.len.result - c.arity.result ≡ length c.args.stack.now.items - arity c.args.types.now c.args.op
from c = omega (arith, c.args.stack.now.ok.0, c.len.ensures, c.arity.ensures)

pub lent-requires : goal.lent-requires
lent-requires c =
    let types = c.args.types.now in
    let op = c.args.op in
    few_values types op _ (subst (Takes types op) (sym (top_of types op c.args.stack.now.items _ (from (goal.at.lent-requires c).After-deref) c.deref.result.now c.deref.ensures.value)) c.requires) (search rules)

pub computed-outcome-requires-clause-takes : goal.computed-outcome-requires-clause-takes
computed-outcome-requires-clause-takes c =
    let types = c.args.types.now in
    let op = c.args.op in
    (types, subst (Takes types op) (sym (c.lent.ensures ∙ top_of types op c.args.stack.now.items _ (from (goal.at.computed-outcome-requires-clause-takes c).After-deref) c.deref.result.now c.deref.ensures.value)) c.requires)

pub returns : goal.returns
returns c =
    let types = c.args.types.now in
    let op = c.args.op in
    let stack = c.args.stack.now.items in
    let k = from (goal.at.returns c).After-deref in
    (c.computed-outcome.ensures types ∙ ap (operate types op) (c.lent.ensures ∙ top_of types op stack _ k c.deref.result.now c.deref.ensures.value), below_of types op stack _ k c.truncate.new.self.items c.truncate.ensures.items)
