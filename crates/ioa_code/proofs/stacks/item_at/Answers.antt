use Rattle.std.proofs.Common.{sym, ap, ◌∙◌, arith}
use Rattle.std.specs.Option.{option_map}
use Rattle.ioa_value.specs.Plain.{number}
use Rattle.ioa_code.proofs.Items.{looks_first, item_found, item_below, item_under, item_past, item_missing}
use Rattle.ioa_code.proofs.stacks.item_at.Goals as goal

pub loop-stack-init : goal.loop-stack-init
loop-stack-init c = looks_first c.args.stacks.now c.args.stack c.args.d c.requires

pub height-requires : goal.height-requires
height-requires c = c.loop-stack.invariant.0

pub returns-in_err-below : goal.returns-in_err-below
returns-in_err-below c ts h =
    ap (option_map number) c.from_residual.ensures ∙ item_missing c.args.stacks.now c.args.stack c.loop-stack.at c.args.d c.loop-stack.invariant (sym c.top.ensures.node ∙ c.in_err-below.was) ts h

pub returns-then-height-d : goal.returns-then-height-d
returns-then-height-d c =
    item_found c.args.stacks.now c.args.stack c.loop-stack.at c.args.d c.height-in-loop-stack.result (c.in_ok-below.below, c.in_ok-below.ty) c.loop-stack.invariant (sym c.top.ensures.node ∙ c.in_ok-below.was) c.height-in-loop-stack.ensures c.if-height-d.true

pub depth_of-under-requires : goal.depth_of-under-requires
depth_of-under-requires c = c.loop-stack.invariant.0

pub height-requires-in-loop-stack-2 : goal.height-requires-in-loop-stack-2
height-requires-in-loop-stack-2 c =
    let earlier = c.depth_of-under.ensures.is.earlier in
    let number = c.loop-stack.invariant.0 in
    omega arith

pub loop-stack-smaller-then-d-height : goal.loop-stack-smaller-then-d-height
loop-stack-smaller-then-d-height c =
    let earlier = c.depth_of-under.ensures.is.earlier in
    let below = c.in_ok-below.ensures.earlier in
    omega arith

pub loop-stack-preserved-then-d-height : goal.loop-stack-preserved-then-d-height
loop-stack-preserved-then-d-height c =
    let earlier = c.depth_of-under.ensures.is.earlier in
    let number = c.loop-stack.invariant.0 in
    item_under c.args.stacks.now c.args.stack c.loop-stack.at c.args.d c.depth_of-under.result.under c.height-in-loop-stack-2.result c.loop-stack.invariant (omega arith) c.depth_of-under.ensures.is.beneath c.height-in-loop-stack-2.ensures c.if-d-height.true

pub loop-stack-smaller : goal.loop-stack-smaller
loop-stack-smaller c = c.in_ok-below.ensures.earlier

pub loop-stack-preserved : goal.loop-stack-preserved
loop-stack-preserved c =
    item_below c.args.stacks.now c.args.stack c.loop-stack.at c.args.d c.height-in-loop-stack.result (c.in_ok-below.below, c.in_ok-below.ty) c.loop-stack.invariant (sym c.top.ensures.node ∙ c.in_ok-below.was) c.height-in-loop-stack.ensures c.in_ok-below.ensures.number c.if-height-d.false

pub returns : goal.returns
returns c = item_past c.args.stacks.now c.args.stack c.loop-stack.at c.args.d c.height.result c.loop-stack.invariant c.height.ensures (omega (arith, c.loop-stack-test.false))
