use Rattle.std.proofs.Common.{◌≡◌, length, map, Bool, true, false, Some, refl, sym, ap, ◌∙◌, subst, arith}
use Rattle.std.specs.Prelude.{slice_get}
use Rattle.std.proofs.lemmas.Option.{slice_get_read}
use Rattle.ioa_code.specs.declared.pending.Pending.TheVariants.{Stack}
use Rattle.ioa_code.specs.Parts.{part_for}
use Rattle.ioa_code.specs.Scan.{came, all_forward}
use Rattle.ioa_code.specs.Pending.{RepresentAll, Reached}
use Rattle.ioa_code.specs.Stacks.{listed, LeadsOn}
use Rattle.ioa_code.specs.Valid.{after, fast_at}
use Rattle.ioa_code.proofs.Arriving.{pending_at, none_pending, number_here, lacks_found, back_found, loop_found, is_ahead, reached_kept, goes_on, are_below}
use Rattle.ioa_code.proofs.verifier.step.Goals as goal
use Rattle.ioa_code.proofs.verifier.step.Goals.{In_ok-exits-in-Stack, After-are_forward}

-- the stack that is pending
here : (c : In_ok-exits-in-Stack) → slice_get c.args.pending.now.items c.args.place ≡ Some (Stack c.in-Stack.stack)
here c =
    pending_at (part_for c.args.code.now c.args.env.now) c.args.stacks.now c.args.pending.now.items c.args.place c.requires.reached c.index.result.now c.requires.within c.index.ensures ∙ ap Some c.in-Stack.is

-- the instruction
there : (c : In_ok-exits-in-Stack) → slice_get c.args.code.now.instrs.items c.args.place ≡ Some c.index-instr.result.now
there c =
    slice_get_read c.args.code.now.instrs.items _ c.args.place c.index-instr.result.now refl c.requires.within c.index-instr.ensures

-- what is held
fast : (c : In_ok-exits-in-Stack) → c.held-fast.result ≡ fast_at (part_for c.args.code.now c.args.env.now) (came c.requires.reached.brought) c.args.place
fast c =
    let part = part_for c.args.code.now c.args.env.now in
    c.held-fast.ensures c.requires.reached.brought (subst (λ l. RepresentAll c.args.stacks.now l c.requires.reached.brought) (sym c.deref.ensures.value) c.requires.reached.holds)

-- where the instruction leads
on : (c : In_ok-exits-in-Stack) → LeadsOn c.args.stacks.now c.pass.new.stacks c.in-Stack.stack c.in_ok-exits-in-Stack.field-0 (after (part_for c.args.code.now c.args.env.now) (fast_at (part_for c.args.code.now c.args.env.now) (came c.requires.reached.brought) c.args.place) c.args.place c.index-instr.result.now)
on c =
    let part = part_for c.args.code.now c.args.env.now in
    subst (λ n. LeadsOn c.args.stacks.now c.pass.new.stacks c.in-Stack.stack c.in_ok-exits-in-Stack.field-0 (after part n c.args.place c.index-instr.result.now)) (fast c) c.in_ok-exits-in-Stack.ensures

-- the test of its exits
forward : (c : After-are_forward) (b : Bool) → c.are_forward.result ≡ b → all_forward (length c.args.code.now.instrs.items) c.args.place (map (λ e. e.to) (listed c.in-Ok.exits)) ≡ b
forward c b is =
    let end : c.len.result ≡ length c.args.code.now.instrs.items = c.len.ensures ∙ c.args.code.now.instrs.ok.0 in
    ap (λ n. all_forward n c.args.place (map (λ e. e.to) (listed c.in-Ok.exits))) (sym end) ∙ sym c.are_forward.ensures ∙ is

pub are_closed-requires-clause-reached : goal.are_closed-requires-clause-reached
are_closed-requires-clause-reached c =
    let part = part_for c.args.code.now c.args.env.now in
    let at = (goal.at.are_closed-requires-clause-reached c).In_ok-exits-in-Stack in
    subst (λ l. Reached part c.pass.new.stacks l c.args.place) (sym c.deref-then-are_forward.ensures.value)
    (reached_kept part c.args.stacks.now c.pass.new.stacks c.args.pending.now.items c.args.place c.requires.reached (on at).0)

pub are_closed-requires-clause-ahead : goal.are_closed-requires-clause-ahead
are_closed-requires-clause-ahead c =
    let part = part_for c.args.code.now c.args.env.now in
    let at = (goal.at.are_closed-requires-clause-ahead c).In_ok-exits-in-Stack in
    let instr = c.index-instr.result.now in
    let leads = subst (λ r. LeadsOn c.args.stacks.now c.pass.new.stacks c.in-Stack.stack r (after part (fast_at part (came c.requires.reached.brought) c.args.place) c.args.place instr)) c.in-Ok.is (on at) in
    is_ahead part c.args.stacks.now c.args.pending.now.items c.args.place c.requires.reached c.in-Stack.stack (here at) c.pass.new.stacks instr (there at) c.in-Ok.exits leads (forward (goal.at.are_closed-requires-clause-ahead c).After-are_forward true c.if-are_forward.true)

pub returns-then-are_closed : goal.returns-then-are_closed
returns-then-are_closed c =
    let part = part_for c.args.code.now c.args.env.now in
    let at = (goal.at.returns-then-are_closed c).In_ok-exits-in-Stack in
    let instr = c.index-instr.result.now in
    let leads = subst (λ r. LeadsOn c.args.stacks.now c.pass.new.stacks c.in-Stack.stack r (after part (fast_at part (came c.requires.reached.brought) c.args.place) c.args.place instr)) c.in-Ok.is (on at) in
    goes_on part c.args.stacks.now c.args.pending.now.items c.args.place c.requires.reached c.in-Stack.stack (here at) c.pass.new.stacks instr (there at) c.in-Ok.exits leads c.bring_on.new.pending.items (forward (goal.at.returns-then-are_closed c).After-are_forward true c.if-are_forward.true) c.are_closed.result c.if-are_closed.true
    (λ brought ts h k. c.are_closed.ensures brought ts (subst (λ l. RepresentAll c.pass.new.stacks l brought) (sym c.deref-then-are_forward.ensures.value) h) k)
    c.bring_on.ensures

pub returns-else-are_closed : goal.returns-else-are_closed
returns-else-are_closed c =
    let part = part_for c.args.code.now c.args.env.now in
    let at = (goal.at.returns-else-are_closed c).In_ok-exits-in-Stack in
    let instr = c.index-instr.result.now in
    let leads = subst (λ r. LeadsOn c.args.stacks.now c.pass.new.stacks c.in-Stack.stack r (after part (fast_at part (came c.requires.reached.brought) c.args.place) c.args.place instr)) c.in-Ok.is (on at) in
    loop_found part c.args.stacks.now c.args.pending.now.items c.args.place c.requires.reached c.in-Stack.stack (here at) c.pass.new.stacks instr (there at) c.in-Ok.exits leads (forward (goal.at.returns-else-are_closed c).After-are_forward true c.if-are_forward.true) c.are_closed.result c.if-are_closed.false
    (λ brought ts h k. c.are_closed.ensures brought ts (subst (λ l. RepresentAll c.pass.new.stacks l brought) (sym c.deref-then-are_forward.ensures.value) h) k)

pub bring_on-requires : goal.bring_on-requires
bring_on-requires c =
    let long = c.requires.reached.long in
    let on = forward (goal.at.bring_on-requires c).After-are_forward true c.if-are_forward.true in
    are_below (listed c.in-Ok.exits) (length c.args.code.now.instrs.items) c.args.place (length c.args.pending.now.items) on (omega arith)

pub returns-else-are_forward : goal.returns-else-are_forward
returns-else-are_forward c =
    let part = part_for c.args.code.now c.args.env.now in
    let at = (goal.at.returns-else-are_forward c).In_ok-exits-in-Stack in
    let instr = c.index-instr.result.now in
    let leads = subst (λ r. LeadsOn c.args.stacks.now c.pass.new.stacks c.in-Stack.stack r (after part (fast_at part (came c.requires.reached.brought) c.args.place) c.args.place instr)) c.in-Ok.is (on at) in
    back_found part c.args.stacks.now c.args.pending.now.items c.args.place c.requires.reached c.in-Stack.stack (here at) c.pass.new.stacks instr (there at) c.in-Ok.exits leads (forward (goal.at.returns-else-are_forward c).After-are_forward false c.if-are_forward.false)

pub returns-in-Err : goal.returns-in-Err
returns-in-Err c =
    let part = part_for c.args.code.now c.args.env.now in
    let at = (goal.at.returns-in-Err c).In_ok-exits-in-Stack in
    let instr = c.index-instr.result.now in
    let leads = subst (λ r. LeadsOn c.args.stacks.now c.pass.new.stacks c.in-Stack.stack r (after part (fast_at part (came c.requires.reached.brought) c.args.place) c.args.place instr)) c.in-Err.is (on at) in
    lacks_found part c.args.stacks.now c.args.pending.now.items c.args.place c.requires.reached c.in-Stack.stack (here at) c.pass.new.stacks instr (there at) c.in-Err.why leads

pub returns-in-Nothing : goal.returns-in-Nothing
returns-in-Nothing c =
    let part = part_for c.args.code.now c.args.env.now in
    let at = pending_at part c.args.stacks.now c.args.pending.now.items c.args.place c.requires.reached c.index.result.now c.requires.within c.index.ensures in
    none_pending part c.args.stacks.now c.args.pending.now.items c.args.place c.requires.reached c.index.result.now at c.in-Nothing.is

pub pass-requires-clause-number : goal.pass-requires-clause-number
pass-requires-clause-number c =
    let part = part_for c.args.code.now c.args.env.now in
    let at = pending_at part c.args.stacks.now c.args.pending.now.items c.args.place c.requires.reached c.index.result.now c.requires.within c.index.ensures in
    number_here part c.args.stacks.now c.args.pending.now.items c.args.place c.requires.reached c.in-Stack.stack (at ∙ ap Some c.in-Stack.is)

pub held-fast-requires-clause-reached : goal.held-fast-requires-clause-reached
held-fast-requires-clause-reached c =
    subst (λ l. Reached (part_for c.args.code.now c.args.env.now) c.args.stacks.now l c.args.place) (sym c.deref.ensures.value) c.requires.reached
