use Rattle.std.proofs.Common.{Some, sym, ap, ◌∙◌, arith}
use Rattle.ioa_code.specs.Parts.{part_for}
use Rattle.ioa_code.proofs.Waiting.{number_pending}
use Rattle.ioa_code.proofs.Opened.{stands_at}
use Rattle.ioa_code.proofs.verifier.held.Goals as goal

pub at-requires : goal.at-requires
at-requires c =
    let lt = stands_at c.args.code.now.instrs.items c.args.place 0 c.in-Some.each.now c.args.round.now c.requires.here (sym c.in-Some.ensures.value) in
    let long = c.requires.reached.long in
    let within = c.requires.within in
    omega arith

pub height_with_one-requires : goal.height_with_one-requires
height_with_one-requires c =
    number_pending (part_for c.args.code.now c.args.env.now) c.args.stacks.now c.args.pending.now c.args.place c.in-Some.each.now c.in-Stack.stack c.requires.reached (c.at.ensures ∙ ap Some c.in-Stack.is)
