use Rattle.std.proofs.Common.{◌≡◌, ℕ, ◌≤◌, ◌∙◌, length, subst, arith}
use Rattle.ioa_code.specs.Parts.{part_for}
use Rattle.ioa_code.specs.Pending.{Reached}
use Rattle.ioa_code.proofs.verifier.scan_places.Goals as goal

both : (a b : ℕ) → a ≤ b → b ≤ a → a ≡ b
both a b le ge = omega arith

pub loop-place-init : goal.loop-place-init
loop-place-init c = record { reached = c.requires; round = c.new-round.ensures.items }

pub returns-clause-reached : goal.returns-clause-reached
returns-clause-reached c =
    let end : c.len-place-end.result ≡ length c.args.code.now.instrs.items = c.len-place-end.ensures ∙ c.args.code.now.instrs.ok.0 in
    let all : c.loop-place.place ≡ length c.args.code.now.instrs.items = both c.loop-place.place c.len-place-end.result c.loop-place.auto.place-end c.loop-place-test.false ∙ end in
    subst (Reached (part_for c.args.code.now c.args.env.now) c.loop-place.stacks c.loop-place.pending.items) all c.loop-place.invariant.reached
