use Rattle.std.proofs.Common.{◌≡◌, length, refl, sym, ap, ◌∙◌, subst}
use Rattle.ioa_code.specs.Parts.{part_for, OnBad}
use Rattle.ioa_code.specs.Pending.{Ended}
use Rattle.ioa_code.specs.Scan.{scan, bad}
use Rattle.ioa_code.proofs.Arriving.{reached_kept}
use Rattle.ioa_code.proofs.Judged.{found_valid}
use Rattle.ioa_code.proofs.verifier.scan_end.Goals as goal

pub returns-in-Err-clause-bad : goal.returns-in-Err-clause-bad
returns-in-Err-clause-bad c =
    let part = part_for c.args.code.now c.args.env.now in
    let end : length part.code.instrs ≡ c.len.result = sym (c.len.ensures ∙ c.args.code.now.instrs.ok.0) in
    let found : scan part ≡ bad (length part.code.instrs) c.in-Err.why = subst (Ended part) c.in-Err.is c.in_ok-ended.ensures.end in
    subst (λ e. OnBad e (λ at why. scan part ≡ bad at why)) (sym c.refusal.ensures)
    (c.in-Err.why, refl, found ∙ ap (λ n. bad n c.in-Err.why) end)

pub bound_of-requires-clause-reached : goal.bound_of-requires-clause-reached
bound_of-requires-clause-reached c =
    let part = part_for c.args.code.now c.args.env.now in
    reached_kept part c.args.stacks.now c.ended.new.stacks c.args.pending.now (length part.code.instrs) c.requires c.in_ok-ended.ensures.grows

pub bound_of-requires-clause-valid : goal.bound_of-requires-clause-valid
bound_of-requires-clause-valid c =
    let part = part_for c.args.code.now c.args.env.now in
    found_valid part (subst (Ended part) c.in-Ok.is c.in_ok-ended.ensures.end)
