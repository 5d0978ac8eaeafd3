use Rattle.std.proofs.Common.{◌≡◌, ◌+◌, length, ap, ◌∙◌}
use Rattle.ioa_code.specs.Parts.{part_for}
use Rattle.ioa_code.proofs.Arriving.{first_reached}
use Rattle.ioa_code.proofs.verifier.scanned.Goals as goal

pub scan_places-requires : goal.scan_places-requires
scan_places-requires c =
    let end : c.len.result ≡ length c.args.code.now.instrs.items = c.len.ensures ∙ c.args.code.now.instrs.ok.0 in
    first_reached (part_for c.args.code.now c.args.env.now) c.in_ok-stacks.stacks c.in_ok-pending.pending.items (c.in_ok-pending.ensures.long ∙ ap (λ n. n + 1) end) c.in_ok-pending.ensures.first
