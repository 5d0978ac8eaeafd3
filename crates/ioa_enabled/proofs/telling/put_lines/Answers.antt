use Rattle.std.proofs.Common.{◌≡◌, ◌∙◌, ◌++◌, ap, length, map, string_bytes, sym, arith}
use Rattle.std.specs.Vec.{vec_len}
use Rattle.std.proofs.lemmas.List.{length-map}
use Rattle.ioa_value.specs.Actions.{act_of}
use Rattle.ioa_enabled.specs.Told.{count_line, offer_lines}
use Rattle.ioa_enabled.proofs.telling.put_lines.Goals as goal

pub returns-then-offer : goal.returns-then-offer
returns-then-offer c =
    let old = string_bytes c.args.text.now in
    let enabled = c.args.offer.now.enabled in
    let items : vec_len enabled ≡ length enabled.items = omega (arith, enabled.ok.0) in
    let count : c.len-count.result ≡ length (map act_of enabled.items) = c.len-count.ensures ∙ items ∙ sym (length-map enabled.items act_of) in
    c.in_ok-writeln.ensures.bytes ∙ ap (λ n. old ++ count_line c.args.component.now c.args.entry.now n) count
    ∙ sym (ap (λ b. old ++ offer_lines c.args.types.now c.args.component.now c.args.entry.now b (map act_of enabled.items)) c.if-offer.true)
