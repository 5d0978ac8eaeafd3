use Rattle.std.proofs.Common.{◌≡◌, ◌+◌, ◌-◌, ◌*◌, ◌<◌, false, cond, Some, length, take, drop, sym, ap, ◌∙◌, arith}
use Rattle.std.specs.List.{position_from}
use Rattle.ioa_sequences.specs.Sequences.{item_count, same_words, part_of, pieces}
use Rattle.ioa_sequences.proofs.SequenceWords.{place_turn}
use Rattle.ioa_sequences.proofs.sequences.place_of.Goals as goal

pub loop-i-preserved : goal.loop-i-preserved
loop-i-preserved c =
    let us = c.args.item.now in
    let ws = c.args.sequence.now in
    let i = c.loop-i.i in
    let width = length us in
    let n = item_count ws in
    let count = c.item_count-i-end.ensures.count in
    let within : i < n = omega (arith, count) in
    let wide : 1 + i * width + width - (1 + i * width) ≡ width = omega arith in
    let other : same_words us (part_of (1 + i * width) width ws) ≡ false = ap (λ k. same_words us (take k (drop (1 + i * width) ws))) (sym wide) ∙ sym c.eq.ensures ∙ c.if-eq.false in
    let rest = position_from (same_words us) (i + 1) (pieces width (n - (i + 1)) (drop (1 + (i + 1) * width) ws)) in
    sym (place_turn us ws width n i within ∙ ap (λ b. cond b (Some i) rest) other) ∙ c.loop-i.invariant
