use Rattle.std.proofs.Common.{◌≡◌, ◌+◌, ◌-◌, ◌*◌, drop}
use Rattle.std.specs.List.{position_from}
use Rattle.ioa_sequences.specs.Sequences.{item_count, same_words, pieces, place_of}
use Rattle.ioa_sequences.proofs.sequences.place_of.Given as goal

abbrev pub invariant-loop-i : goal.invariant-loop-i
invariant-loop-i l =
    position_from (same_words l.item) l.i (pieces l.width (item_count l.sequence - l.i) (drop (1 + l.i * l.width) l.sequence)) ≡ place_of l.item l.sequence
