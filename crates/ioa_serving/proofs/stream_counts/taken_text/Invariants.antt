use Rattle.std.proofs.Common.{◌≡◌, flat_map, string_bytes, take}
use Rattle.std.specs.List.{zip}
use Rattle.ioa_watch.specs.Names.{shown}
use Rattle.ioa_serving.specs.Counting.{taken_of}
use Rattle.ioa_serving.proofs.stream_counts.taken_text.Given as goal

-- the names so far, with their counts
abbrev pub invariant-loop-i : goal.invariant-loop-i
invariant-loop-i l = string_bytes l.text ≡ flat_map taken_of (take l.i (zip (shown l.names) l.counts))
