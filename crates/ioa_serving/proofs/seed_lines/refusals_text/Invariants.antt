use Rattle.std.proofs.Common.{◌≡◌, flat_map, string_bytes, take}
use Rattle.std.specs.List.{zip}
use Rattle.ioa_request.specs.Pasted.{texts}
use Rattle.ioa_serving.specs.Seeds.{refusals_behind}
use Rattle.ioa_serving.proofs.seed_lines.refusals_text.Given as goal

-- those of the first names
abbrev pub invariant-loop-place : goal.invariant-loop-place
invariant-loop-place l = string_bytes l.text ≡ flat_map refusals_behind (take l.place (zip (texts l.names) l.counts))
