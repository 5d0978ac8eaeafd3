use Rattle.std.proofs.Common.{◌≡◌, flat_map, map, option_map, string_bytes, take}
use Rattle.std.specs.List.{zip}
use Rattle.ioa_system.specs.Outcomes.{ending_of}
use Rattle.ioa_request.specs.Pasted.{texts}
use Rattle.ioa_serving.specs.Seeds.{answer_behind}
use Rattle.ioa_serving.proofs.seed_lines.answers_text.Given as goal

-- those of the first names
abbrev pub invariant-loop-place : goal.invariant-loop-place
invariant-loop-place l = string_bytes l.text ≡ flat_map answer_behind (take l.place (zip (texts l.names) (map (option_map ending_of) l.answers)))
