use Rattle.std.proofs.Common.{◌≡◌, codes, map, option_map, string_bytes, take}
use Rattle.std.specs.List.{join_by, zip}
use Rattle.ioa_system.specs.Outcomes.{ending_of}
use Rattle.ioa_request.specs.Pasted.{texts}
use Rattle.ioa_serving.specs.Seeds.{verdict_object}
use Rattle.ioa_serving.proofs.seed_objects.verdicts_text.Given as goal

-- those of the first names
abbrev pub invariant-loop-place : goal.invariant-loop-place
invariant-loop-place l = string_bytes l.text ≡ join_by verdict_object (codes ",") (take l.place (zip (texts l.names) (map (option_map ending_of) l.answers)))
