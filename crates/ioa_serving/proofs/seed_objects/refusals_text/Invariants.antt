use Rattle.std.proofs.Common.{◌≡◌, codes, string_bytes, take}
use Rattle.std.specs.List.{join_by, zip}
use Rattle.ioa_request.specs.Pasted.{texts}
use Rattle.ioa_serving.specs.Seeds.{refusals_object}
use Rattle.ioa_serving.proofs.seed_objects.refusals_text.Given as goal

-- those of the first names
abbrev pub invariant-loop-place : goal.invariant-loop-place
invariant-loop-place l = string_bytes l.text ≡ join_by refusals_object (codes ",") (take l.place (zip (texts l.names) l.counts))
