use Rattle.std.proofs.Common.{◌<◌, length, rules}
use Rattle.std.specs.Prelude.{slice_index}
use Rattle.std.proofs.lemmas.List.{get_or_default}
use Rattle.std.proofs.lemmas.List.Edits.{map_over_more}
use Rattle.ioa_serving.specs.Grouping.{merged}
use Rattle.ioa_serving.proofs.groups.merge.Goals as goal

pub loop-i-preserved : goal.loop-i-preserved
loop-i-preserved c =
    let gs = c.loop-i.groups in
    let i = c.loop-i.i in
    let within : i < length c.args.groups.now = search rules in
    let here : i < length gs = search rules in
    rw c.merged.ensures
    (map_over_more (merged c.args.from c.args.to) c.args.groups.now gs i (slice_index gs i) within c.loop-i.invariant (get_or_default gs i 0 (slice_index gs i) here))
