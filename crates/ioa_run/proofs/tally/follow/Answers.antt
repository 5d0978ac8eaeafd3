use Rattle.std.proofs.Common.{◌≡◌, ◌∙◌, ◌<◌, ◌≤◌, Some, length, map, ap, sym, rules, arith}
use Rattle.std.specs.Prelude.{slice_get}
use Rattle.std.proofs.lemmas.List.{length-map}
use Rattle.std.proofs.lemmas.Option.{slice_get-get_or}
use Rattle.ioa_run.specs.Tallies.{report_at, tallied, tally_of}
use Rattle.ioa_run.proofs.Tallying.{none_changed, set_seen}
use Rattle.ioa_run.proofs.tally.follow.Goals as goal

pub returns-then-who-len : goal.returns-then-who-len
returns-then-who-len c =
    let ts = c.args.tallies.now.items in
    let t = c.index_mut.result.now in
    let less : c.args.who < length ts = search rules in
    let at : slice_get ts c.args.who ≡ Some t = slice_get-get_or ts c.args.who t less ∙ ap (λ x. Some x) (sym c.index_mut.ensures.value) in
    set_seen tally_of (tallied c.args.pick c.args.before (report_at c.args.room.now.reports c.args.who)) c.args.who ts t c.follow.new.self at
    (c.follow.ensures ∙ ap (λ r. tallied c.args.pick c.args.before r (tally_of t)) c.report_of-after.ensures)

pub returns-else-who-len : goal.returns-else-who-len
returns-else-who-len c =
    let ts = c.args.tallies.now.items in
    let past : length ts ≤ c.args.who = search rules in
    let long : length (map tally_of ts) ≡ length ts = length-map ts tally_of in
    sym (none_changed (tallied c.args.pick c.args.before (report_at c.args.room.now.reports c.args.who)) c.args.who (map tally_of ts) (omega (arith, long, past)))
