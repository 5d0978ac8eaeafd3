use Rattle.std.proofs.Common.{◌≡◌, ◌≤◌, ◌<◌, ◌+◌, ℕ, suc, List, length, string_bytes, refl, subst, rules, arith}
use Rattle.std.specs.Prelude.{slice_set}
use Rattle.std.proofs.lemmas.Option.{slice_get_read}
use Rattle.ioa_value.specs.Actions.{Act, act_of}
use Rattle.ioa_watch.specs.declared.watcher.Watcher.{Watcher}
use Rattle.ioa_watch.specs.Streams.{told_at}
use Rattle.ioa_watch.specs.Watchers.{HasHeard}
use Rattle.ioa_watch.proofs.HeardUpTo.{HeardUpTo, all_heard, flat_all, flat_up_to, heard_count, heard_more, in_turn}
use Rattle.ioa_watch.proofs.verdicts.hear_all.Goals as goal

pub loop-i-init : goal.loop-i-init
loop-i-init c = λ ps acts h. (h, c.new-text.ensures.bytes)

pub hear_one-requires : goal.hear_one-requires
hear_one-requires c =
    let r = c.requires in
    let ws : List Watcher = c.loop-i.watchers in
    let w : Watcher = c.index-watchers-i.result in
    let k = c.loop-i.invariant r.0 r.1 r.2 in
    let inside : c.loop-i.i < length ws = search rules in
    let t = in_turn c.loop-i.i r.0 r.1 (act_of c.args.action.now) ws w k.0 (slice_get_read ws (length ws) c.loop-i.i w refl inside c.index-watchers-i.is) in
    (t.program, r.1, subst (HasHeard t.program r.1) c.index-watchers-i.is t.heard, r.3)

pub loop-i-preserved : goal.loop-i-preserved
loop-i-preserved c = λ ps acts h.
    let ws : List Watcher = c.loop-i.watchers in
    let w : Watcher = c.index-watchers-i.result in
    let v : Watcher = c.hear_one.new.watcher in
    let a : Act = act_of c.args.action.now in
    let i = c.loop-i.i in
    let k = c.loop-i.invariant ps acts h in
    let inside : i < length ws = search rules in
    let t = in_turn i ps acts a ws w k.0 (slice_get_read ws (length ws) i w refl inside c.index-watchers-i.is) in
    let one = c.in_ok-hear_one.ensures t.program acts (subst (HasHeard t.program acts) c.index-watchers-i.is t.heard) in
    let next : suc i ≡ i + 1 = omega arith in (
      subst (λ (n : ℕ). HeardUpTo n ps acts a (slice_set ws i v)) next (heard_more i ps acts a ws t.program v k.0 t.place one.0),
      flat_up_to (told_at c.args.json acts a) ps i t.program (string_bytes c.loop-i.text) (told_at c.args.json acts a t.program) (string_bytes c.hear_one.new.text) t.place k.1 refl one.1,
    )

pub returns : goal.returns
returns c = λ ps acts h.
    let ws : List Watcher = c.loop-i.watchers in
    let a : Act = act_of c.args.action.now in
    let i = c.loop-i.i in
    let k = c.loop-i.invariant ps acts h in
    let least : length ws ≤ i = search rules in
    let most : i ≤ length ws = search rules in
    let count : length ps ≡ length ws = heard_count i ps acts a ws k.0 in
    (all_heard i ps acts a ws (omega (arith, least, most)) k.0, flat_all (told_at c.args.json acts a) ps i (string_bytes c.loop-i.text) (omega (arith, count, least)) k.1)
