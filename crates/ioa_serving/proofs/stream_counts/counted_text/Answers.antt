use Rattle.std.proofs.Common.{◌≡◌, ◌≤◌, ◌<◌, List, length, string_bytes, refl, rules, arith}
use Rattle.std.proofs.lemmas.Option.{slice_get_read}
use Rattle.ioa_watch.specs.declared.watcher.Watcher.{Watcher}
use Rattle.ioa_watch.specs.Watchers.{HasHeard}
use Rattle.ioa_watch.proofs.HeardUpTo.{flat_all, flat_up_to, heard_at}
use Rattle.ioa_watch.proofs.StreamLemmas.{same_count}
use Rattle.ioa_serving.specs.Counting.{counted_lines}
use Rattle.ioa_serving.proofs.stream_counts.counted_text.Goals as goal

pub loop-watcher-preserved : goal.loop-watcher-preserved
loop-watcher-preserved c = λ ps acts h.
    let ws : List Watcher = c.args.watchers.now in
    let w : Watcher = c.watcher-item.result in
    let i = c.loop-watcher.watcher-index in
    let inside : i < length ws = search rules in
    let t = heard_at i ps acts ws w h (slice_get_read ws (length ws) i w refl inside c.watcher-item.is) in
    flat_up_to (counted_lines acts) ps i t.program (string_bytes c.loop-watcher.text) (counted_lines acts t.program) (string_bytes c.push_counted.new.text)
    t.place (c.loop-watcher.invariant ps acts h) refl (c.in_ok-push_counted.ensures t.program acts t.heard)

pub returns : goal.returns
returns c = λ ps acts h.
    let ws : List Watcher = c.args.watchers.now in
    let i = c.loop-watcher.watcher-index in
    let least : length ws ≤ i = search rules in
    let count : length ps ≡ length ws = same_count (λ p w. HasHeard p acts w) ps ws h in
    flat_all (counted_lines acts) ps i (string_bytes c.loop-watcher.text) (omega (arith, count, least)) (c.loop-watcher.invariant ps acts h)
