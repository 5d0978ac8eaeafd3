use Rattle.std.proofs.Common.{◌≡◌, ◌≤◌, ◌<◌, List, length, string_bytes, refl, ap, ◌∙◌, rules, arith}
use Rattle.std.specs.Option.{option_map}
use Rattle.std.proofs.lemmas.Option.{slice_get_read}
use Rattle.ioa_compile.specs.Programs.{Prog}
use Rattle.ioa_system.specs.Outcomes.{ending_of}
use Rattle.ioa_watch.specs.declared.watcher.Watcher.{Watcher}
use Rattle.ioa_watch.specs.Streams.{accepted_line}
use Rattle.ioa_watch.specs.Watchers.{HasHeard, refused_by}
use Rattle.ioa_watch.proofs.HeardUpTo.{flat_all, flat_up_to, heard_at}
use Rattle.ioa_watch.proofs.StreamLemmas.{same_count}
use Rattle.ioa_watch.proofs.Watchers.{refusal_is}
use Rattle.ioa_watch.proofs.verdicts.accepted_text.Goals as goal

pub loop-watcher-preserved : goal.loop-watcher-preserved
loop-watcher-preserved c = λ ps acts h.
    let ws : List Watcher = c.args.watchers.now in
    let w : Watcher = c.watcher-item.result in
    let i = c.loop-watcher.watcher-index in
    let inside : i < length ws = search rules in
    let t = heard_at i ps acts ws w h (slice_get_read ws (length ws) i w refl inside c.watcher-item.is) in
    let named : c.name.result.now ≡ t.program.name = c.name.ensures ∙ ap (λ (q : Prog). q.name) (c.program.ensures ∙ t.heard.program) in
    let refused : option_map ending_of c.refusal.result ≡ refused_by t.program acts = ap (option_map ending_of) c.refusal.ensures ∙ refusal_is t.program acts w t.heard in
    flat_up_to (λ p. accepted_line c.args.json p.name (refused_by p acts)) ps i t.program (string_bytes c.loop-watcher.text) (accepted_line c.args.json c.name.result.now (option_map ending_of c.refusal.result)) (string_bytes c.push_accepted.new.text)
    t.place (c.loop-watcher.invariant ps acts h)
    (ap (λ x. accepted_line c.args.json x (option_map ending_of c.refusal.result)) named ∙ ap (accepted_line c.args.json t.program.name) refused) c.in_ok-push_accepted.ensures

pub returns : goal.returns
returns c = λ ps acts h.
    let ws : List Watcher = c.args.watchers.now in
    let i = c.loop-watcher.watcher-index in
    let least : length ws ≤ i = search rules in
    let count : length ps ≡ length ws = same_count (λ p w. HasHeard p acts w) ps ws h in
    flat_all (λ p. accepted_line c.args.json p.name (refused_by p acts)) ps i (string_bytes c.loop-watcher.text) (omega (arith, count, least)) (c.loop-watcher.invariant ps acts h)
