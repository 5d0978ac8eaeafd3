use Rattle.std.proofs.Common.{inr, subst, take}
use Rattle.std.specs.Io.KnownBytes.{Appends}
use Rattle.std.proofs.lemmas.Option.{IfSome_then}
use Rattle.ioa_replay.proofs.ListReplays.{list_begun, list_written}
use Rattle.ioa_replay.proofs.replays.replay_list.Goals as goal

pub returns-in_err-send_all-clause-begun : goal.returns-in_err-send_all-clause-begun
returns-in_err-send_all-clause-begun g c = λ e.
    let begun = c.in_err-send_all.ensures.begun in
    let before = g.W.Write.contents c.args.output.now in
    let after = g.W.Write.contents c.send_all.new.output in
    inr (λ s runs. IfSome_then (g.R.Read.remaining c.args.input.now) (c.in_ok-replayed.ensures.ok s runs)
    (λ bytes k. list_begun c.args.program.now s bytes c.in_ok-replayed.replayed before after k begun.0 (subst (λ t. Appends before after (take begun.0 t)) c.as_bytes.ensures.value begun.1)))

pub returns-clause-ok : goal.returns-clause-ok
returns-clause-ok g c = λ s runs.
    let before = g.W.Write.contents c.args.output.now in
    let after = g.W.Write.contents c.send_all.new.output in
    IfSome_then (g.R.Read.remaining c.args.input.now) (c.in_ok-replayed.ensures.ok s runs)
    (λ bytes k. list_written c.args.program.now s bytes c.in_ok-replayed.replayed before after k (subst (λ t. Appends before after t) c.as_bytes.ensures.value c.in_ok-send_all.ensures.ok))
