use Rattle.std.proofs.Common.{refl}
use Rattle.std.proofs.lemmas.Option.{IfSome_then}
use Rattle.std.proofs.lemmas.Result.{err_from_is_err_and}
use Rattle.ioa_serving.specs.declared.replay_objects.Told.{Told}
use Rattle.ioa_serving.proofs.ToldObjects.{log_told}
use Rattle.ioa_serving.proofs.replay_objects.tell_log.Goals as goal

pub returns-in_err-replayed-clause-refused : goal.returns-in_err-replayed-clause-refused
returns-in_err-replayed-clause-refused g c =
    let same = err_from_is_err_and c.from_residual.result c.from_residual.ensures.1 in
    rw (same.1, same.2) c.in_err-replayed.ensures.refused

pub returns-clause-ok : goal.returns-clause-ok
returns-clause-ok g c = λ s runs.
    let r = c.in_ok-replayed.replayed in
    let t : Told = record { end = r.end; objects = c.in_ok-objects.objects } in
    IfSome_then (g.R.Read.remaining c.args.input.now) (c.in_ok-replayed.ensures.ok s runs) (λ xs k. log_told c.args.program.now s xs r t k refl c.in_ok-objects.ensures)
