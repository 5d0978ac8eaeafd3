use Rattle.std.proofs.Common.{refl}
use Rattle.std.proofs.lemmas.Option.{IfSome_then}
use Rattle.ioa_serving.specs.declared.replay_objects.Told.{Told}
use Rattle.ioa_serving.proofs.ToldObjects.{list_told}
use Rattle.ioa_serving.proofs.replay_objects.tell_list.Goals as goal

pub returns-clause-ok : goal.returns-clause-ok
returns-clause-ok g c = λ s runs.
    let r = c.in_ok-replayed.replayed in
    let t : Told = record { end = r.end; objects = c.in_ok-objects.objects } in
    IfSome_then (g.R.Read.remaining c.args.input.now) (c.in_ok-replayed.ensures.ok s runs) (λ bytes k. list_told c.args.program.now s bytes r t k refl c.in_ok-objects.ensures)
