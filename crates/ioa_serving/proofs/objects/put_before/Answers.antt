use Rattle.std.proofs.lemmas.List.{nil_from_length}
use Rattle.std.proofs.lemmas.Result.{on_ok_weaker}
use Rattle.ioa_value.proofs.ListLemmas.{empty, not_empty}
use Rattle.ioa_serving.proofs.ToldObjects.{put_another, put_last}
use Rattle.ioa_serving.proofs.objects.put_before.Goals as goal

pub returns-then-is_empty : goal.returns-then-is_empty
returns-then-is_empty c =
    let after = c.args.after.now in
    put_last c.args.objects.now.items after c.args.line.now (nil_from_length after (empty after c.is_empty.result c.if-is_empty.true c.is_empty.ensures))

pub returns : goal.returns
returns c =
    let after = c.args.after.now in
    on_ok_weaker c.put_act.result
    (λ put. put_another c.args.objects.now.items after c.args.line.now _ (not_empty after c.is_empty.result c.if-is_empty.false c.is_empty.ensures) put) c.put_act.ensures
