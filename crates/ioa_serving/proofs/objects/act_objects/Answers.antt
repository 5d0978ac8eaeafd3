use Rattle.std.proofs.Common.{◌<◌, length, sym, subst}
use Rattle.std.proofs.lemmas.List.{nil_from_length}
use Rattle.ioa_value.specs.Lists.{lines}
use Rattle.ioa_value.proofs.ListLemmas.{empty, not_empty, shorter}
use Rattle.ioa_serving.specs.Objects.{act_objects}
use Rattle.ioa_serving.proofs.ToldObjects.{act_put, acts_put}
use Rattle.ioa_serving.proofs.objects.act_objects.Goals as goal

pub loop-rest-smaller : goal.loop-rest-smaller
loop-rest-smaller c =
    let long = not_empty c.loop-rest.rest.now c.is_empty.result c.loop-rest-test.true c.is_empty.ensures in
    subst (λ l. length l < length c.loop-rest.rest.now) (sym c.first_line.ensures.after) (shorter c.loop-rest.rest.now long)

pub loop-rest-preserved : goal.loop-rest-preserved
loop-rest-preserved c =
    let rest = c.loop-rest.rest.now in
    let long = not_empty rest c.is_empty.result c.loop-rest-test.true c.is_empty.ensures in
    act_put rest c.first_line.result.0.now c.first_line.result.1.now c.loop-rest.objects.items (act_objects (lines c.args.text.now)) _ long
    c.first_line.ensures.line c.first_line.ensures.after c.loop-rest.invariant c.in_ok-put_before.ensures

pub returns : goal.returns
returns c =
    let rest = c.loop-rest.rest.now in
    acts_put rest c.loop-rest.objects.items (act_objects (lines c.args.text.now))
    (nil_from_length rest (empty rest c.is_empty.result c.loop-rest-test.false c.is_empty.ensures)) c.loop-rest.invariant
