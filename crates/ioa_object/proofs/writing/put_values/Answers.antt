use Rattle.ioa_object.proofs.Written.{own_item}
use Rattle.ioa_object.proofs.writing.put_values.Goals as goal

pub put_value-requires : goal.put_value-requires
put_value-requires c =
    let (types, are, typed) = c.requires.typed in
    (types, are, own_item types c.args.values.now c.loop-value.value-index c.value-item.result c.loop-value-test.true c.value-item.is typed)
