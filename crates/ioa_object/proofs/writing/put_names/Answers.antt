use Rattle.std.proofs.Common.{◌<◌, length, ap, arith, string_bytes}
use Rattle.ioa_object.proofs.Written.{at_item}
use Rattle.ioa_object.proofs.writing.put_names.Goals as goal

pub put_text-requires : goal.put_text-requires
put_text-requires c =
    let short = at_item (λ x. length x < 256) string_bytes c.args.names.now c.loop-name.name-index c.name-item.result c.loop-name-test.true c.name-item.is c.requires.short in
    omega (arith, ap length c.as_str.ensures.value)
