use Rattle.ioa_value.proofs.FirstLemmas.{field_before}
use Rattle.std.proofs.Common.{length}
use Rattle.ioa_value.proofs.declarations.sum_of_widths.Goals as goal

pub bounds-widths-fields : goal.bounds-widths-fields
bounds-widths-fields c =
    field_before (length c.args.widths.now) c.args.fields.now c.loop-i.i c.index-fields-i.result c.loop-i-test.true c.requires.within
