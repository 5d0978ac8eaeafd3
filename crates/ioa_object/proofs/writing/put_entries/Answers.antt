use Rattle.std.proofs.Common.{map}
use Rattle.ioa_value.proofs.ItemLemmas.{at_map}
use Rattle.ioa_compile.specs.Shown.{entry_code}
use Rattle.ioa_object.proofs.Tables.{entry_in}
use Rattle.ioa_object.proofs.writing.put_entries.Goals as goal

pub put_entry-requires : goal.put_entry-requires
put_entry-requires c =
    let (m, are, right) = c.requires.right in
    let es = c.args.entries.now in
    let i = c.loop-entry.entry-index in
    let e = c.entry-item.result in
    (m, are, entry_in m (map entry_code es) i (entry_code e) right (at_map entry_code es i e c.loop-entry-test.true c.entry-item.is))
