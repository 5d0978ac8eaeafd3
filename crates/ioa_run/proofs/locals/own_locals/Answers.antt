use Rattle.std.proofs.Common.{◌∙◌, List, ap, map, arith}
use Rattle.std.proofs.lemmas.List.{take_all}
use Rattle.ioa_compile.specs.declared.table.Entry.{Entry}
use Rattle.ioa_run.specs.Locals.{with_sites}
use Rattle.ioa_run.proofs.Choosing.{local_in}
use Rattle.ioa_run.proofs.LocalSites.{locals_more}
use Rattle.ioa_run.proofs.locals.own_locals.Goals as goal

pub loop-entry-preserved : goal.loop-entry-preserved
loop-entry-preserved c =
    locals_more c.args.program.now c.args.entries.now c.loop-entry.entry-index c.entry-item.result c.loop-entry.own.items c.add_local.new.own.items c.loop-entry-test.true c.entry-item.is
    c.in_ok-add_local.ensures c.loop-entry.invariant

pub returns : goal.returns
returns c =
    c.loop-entry.invariant
    ∙ ap (λ (es : List Entry). map (with_sites c.args.program.now) (local_in es)) (take_all c.loop-entry.entry-index c.args.entries.now (omega (arith, c.loop-entry-test.false)))
