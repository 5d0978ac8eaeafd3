use Rattle.ioa_coverage.specs.Counts.{entered, with_more}
use Rattle.ioa_coverage.proofs.Adding.{rows_counted}
use Rattle.ioa_coverage.proofs.coverage.counted_more.Goals as goal

pub loop-row-preserved : goal.loop-row-preserved
loop-row-preserved c =
    rows_counted (with_more (entered c.args.log.now)) c.args.rows.now c.loop-row.more.items c.push.new.self.items c.row-item.result c.row_with.result c.loop-row.row-index c.loop-row-test.true c.row-item.is
    c.loop-row.invariant c.row_with.ensures c.in_ok-push.ensures.items
