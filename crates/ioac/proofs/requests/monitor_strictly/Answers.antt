use Rattle.ioac.proofs.TextFailures.{text_failed}
use Rattle.ioac.proofs.requests.monitor_strictly.Goals as goal

pub returns-in_err-verdict-clause-refused : goal.returns-in_err-verdict-clause-refused
returns-in_err-verdict-clause-refused g c =
    text_failed (g.F.Store.holds c.args.store.now c.args.file.now) _ _ _ c.from_residual-in_err-verdict.result c.in_err-verdict.field-0.0 _ c.as_slice-bytes.result.now
    c.from_residual-in_err-verdict.ensures.1 c.as_slice-bytes.ensures.value c.in_ok-text.ensures.ok c.in_err-verdict.ensures.refused c.in_err-verdict.ensures.unwritten
