use Rattle.ioac.proofs.TextFailures.{text_failed}
use Rattle.ioac.proofs.requests.replay_coverage.Goals as goal

pub returns-in_err-told-clause-refused : goal.returns-in_err-told-clause-refused
returns-in_err-told-clause-refused g c =
    text_failed (g.F.Store.holds c.args.store.now c.args.file.now) _ _ _ c.from_residual-in_err-told.result c.in_err-told.field-0.0 _ c.as_slice.result.now
    c.from_residual-in_err-told.ensures.1 c.as_slice.ensures.value c.in_ok-text.ensures.ok c.in_err-told.ensures.refused c.in_err-told.ensures.unwritten
