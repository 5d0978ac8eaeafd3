use Rattle.ioac.proofs.TextFailures.{text_failed}
use Rattle.ioac.proofs.requests.replay_invariants.Goals as goal

pub returns-in_err-finding-clause-refused : goal.returns-in_err-finding-clause-refused
returns-in_err-finding-clause-refused g c =
    text_failed (g.F.Store.holds c.args.store.now c.args.file.now) _ _ _ c.from_residual-in_err-finding.result c.in_err-finding.field-0.0 _ c.as_slice-bytes.result.now
    c.from_residual-in_err-finding.ensures.1 c.as_slice-bytes.ensures.value c.in_ok-text.ensures.ok c.in_err-finding.ensures.refused c.in_err-finding.ensures.unwritten
