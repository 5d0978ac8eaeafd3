use Rattle.ioa_device.specs.Failing.{HasFailed}
use Rattle.ioa_serving.proofs.RunServed.{cut, served, within}
use Rattle.ioa_serving.proofs.run.run_file.Goals as goal

pub serve_run-served-requires-clause-within : goal.serve_run-served-requires-clause-within
serve_run-served-requires-clause-within g c = within _ _ c.in-Ok.ran c.in-Ok.ensures.ran

pub serve_run-served-requires-clause-declares : goal.serve_run-served-requires-clause-declares
serve_run-served-requires-clause-declares g c = let k = c.in-Ok.ensures.ran in (k.subject, k.runs, k.declares)

pub returns-in-Ok-clause-runs : goal.returns-in-Ok-clause-runs
returns-in-Ok-clause-runs g c = served _ c.args.settings.now c.in-Ok.ran c.in-Ok.ensures.ran _ _ c.serve_run-served.result c.serve_run-served.ensures.served

pub returns-in-Ok-clause-refused : goal.returns-in-Ok-clause-refused
returns-in-Ok-clause-refused g c =
    cut _ c.args.settings.now c.in-Ok.ran c.in-Ok.ensures.ran (g.F.Store.lacks c.args.store.now)
    (HasFailed (g.W.Device.failure_count c.args.output.now) (g.W.Device.failure_count c.serve_run-served.new.output)) _ _ c.serve_run-served.result c.serve_run-served.ensures.cut
