use Rattle.std.proofs.Common.{refl}
use Rattle.std.proofs.lemmas.Result.{IfOk-at_ok}
use Rattle.ioa_compile.specs.Subjects.{of_table}
use Rattle.ioa_tests.proofs.tests.calls.goes_on.Goals as goal

pub of-system-requires : goal.of-system-requires
of-system-requires g c = (IfOk-at_ok _ c.got-run.ensures c.run_list.ensures (of_table c.args.program.now) refl).types
