use Rattle.std.proofs.Common.{◌≡◌, drop}
use Rattle.ioa_compile.specs.Tables.{start_states, tabled}
use Rattle.ioa_system.specs.Logs.{logged}
use Rattle.ioa_monitor.specs.Monitoring.{monitored, monitored_from}
use Rattle.ioa_serving.specs.Logs.{performed_in}
use Rattle.ioa_serving.proofs.judged.answer_of.Given as goal

abbrev pub invariant-loop-index : goal.invariant-loop-index
invariant-loop-index l = record {
  program : l.system.program ≡ l.specification;
  rest : monitored (tabled l.specification) (performed_in (logged l.log)) (start_states l.specification)
      ≡ monitored_from l.index (tabled l.specification) (drop l.index (performed_in (logged l.log))) l.system.states;
}
