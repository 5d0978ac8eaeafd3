use Rattle.std.proofs.Common.{◌≡◌, drop, map}
use Rattle.ioa_value.specs.Actions.{act_of}
use Rattle.ioa_compile.specs.Tables.{tabled, start_states}
use Rattle.ioa_monitor.specs.Monitoring.{monitored, monitored_from}
use Rattle.ioa_monitor.proofs.monitors.monitor.Given as goal

abbrev pub invariant-loop-index : goal.invariant-loop-index
invariant-loop-index l = record {
  program : l.system.program ≡ l.program;
  rest : monitored (tabled l.program) (map act_of l.actions) (start_states l.program) ≡ monitored_from l.index (tabled l.program) (drop l.index (map act_of l.actions)) l.system.states;
}
