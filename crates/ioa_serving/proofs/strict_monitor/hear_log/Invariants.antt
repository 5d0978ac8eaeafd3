use Rattle.std.proofs.Common.{take}
use Rattle.ioa_system.specs.Logs.{logged}
use Rattle.ioa_watch.specs.Watchers.{HasHeard}
use Rattle.ioa_serving.specs.Logs.{performed_in}
use Rattle.ioa_serving.proofs.strict_monitor.hear_log.Given as goal

-- the first so many actions were heard
abbrev pub invariant-loop-index : goal.invariant-loop-index
invariant-loop-index l = HasHeard l.program (take l.index (performed_in (logged l.log))) l.watcher
