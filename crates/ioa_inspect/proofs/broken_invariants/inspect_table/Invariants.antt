use Rattle.std.proofs.Common.{map, take}
use Rattle.std.specs.Option.{option_map}
use Rattle.ioa_compose.specs.Held.{composed_of}
use Rattle.ioa_system.specs.Logs.{actions_of, log_entry, logged}
use Rattle.ioa_system.specs.Progress.{reached_by}
use Rattle.ioa_replay.specs.Traced.{HasTraced}
use Rattle.ioa_inspect.specs.Breaking.{broken_of}
use Rattle.ioa_inspect.proofs.Breaking.{Asked}
use Rattle.ioa_inspect.proofs.broken_invariants.inspect_table.Given as goal

abbrev pub invariant-loop-count : goal.invariant-loop-count
invariant-loop-count l =
    HasTraced l.program (map log_entry (take l.count l.log.entries.items)) l.judge
    × Asked (composed_of l.asked) l.program (actions_of (logged l.log)) l.count (option_map broken_of l.broken) (reached_by l.judge.judge.runner)
