use Rattle.std.proofs.Common.{◌≡◌, filter, map, take}
use Rattle.ioa_value.specs.Actions.{act_of}
use Rattle.ioa_tree.specs.Runs.{is_external}
use Rattle.ioa_compile.specs.Tables.{tabled}
use Rattle.ioa_log.specs.Replays.{lines_of}
use Rattle.ioa_serving.proofs.trace.trace_text.Given as goal

-- the lines of the external ones among the actions so far
abbrev pub invariant-loop-entry : goal.invariant-loop-entry
invariant-loop-entry l =
    l.trace ≡ lines_of l.program.types (filter (is_external l.program.hidden (tabled l.program)) (map (λ e. act_of e.action) (take l.entry-index l.entry-items)))
