use Rattle.std.proofs.Common.{map, take}
use Rattle.ioa_run.specs.ProgramSchedules.{IsPlay, event_of}
use Rattle.ioa_run.proofs.schedule.play.Given as goal

abbrev pub invariant-loop-event : goal.invariant-loop-event
invariant-loop-event l = IsPlay l.fn.program (map event_of (take l.event-index l.events)) l.core l.answers.items
