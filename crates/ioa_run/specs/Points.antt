-- Where a worker of a run on threads tells that it is.
use Rattle.std.specs.Prelude.{◌≡◌, Option, None, Some, Result, Ok, IsErr}
use Rattle.ioa_value.specs.declared.memory.OutOfMemory.{OutOfMemory}
use Rattle.ioa_run.specs.declared.gate.Point.{Point}
use Rattle.ioa_board.specs.declared.verdict.Verdict.{Verdict}

-- a turn ends there
abbrev pub IsEnd : Point → Type 0
IsEnd Point.Turn = ⊥
IsEnd Point.Planned = ⊥
IsEnd Point.Committed = Unit {0}
IsEnd Point.Stale = Unit {0}
IsEnd Point.Idle = Unit {0}

-- where a turn ends whose commit is answered so: nowhere where the worker takes no more turns, and memory is told as refused
abbrev pub EndsAt : Verdict → Result (Option Point) OutOfMemory → Type 0
EndsAt Verdict.Stopped r = r ≡ Ok None
EndsAt Verdict.Stale r = r ≡ Ok (Some Point.Stale)
EndsAt (Verdict.Faulted c f) r = r ≡ Ok None
EndsAt (Verdict.Committed n) r = r ≡ Ok (Some Point.Committed)
EndsAt (Verdict.Memory p) r = IsErr r
