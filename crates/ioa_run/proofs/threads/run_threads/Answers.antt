use Rattle.std.proofs.Common.{ℕ, List, ap, map, subst}
use Rattle.std.specs.Prelude.{IfOk}
use Rattle.ioa_value.specs.Actions.{Act, act_of}
use Rattle.ioa_board.specs.ProgramRooms.{ProgramRoom}
use Rattle.ioa_run.specs.TalliedRuns.{IsTallied}
use Rattle.ioa_run.proofs.Resumed.{from_nothing}
use Rattle.ioa_run.proofs.threads.run_threads.Goals as goal

pub returns-clause-outcome : goal.returns-clause-outcome
returns-clause-outcome g c =
    from_nothing c.args.program.now c.in_ok-room.room.before (map act_of c.args.inputs.now) c.args.turns c.run_on.result (ap (λ (x : ProgramRoom). x.before) c.in_ok-room.ensures) c.run_on.ensures.outcome

pub returns-clause-tallied : goal.returns-clause-tallied
returns-clause-tallied g c =
    subst (λ (h : List (ℕ × Act)). IfOk c.run_on.result (λ o. IsTallied c.args.program.now h o c.run_on.new.tallies.items)) (ap (λ (x : ProgramRoom). x.before) c.in_ok-room.ensures) c.run_on.ensures.tallied

pub run_on-requires-clause-reports : goal.run_on-requires-clause-reports
run_on-requires-clause-reports g c = λ κs lives. ap (λ (x : ProgramRoom). x.reports) c.in_ok-room.ensures
