use Rattle.std.proofs.Common.{◌∙◌, ℕ, List, ap, map, subst}
use Rattle.std.specs.Prelude.{IfOk}
use Rattle.ioa_value.specs.Actions.{Act, act_of}
use Rattle.ioa_compile.specs.Tables.{start_states, tabled}
use Rattle.ioa_system.specs.Logs.{logged}
use Rattle.ioa_board.specs.ProgramRooms.{ProgramRoom}
use Rattle.ioa_run.specs.TalliedRuns.{IsTallied}
use Rattle.ioa_board.proofs.Resumed.{resumed_history}
use Rattle.ioa_run.proofs.Resumed.{from_before, refused_resumed}
use Rattle.ioa_run.proofs.threads.resume_threads.Goals as goal

pub returns-clause-outcome : goal.returns-clause-outcome
returns-clause-outcome g c =
    let r = c.in_ok-room.ensures.resumed in
    from_before c.args.program.now c.in_ok-room.room.before (logged c.args.log.now).entries (map act_of c.args.inputs.now) c.args.turns c.run_on.result
    (ap (λ (x : ProgramRoom). x.before) r.2 ∙ resumed_history (tabled c.args.program.now) (start_states c.args.program.now) (logged c.args.log.now) r.0 r.1) c.run_on.ensures.outcome

pub returns-clause-refused : goal.returns-clause-refused
returns-clause-refused g c =
    let r = c.in_ok-room.ensures.resumed in
    refused_resumed c.args.program.now (map act_of c.args.inputs.now) c.args.turns (logged c.args.log.now) c.run_on.result (r.0, r.1) c.run_on.ensures.refused

pub returns-clause-tallied : goal.returns-clause-tallied
returns-clause-tallied g c =
    let r = c.in_ok-room.ensures.resumed in
    subst (λ (h : List (ℕ × Act)). IfOk c.run_on.result (λ o. IsTallied c.args.program.now h o c.run_on.new.tallies.items))
    (ap (λ (x : ProgramRoom). x.before) r.2 ∙ resumed_history (tabled c.args.program.now) (start_states c.args.program.now) (logged c.args.log.now) r.0 r.1) c.run_on.ensures.tallied

pub run_on-requires-clause-reports : goal.run_on-requires-clause-reports
run_on-requires-clause-reports g c = λ κs lives. ap (λ (x : ProgramRoom). x.reports) c.in_ok-room.ensures.resumed.2
