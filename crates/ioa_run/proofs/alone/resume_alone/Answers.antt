use Rattle.std.proofs.Common.{◌≡◌, ◌∙◌, ℕ, List, ap, map, subst, sym}
use Rattle.ioa_value.specs.Actions.{Act, act_of}
use Rattle.ioa_compile.specs.Programs.{Prog}
use Rattle.ioa_compile.specs.Tables.{start_states, tabled}
use Rattle.ioa_system.specs.Logs.{logged}
use Rattle.ioa_run.specs.Alone.{IsOutcomeFrom}
use Rattle.ioa_board.specs.ProgramRooms.{ProgramRoom}
use Rattle.ioa_run.specs.TalliedRuns.{IsTallied}
use Rattle.ioa_run.specs.Tallies.{blank}
use Rattle.ioa_board.proofs.Resumed.{resumed_history}
use Rattle.ioa_run.proofs.alone.resume_alone.Goals as goal

pub returns-clause-outcome : goal.returns-clause-outcome
returns-clause-outcome g c =
    let r = c.in_ok-room.ensures.resumed in
    let program : c.in_ok-room.room.program ≡ c.args.program.now = ap (λ (x : ProgramRoom). x.program) r.2 in
    let history : c.in_ok-room.room.board.history ≡ (logged c.args.log.now).entries =
    ap (λ (x : ProgramRoom). x.board.history) r.2 ∙ resumed_history (tabled c.args.program.now) (start_states c.args.program.now) (logged c.args.log.now) r.0 r.1 in
    subst (λ (h : List (ℕ × Act)). IsOutcomeFrom c.args.program.now h (map act_of c.args.inputs.now) c.args.turns c.in_ok-outcome.outcome) history
    (subst (λ (p : Prog). IsOutcomeFrom p c.in_ok-room.room.board.history (map act_of c.args.inputs.now) c.args.turns c.in_ok-outcome.outcome) program c.in_ok-outcome.ensures.outcome)

pub run_in-requires-clause-blank : goal.run_in-requires-clause-blank
run_in-requires-clause-blank g c =
    let r = c.in_ok-room.ensures.resumed in
    c.in_ok-tallies.ensures ∙ ap (map blank) (c.members.ensures.value ∙ ap (λ (p : Prog). p.members) (sym (ap (λ (x : ProgramRoom). x.program) r.2)))

pub returns-clause-tallied : goal.returns-clause-tallied
returns-clause-tallied g c =
    let r = c.in_ok-room.ensures.resumed in
    let program : c.in_ok-room.room.program ≡ c.args.program.now = ap (λ (x : ProgramRoom). x.program) r.2 in
    let history : c.in_ok-room.room.board.history ≡ (logged c.args.log.now).entries =
    ap (λ (x : ProgramRoom). x.board.history) r.2 ∙ resumed_history (tabled c.args.program.now) (start_states c.args.program.now) (logged c.args.log.now) r.0 r.1 in
    subst (λ (h : List (ℕ × Act)). IsTallied c.args.program.now h c.in_ok-outcome.outcome c.run_in.new.tallies.items) history
    (subst (λ (p : Prog). IsTallied p c.in_ok-room.room.board.history c.in_ok-outcome.outcome c.run_in.new.tallies.items) program c.in_ok-outcome.ensures.tallied)
