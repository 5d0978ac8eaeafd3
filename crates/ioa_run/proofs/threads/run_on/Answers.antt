use Rattle.std.proofs.Common.{◌≡◌, ◌∙◌, ◌+◌, ap, length, map, subst, sym}
use Rattle.ioa_compile.specs.Programs.{Prog}
use Rattle.ioa_compile.specs.Tables.{IsProgram}
use Rattle.ioa_system.specs.Logs.{log_end}
use Rattle.ioa_board.specs.declared.outcome.Outcome.{Outcome}
use Rattle.ioa_board.specs.Outcomes.{HaveEnded}
use Rattle.ioa_run.specs.TalliedRuns.{IsTallied}
use Rattle.ioa_run.specs.Tallies.{AreAgreeing, blank, tally_of}
use Rattle.ioa_run.proofs.Adding.{adding_up, both_ok}
use Rattle.ioa_run.proofs.Tallying.{agreeing_blank}
use Rattle.ioa_run.proofs.threads.run_on.Goals as goal

-- the local entries are those of the run's program
pub of-crew-requires-clause-its : goal.of-crew-requires-clause-its
of-crew-requires-clause-its g c = c.in_ok-locals.ensures ∙ c.requires.program

-- no turn is counted before the first
pub of-crew-requires-clause-tallied : goal.of-crew-requires-clause-tallied
of-crew-requires-clause-tallied g c =
    let p : Prog = g.T.Terms.program in
    let ts = map tally_of c.in_ok-blank.blank.items in
    subst (λ (x : Prog). AreAgreeing x.members c.args.room.reports ts) (sym c.requires.own)
    (agreeing_blank p.members (length p.members + 1) c.args.room.reports ts c.requires.reports
    (c.in_ok-blank.ensures ∙ ap (map blank) (c.members.ensures.value ∙ ap (λ (x : Prog). x.members) c.requires.program)))

-- the tallies agree with the reports of a run in which no worker is silent, and are added up
pub returns-clause-tallied : goal.returns-clause-tallied
returns-clause-tallied g c =
    let p : Prog = g.T.Terms.program in
    let o = c.finish-outcome.result.0 in
    let ts = c.finish-outcome.result.1.items in
    let sound : IsProgram p = subst IsProgram c.requires.program c.members.ensures.sound in
    both_ok c.unless_silent.result (λ r. r ≡ o) (λ r. HaveEnded c.args.turns (log_end r.end) r.reports.items) (λ r. IsTallied p g.T.Terms.before r ts)
    (λ r same ended.
    subst (λ (x : Outcome). IsTallied p g.T.Terms.before x ts) (sym same)
    (adding_up p g.T.Terms.before g.T.Terms.inputs g.T.Terms.turns o ts sound.members c.finish-outcome.ensures.outcome
    (subst (λ n. HaveEnded n (log_end o.end) o.reports.items) c.requires.turns (subst (λ (x : Outcome). HaveEnded c.args.turns (log_end x.end) x.reports.items) same ended)) c.requires.few c.finish-outcome.ensures.tallied))
    c.unless_silent.ensures.same c.unless_silent.ensures.ended
