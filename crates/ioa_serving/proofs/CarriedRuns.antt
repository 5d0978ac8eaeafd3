-- Runs by an object that is compiled of a source are those of the source's composition.
use Rattle.std.proofs.Common.{◌≡◌, ◌∙◌, ◌↔◌, ℕ, Bool, true, false, List, Option, Ok, Err, refl, sym, ap, length, subst}
use Rattle.std.specs.Io.KnownBytes.{Appends}
use Rattle.std.proofs.lemmas.Bool.{false≢true}
use Rattle.ioa_value.specs.Actions.{Act, Name}
use Rattle.ioa_value.specs.Plain.{Val}
use Rattle.ioa_tree.specs.Hosts.{Hosted}
use Rattle.ioa_tree.specs.Proposing.{Words}
use Rattle.ioa_compile.specs.Programs.{Prog}
use Rattle.ioa_compile.specs.Subjects.{Runs, RunsAs, State, Subject, its_components, its_names, its_starts, of_composition, of_hosts, of_table}
use Rattle.ioa_compile.specs.Tables.{IsProgram, start_states, tabled}
use Rattle.ioa_compile.proofs.Subjects.{does_as}
use Rattle.ioa_object.proofs.ObjectLaws.{one_program}
use Rattle.ioa_system.specs.Histories.{TellsHistory}
use Rattle.ioa_system.specs.Logs.{Logged, actions_of}
use Rattle.ioa_log.specs.Judging.{judged}
use Rattle.ioa_log.specs.LogTexts.{log_text}
use Rattle.ioa_log.proofs.Histories.{agrees_to_history}
use Rattle.ioa_log.proofs.AgreeingLogs.{judged_as, text_as}
use Rattle.ioa_board.specs.declared.report.Report.{Report}
use Rattle.ioa_board.specs.Boards.{Standing}
use Rattle.ioa_board.specs.Histories.{since}
use Rattle.ioa_board.specs.Outcomes.{ending, with_faulted}
use Rattle.ioa_board.specs.Reports.{AreTold}
use Rattle.ioa_board.specs.Resuming.{resumption}
use Rattle.ioa_run.specs.declared.tally.Tries.{Tries}
use Rattle.ioa_run.specs.Tallies.{AddUp}
use Rattle.ioa_board.specs.declared.run_err.RunErr.{RunErr}
use Rattle.ioa_run.proofs.Subjects.{program_history, same_turns, subject_history}
use Rattle.ioa_serving.specs.Alone.{AreTurnsSince, IsRoundRobin, IsRun, told_of, round_robin_since, wants_of_run, written}
use Rattle.ioa_serving.specs.Carried.{ComesTo, HistoriesAsSource, RefusesAsSource, RunsAsSource, TakesTurnsAsSource}
use Rattle.ioa_serving.specs.Headline.{IsFileOf}
use Rattle.ioa_serving.specs.RunReports.{its_own_names}
use Rattle.ioa_serving.proofs.Carried.{begins}
use Rattle.ioa_serving.proofs.Declared.{one_composition}
use Rattle.ioa_serving.proofs.Going.{refused_as, resumed_as, table_refuses, table_resumed}
use Rattle.ioa_serving.proofs.Hosted.{count_same, own_names_same, told_same, wants_same}

-- ---- the program's own table and what it runs as

module _ (p : Prog) (s : Subject) (runs : RunsAs p s) where
  same_judged : (log : Logged) → judged (tabled p) (start_states p) log ≡ judged (its_components s) (its_starts s) log
  same_judged log = sym (judged_as p s runs log)

  same_legal : (log : Logged) → TellsHistory (tabled p) (start_states p) log ↔ TellsHistory (its_components s) (its_starts s) log
  same_legal log = (
    λ k. (agrees_to_history (its_components s) (its_starts s) log).0 (sym (same_judged log) ∙ (agrees_to_history (tabled p) (start_states p) log).1 k),
    λ k. (agrees_to_history (tabled p) (start_states p) log).0 (same_judged log ∙ (agrees_to_history (its_components s) (its_starts s) log).1 k),
  )

  same_count : length (its_names (of_table p)) ≡ length (its_names s)
  same_count = sym (count_same p (of_table p) refl) ∙ count_same p s runs

  same_written : (as_log : Bool) (log : Logged) → written (of_table p) as_log log ≡ written s as_log log
  same_written true log = ap (λ ts. log_text ts log) (does_as p s runs).types
  same_written false log = text_as p s runs (actions_of log)

  same_told : (told : Bool) (reports : List Report) (new : List (ℕ × Act)) (ts : List (List Tries)) (script : List Act) → told_of (of_table p) told reports new ts script ≡ told_of s told reports new ts script
  same_told told reports new ts script = sym (told_same p (of_table p) refl told reports new ts script) ∙ told_same p s runs told reports new ts script

  same_own : its_own_names (of_table p) ≡ its_own_names s
  same_own = own_names_same p s runs

  same_wants : (reports : List Report) → wants_of_run (of_table p) reports ≡ wants_of_run s reports
  same_wants reports = sym (wants_same p (of_table p) refl reports) ∙ wants_same p s runs reports

  abbrev subject_run : (before : List (ℕ × Act)) (script : List Act) (turns : ℕ) (log : Logged) (reports : List Report)
      → IsRun (of_table p) before script turns log reports → IsRun s before script turns log reports
  subject_run before script turns log reports k = record {
    legal = (same_legal log).0 k.legal;
    history = k.history;
    failure = k.failure;
    entries = k.entries;
    ends = k.ends;
    goes_on = k.goes_on;
    told = subst (λ n. AreTold n script turns (since before k.history) k.failure reports) same_count k.told;
    ended = k.ended;
  }

  abbrev own_run : (before : List (ℕ × Act)) (script : List Act) (turns : ℕ) (log : Logged) (reports : List Report)
      → IsRun s before script turns log reports → IsRun (of_table p) before script turns log reports
  own_run before script turns log reports k = record {
    legal = (same_legal log).1 k.legal;
    history = k.history;
    failure = k.failure;
    entries = k.entries;
    ends = k.ends;
    goes_on = k.goes_on;
    told = subst (λ n. AreTold n script turns (since before k.history) k.failure reports) (sym same_count) k.told;
    ended = k.ended;
  }

  comes_alike : (first : Logged) (script : List Act) (turns : ℕ) (log : Logged) (reports : List Report) (as_log told : Bool) (before after telling : Option (List ℕ)) (wants : List ℕ)
      → ComesTo (of_table p) first script turns log reports as_log told before after telling wants ↔ ComesTo s first script turns log reports as_log told before after telling wants
  comes_alike first script turns log reports as_log told before after telling wants = (
    λ k. record {
      resumed = resumed_as p s runs first k.resumed.0 k.resumed.1;
      run = subject_run first.entries script turns log reports k.run;
      tallies = k.tallies;
      tallied = subst (λ (names : List (List Name)). AddUp (since first.entries k.run.history) names reports k.tallies) same_own k.tallied;
      output = subst (Appends before after) (same_written as_log log) k.output;
      tells = k.tells ∙ same_told told reports (since first.entries k.run.history) k.tallies script;
      wanting = k.wanting ∙ same_wants reports;
    },
    λ k. record {
      resumed = table_resumed p s runs first k.resumed.0 k.resumed.1;
      run = own_run first.entries script turns log reports k.run;
      tallies = k.tallies;
      tallied = subst (λ (names : List (List Name)). AddUp (since first.entries k.run.history) names reports k.tallies) (sym same_own) k.tallied;
      output = subst (Appends before after) (sym (same_written as_log log)) k.output;
      tells = k.tells ∙ sym (same_told told reports (since first.entries k.run.history) k.tallies script);
      wanting = k.wanting ∙ sym (same_wants reports);
    },
  )

  turns_alike : IsProgram p → (first : Logged) (words : List Words) (script : List Act) (turns : ℕ) (log : Logged) (reports : List Report)
      → AreTurnsSince (of_table p) first words script turns log reports ↔ AreTurnsSince s first words script turns log reports
  turns_alike program first words script turns log reports = (
    λ k. let d = resumed_as p s runs first k.0 k.1 in (d.0, d.1, (both d.0 k.0 d.1 k.1).0 k.2),
    λ k. let b = table_resumed p s runs first k.0 k.1 in (b.0, b.1, (both k.0 b.0 k.1 b.1).1 k.2),
  )
    where
      with_faulted_same : {S T : Type 0} (b : Standing S) (d : Standing T) → b.history ≡ d.history → b.failure ≡ d.failure → with_faulted b.history b.failure ≡ with_faulted d.history d.failure
      with_faulted_same b d e f = ap (λ es. with_faulted es b.failure) e ∙ ap (with_faulted d.history) f

      ending_same : {S T : Type 0} (b : Standing S) (d : Standing T) → b.history ≡ d.history → b.failure ≡ d.failure → ending b.history b.failure ≡ ending d.history d.failure
      ending_same b d e f = ap (λ es. ending es b.failure) e ∙ ap (ending d.history) f

      both : (d : Standing (State s)) (b : Standing (List Val)) → resumption (its_components s) (its_starts s) first ≡ Ok d → resumption (tabled p) (start_states p) first ≡ Ok b
          → IsRoundRobin (of_table p) b words script turns log reports ↔ IsRoundRobin s d words script turns log reports
      both d b its table =
          let l = same_turns p s first d b words script turns program runs (record { subject = its; program = table }) in
          let entries = with_faulted_same (round_robin_since s d words script turns).board (round_robin_since (of_table p) b words script turns).board l.board.history l.board.failure in
          let ends = ending_same (round_robin_since s d words script turns).board (round_robin_since (of_table p) b words script turns).board l.board.history l.board.failure in (
            λ k. record { entries = k.entries ∙ sym entries; ends = k.ends ∙ sym ends; told = k.told ∙ sym l.reports },
            λ k. record { entries = k.entries ∙ entries; ends = k.ends ∙ ends; told = k.told ∙ l.reports },
          )

  refuses_alike : (log : Logged) (e : RunErr) → (resumption (tabled p) (start_states p) log ≡ Err e) ↔ (resumption (its_components s) (its_starts s) log ≡ Err e)
  refuses_alike log e = (refused_as p s runs log e, table_refuses p s runs log e)

-- ---- the object and its source

-- what holds of the program's own table just where it holds of the hosts is so of what the object gives just where it is so of what the
-- source declares
module _ (text object : List ℕ) (name of : Option Name) (p : Prog) (h : Hosted) (declares : IsFileOf text name (of_hosts h)) (given : IsFileOf object of (of_table p))
    (P : Subject → Type 0) (same : P (of_table p) ↔ P (of_hosts h)) where
  to_source : (x : Subject) × IsFileOf object of x × P x → (x : Subject) × IsFileOf text name x × P x
  to_source (of_hosts k, gives, holds) = absurd (false≢true (sym gives.0 ∙ begins object p given.object))
  to_source (of_composition d, gives, holds) = absurd gives
  to_source (of_table q, gives, holds) = (of_hosts h, declares, same.0 (subst (λ x. P (of_table x)) (one_program object q p gives.object given.object) holds))

  to_object : (x : Subject) × IsFileOf text name x × P x → (x : Subject) × IsFileOf object of x × P x
  to_object (of_hosts k, gives, holds) = (of_table p, given, same.1 (subst (λ x. P (of_hosts x)) (one_composition text name k h gives.1 declares.1) holds))
  to_object (of_composition d, gives, holds) = absurd gives
  to_object (of_table q, gives, holds) = absurd (false≢true (sym declares.0 ∙ begins text q gives.object))

pub runs_as_source : RunsAsSource
runs_as_source text object name of p first script turns log reports as_log told before after telling wants (h, declares, (q, runs, is)) given =
    let r : Runs p h = subst (λ x. Runs x h) (one_program object q p is given.object) runs in
    let same = comes_alike p (of_hosts h) r first script turns log reports as_log told before after telling wants in
    let P : Subject → Type 0 = λ x. ComesTo x first script turns log reports as_log told before after telling wants in
    (to_source text object name of p h declares given P same, to_object text object name of p h declares given P same)

pub turns_as_source : TakesTurnsAsSource
turns_as_source text object name of p first words script turns log reports (h, declares, (q, runs, is)) given =
    let r : Runs p h = subst (λ x. Runs x h) (one_program object q p is given.object) runs in
    let same = turns_alike p (of_hosts h) r given.object.program first words script turns log reports in
    let P : Subject → Type 0 = λ x. AreTurnsSince x first words script turns log reports in
    (to_source text object name of p h declares given P same, to_object text object name of p h declares given P same)

pub refuses_as_source : RefusesAsSource
refuses_as_source text object name of p log e (h, declares, (q, runs, is)) given =
    let r : Runs p h = subst (λ x. Runs x h) (one_program object q p is given.object) runs in
    let same = refuses_alike p (of_hosts h) r log e in
    let P : Subject → Type 0 = λ x. resumption (its_components x) (its_starts x) log ≡ Err e in
    (to_source text object name of p h declares given P same, to_object text object name of p h declares given P same)

pub histories_as_source : HistoriesAsSource
histories_as_source text object name of p h (k, declares, (q, runs, is)) given own =
    let r : Runs p k = subst (λ x. Runs x k) (one_program object q p is given.object) runs in
    let mine : Runs p h = subst (Runs p) (one_composition text name k h declares.1 own) r in
    (λ b sound. subject_history p (of_hosts h) b mine sound, λ d sound. program_history p (of_hosts h) d mine sound)
