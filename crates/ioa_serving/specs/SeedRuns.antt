-- Runs of a program by many seeds, and what programs answer to them, before they are told of what they run as.
use Rattle.std.specs.Prelude.{◌≡◌, ◌≢◌, ◌≤◌, ◌^◌, ◌⊎◌, ◌∷◌, ℕ, suc, false, List, [], Bool, true, Err, Ok, None, Option, Some, length, map}
use Rattle.std.specs.Io.KnownBytes.{Appends, Keeps}
use Rattle.std.specs.List.{AllZip}
use Rattle.std.specs.Option.{option_copied, option_map}
use Rattle.rand_chacha.specs.ChaCha.{ChaCha}
use Rattle.ioa_value.specs.Actions.{Act, Name, act_of}
use Rattle.ioa_tree.specs.Hosts.{Hosted}
use Rattle.ioa_tree.specs.Invariants.{Broken, first_broken}
use Rattle.ioa_tree.specs.Runs.{Ending}
use Rattle.ioa_compose.specs.declared.composition.Composition.{Composition}
use Rattle.ioa_compose.specs.Held.{composed_of}
use Rattle.ioa_compose.specs.Simulates.{Simulates}
use Rattle.ioa_compile.specs.Programs.{Prog}
use Rattle.ioa_compile.specs.Subjects.{Runs, Subject, of_composition, of_hosts, of_table}
use Rattle.ioa_compile.specs.Tables.{start_states, tabled}
use Rattle.ioa_coverage.specs.declared.coverage.Coverage.{Coverage}
use Rattle.ioa_coverage.specs.declared.origin.Origin.{Origin}
use Rattle.ioa_coverage.specs.Effects.{CoversAll}
use Rattle.ioa_system.specs.Logs.{Logged, actions_of, log_end, log_entry, logged}
use Rattle.ioa_system.specs.Outcomes.{ending_of}
use Rattle.ioa_monitor.specs.Monitoring.{IsSeen, monitored}
use Rattle.ioa_inspect.specs.Breaking.{broken_of}
use Rattle.ioa_board.specs.declared.outcome.Outcome.{Outcome}
use Rattle.ioa_board.specs.declared.run_err.RunErr.{RunErr}
use Rattle.ioa_run.specs.Alone.{IsAloneSince, IsOutcomeFrom, NoMemory, RefusesResumed}
use Rattle.ioa_board.specs.Outcomes.{HaveEnded}
use Rattle.ioa_run.specs.Seeds.{words_from}
use Rattle.ioa_request.specs.Keys.{numbered_key}
use Rattle.ioa_request.specs.declared.seeds.Seeds.{Seeds}
use Rattle.ioa_serving.specs.declared.failure.Failure.{Failure}
use Rattle.ioa_serving.specs.declared.judged.JudgedRun.{JudgedRun}
use Rattle.ioa_serving.specs.declared.seed_counts.Counts.{Counts}
use Rattle.ioa_serving.specs.declared.seed_tally.Tally.{Tally}
use Rattle.ioa_serving.specs.declared.sown.Sown.{Sown}
use Rattle.ioa_serving.specs.HasRun.{HasReady}
use Rattle.ioa_serving.specs.Headline.{IsFileOf}
use Rattle.ioa_serving.specs.Logs.{performed_in}
use Rattle.ioa_serving.specs.Seeds.{IsSeedsCut, IsShortest, Judged, broken_among, dones_among, faults_among, monitors_of, performed_by_all, refusals_among, seeds_count}
use Rattle.ioa_serving.specs.Serving.{run_failure}
use Rattle.ioa_serving.specs.Streams.{AreStreams}

-- ---- what is read

-- the text is a source, all is seen that the hosts do of its composition of this name, and the program does what they do
abbrev pub IsSpecification : List ℕ → Name → Prog → Type 0
IsSpecification text name p = (h : Hosted) × IsFileOf text (Some name) (of_hosts h) × IsSeen h × Runs p h

-- where invariants are asked for, the composition stands for the hosts
abbrev pub StandsFor : Bool → Subject → Option Composition → Type 0
StandsFor false x c = c ≡ None
StandsFor true (of_hosts h) (Some c) = Simulates h (composed_of c)
StandsFor true (of_hosts h) None = ⊥
StandsFor true (of_composition d) c = ⊥
StandsFor true (of_table p) c = ⊥

-- the composition whose invariants are asked, where they are asked for: that of the source
abbrev pub asked : Bool → Option Origin → Option Composition
asked false source = None
asked true None = None
asked true (Some x) = Some x.composition

-- all was read, of a file that may hold this text, which has the specifications
pub record HasSown (holds : Name → List ℕ → Type 0) (s : Seeds) (w : Sown) : Type 0 where
  pub text : List ℕ
  pub held : holds s.run.file.now text
  pub ready : HasReady holds s.run w.ready
  pub gives : IsFileOf text (option_copied s.run.composition) ready.subject
  pub specified : AllZip (IsSpecification text) (monitors_of s) w.specifications.items
  pub stands : StandsFor s.invariants ready.subject (asked w.invariants w.ready.source)

-- ---- one run

-- why the program's table does not accept what the log tells to be performed; none where it does
abbrev pub table_answer : Logged → Prog → Option Ending
table_answer log p = monitored (tabled p) (performed_in log) (start_states p)

-- the first invariant that the composition breaks in a state of the log's run, where there is a composition
abbrev pub broken_in : Option Composition → Logged → Option (Option Broken)
broken_in None log = None
broken_in (Some c) log = Some (first_broken (composed_of c) (actions_of log))

-- a run that is judged, as plain data
abbrev pub judged_of : JudgedRun → Judged
judged_of j = record { log = logged j.log; answers = map (option_map ending_of) j.answers.items; inspected = option_map (option_map broken_of) j.inspected }

-- a run of the program by the seed of this number, on one thread, has this log
pub record IsSeedRun (p : Prog) (before : Logged) (script : List Act) (turns n : ℕ) (log : Logged) : Type 0 where
  pub outcome : Outcome
  pub sources : List ChaCha
  pub came : IsOutcomeFrom p before.entries script turns outcome
  pub ended : HaveEnded turns (log_end outcome.end) outcome.reports.items
  pub memory : NoMemory outcome.reports.items
  pub streams : AreStreams (numbered_key n) (length p.members) sources
  pub alone : IsAloneSince p before (map words_from sources) script turns outcome
  pub begun : RefusesResumed p script turns before (Ok outcome)
  pub is_log : log ≡ record { entries = map log_entry outcome.log.items; ending = log_end outcome.end }

-- and so the specifications' tables answer to it
pub record IsSeedJudgment (w : Sown) (turns n : ℕ) (j : Judged) : Type 0 where
  pub run : IsSeedRun w.ready.program (logged w.ready.log) (map act_of w.ready.script.items) turns n j.log
  pub answers : j.answers ≡ map (table_answer j.log) w.specifications.items
  pub inspected : j.inspected ≡ broken_in (asked w.invariants w.ready.source) j.log

abbrev pub AreSeedJudgments : Sown → ℕ → ℕ → List Judged → Type 0
AreSeedJudgments w turns n [] = Unit {0}
AreSeedJudgments w turns n (j ∷ js) = IsSeedJudgment w turns n j × AreSeedJudgments w turns (suc n) js

-- why it is not run: as no run of it is, or since memory is short or refused to one of its workers
abbrev pub IsSeedRefused : Sown → ℕ → RunErr → Type 0
IsSeedRefused w turns e =
    (e ≡ RunErr.OutOfMemory) ⊎ ((e ≢ RunErr.Threads) × RefusesResumed w.ready.program (map act_of w.ready.script.items) turns (logged w.ready.log) (Err e))

-- ---- all runs

-- so many runs did not end by a fault, so many did, so many each of the specifications does not accept, and so many break an invariant
pub record IsCountOf (specifications : ℕ) (c : Counts) (js : List Judged) : Type 0 where
  pub done : c.done ≡ dones_among js
  pub fault : c.fault ≡ faults_among js
  pub refusals : c.refusals.items ≡ refusals_among specifications js
  pub broken : c.broken ≡ broken_among js

-- and of those that are refused this is the shortest log
abbrev pub IsTallyOf : ℕ → Tally → List Judged → Type 0
IsTallyOf specifications t js = IsCountOf specifications t.counts js × IsShortest js (option_map logged t.shortest)

-- how often each entry of the program is performed in them is counted, and what the effects of its source take, where it is asked for
abbrev pub IsCovered : Prog → Option Origin → Bool → Option Coverage → List Judged → Type 0
IsCovered p source false o js = o ≡ None
IsCovered p source true None js = ⊥
IsCovered p source true (Some c) js = CoversAll p source (performed_by_all js) c

-- all runs from the first to the last number, which has 64 bits, are counted, and this text of them is written
pub record IsTold (w : Sown) (s : Seeds) (text : List ℕ) (old new : Option (List ℕ)) (t : Tally) (js : List Judged) : Type 0 where
  pub count : length js ≡ seeds_count s
  pub runs : AreSeedJudgments w s.run.turns s.first js
  pub tallied : IsTallyOf (length w.specifications.items) t js
  pub covered : IsCovered w.ready.program w.ready.source s.run.coverage t.coverage js
  pub within : length js ≤ 2 ^ 64
  pub output : Appends old new text

-- or the first ones, and then the device failed, or memory was short
pub record IsBegun (w : Sown) (s : Seeds) (failed : Type 0) (old new : Option (List ℕ)) (e : Failure) : Type 0 where
  pub judged : List Judged
  pub few : length judged ≤ seeds_count s
  pub runs : AreSeedJudgments w s.run.turns s.first judged
  pub cut : IsSeedsCut s judged failed old new e

-- nothing was run
abbrev pub IsNoneRun : Sown → ℕ → Option (List ℕ) → Option (List ℕ) → Failure → Type 0
IsNoneRun w turns old new e = ((r : RunErr) × (e ≡ run_failure r) × IsSeedRefused w turns r) × Keeps old new
