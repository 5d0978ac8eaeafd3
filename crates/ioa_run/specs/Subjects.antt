-- What a program's workers do is what those of whatever it runs as do: of the hosts, of their composition, and of its own table.
use Rattle.std.specs.Prelude.{◌≡◌, ℕ, IsTrue, List, Option, None, Some, Result, Ok, Err, length, map, slice_get}
use Rattle.std.specs.List.{AllZip}
use Rattle.ioa_value.specs.Actions.{Act}
use Rattle.ioa_value.specs.Plain.{Val}
use Rattle.ioa_value.specs.Table.{distinct}
use Rattle.ioa_tree.specs.Components.{Component}
use Rattle.ioa_tree.specs.Compositions.{Member}
use Rattle.ioa_tree.specs.Hosts.{Host, Hosted, IsHosted}
use Rattle.ioa_tree.specs.Instances.{variable_names}
use Rattle.ioa_tree.specs.Likes.{AllRelated}
use Rattle.ioa_tree.specs.Proposing.{Words}
use Rattle.ioa_tree.specs.Runs.{run}
use Rattle.ioa_tree.specs.Tree.{CompositionTree, SourceTree}
use Rattle.ioa_tree.specs.WellFormed.{WellFormed}
use Rattle.ioa_compile.specs.Programs.{Prog}
use Rattle.ioa_compile.specs.Subjects.{InSlots, RunsAs, State, Subject, its_components, its_names, its_starts, of_composition, of_hosts, of_table}
use Rattle.ioa_compile.specs.Tables.{IsProgram, start_states, tabled}
use Rattle.ioa_parts.specs.Nodes.{Node}
use Rattle.ioa_system.specs.Logs.{Logged, log_end, log_entry}
use Rattle.ioa_system.specs.Systems.{values_of}
use Rattle.ioa_system.specs.declared.log.LogEnd.{LogEnd}
use Rattle.ioa_system.specs.declared.log.LogEntry.{LogEntry}
use Rattle.ioa_run.specs.Alone.{IsAloneFrom, IsOutcomeFrom, turns_since}
use Rattle.ioa_board.specs.Boards.{Intent, IsSound, Standing, now_of, intent}
use Rattle.ioa_board.specs.Histories.{GoesOn, acts_of, since}
use Rattle.ioa_board.specs.Outcomes.{ending, with_faulted}
use Rattle.ioa_board.specs.Planning.{Makes, answer_of, intent_of}
use Rattle.ioa_run.specs.Played.{events_since}
use Rattle.ioa_board.specs.Reports.{AreTold}
use Rattle.ioa_board.specs.Resuming.{resumption}
use Rattle.ioa_run.specs.Schedules.{Answers, Event, Plays, Schedule, copy, schedule_from, with_plan}
use Rattle.ioa_run.specs.Turns.{Turns}
use Rattle.ioa_board.specs.declared.answer.Answer.{Answer}
use Rattle.ioa_board.specs.declared.outcome.Outcome.{Outcome}
use Rattle.ioa_board.specs.declared.planned.Planned.{Planned}

-- ---- boards and turns of which the states are related

-- the same history and fault
pub record BoardsLike {S T : Type 0} (R : ℕ → S → T → Type 0) (b : Standing S) (d : Standing T) : Type 0 where
  pub history : b.history ≡ d.history
  pub failure : b.failure ≡ d.failure
  pub states : AllRelated R 0 b.states d.states

-- the same history, fault, reports and words left, and the same workers that take no more turns
pub record TurnsLike {S T : Type 0} (R : ℕ → S → T → Type 0) (t : Turns S) (u : Turns T) : Type 0 where
  pub board : BoardsLike R t.board u.board
  pub reports : t.reports ≡ u.reports
  pub words : t.words ≡ u.words
  pub ended : t.ended ≡ u.ended

-- the plans of one action, made in related states
pub record IntentsLike {S T : Type 0} (R : ℕ → S → T → Type 0) (ps : List (Component S)) (qs : List (Component T)) (p : Intent S) (q : Intent T) : Type 0 where
  pub action : Act
  pub states : List S
  pub others : List T
  pub related : AllRelated R 0 states others
  pub left : p ≡ intent ps action states
  pub right : q ≡ intent qs action others

-- or none on either side
abbrev pub PlansLike : {S T : Type 0} → (ℕ → S → T → Type 0) → List (Component S) → List (Component T) → Option (Intent S) → Option (Intent T) → Type 0
PlansLike R ps qs None None = Unit {0}
PlansLike R ps qs None (Some q) = ⊥
PlansLike R ps qs (Some p) None = ⊥
PlansLike R ps qs (Some p) (Some q) = IntentsLike R ps qs p q

-- the same history and fault, and each worker's plan
pub record SchedulesLike {S T : Type 0} (R : ℕ → S → T → Type 0) (ps : List (Component S)) (qs : List (Component T)) (s : Schedule S) (u : Schedule T) : Type 0 where
  pub board : BoardsLike R s.board u.board
  pub plans : AllZip (PlansLike R ps qs) s.plans u.plans

-- both are refused alike, or stand for boards that are alike
abbrev pub ResumedLike : {S T E : Type 0} → (ℕ → S → T → Type 0) → Result (Standing S) E → Result (Standing T) E → Type 0
ResumedLike R (Ok b) (Ok d) = BoardsLike R b d
ResumedLike R (Ok b) (Err e) = ⊥
ResumedLike R (Err e) (Ok d) = ⊥
ResumedLike R (Err e) (Err f) = e ≡ f

-- the log is resumed by the subject and by the program, at these boards
pub record AreResumed (p : Prog) (s : Subject) (log : Logged) (d : Standing (State s)) (b : Standing (List Val)) : Type 0 where
  pub subject : resumption (its_components s) (its_starts s) log ≡ Ok d
  pub program : resumption (tabled p) (start_states p) log ≡ Ok b

-- ---- what is given

-- the log, its end and the slots are those of the subject's board, whose history is legal and whose fault is its action's; and they are those
-- of the subject's run over the logged actions
pub record IsLogAs (p : Prog) (s : Subject) (b : Standing (State s)) (log : List LogEntry) (end : LogEnd) (ns : List Node) : Type 0 where
  pub entries : map log_entry log ≡ with_faulted b.history b.failure
  pub ends : log_end end ≡ ending b.history b.failure
  pub states : AllRelated (InSlots p s) 0 b.states (values_of ns)
  pub sound : IsSound (its_components s) (its_starts s) b
  pub runs : run (its_components s) (acts_of (with_faulted b.history b.failure)) (its_starts s)
      ≡ record { performed = length b.history; states = b.states; ending = ending b.history b.failure }

-- it goes on from what was done before, and the reports tell of what is new
abbrev pub IsOutcomeAs : Prog → Subject → List (ℕ × Act) → List Act → ℕ → Outcome → Type 0
IsOutcomeAs p s before inputs turns o =
    (b : Standing (State s)) × IsLogAs p s b o.log.items o.end o.states.items × GoesOn before b.history
    × AreTold (length (its_names s)) inputs turns (since before b.history) b.failure o.reports.items

-- the log, the end, the slots and the reports are those of the subject's run on one thread since this board
pub record IsAloneAs (p : Prog) (s : Subject) (b : Standing (State s)) (words : List Words) (inputs : List Act) (turns : ℕ) (o : Outcome) : Type 0 where
  pub log : IsLogAs p s (turns_since s b words inputs turns).board o.log.items o.end o.states.items
  pub reports : o.reports.items ≡ (turns_since s b words inputs turns).reports

-- ---- laws

-- a log is resumed by the program just where it is by the subject, with the same history, and the slots hold the states to which it leads; else both refuse it
-- alike
abbrev pub SameResumption : Type 0
SameResumption =
    (p : Prog) (s : Subject) (log : Logged) → RunsAs p s
    → ResumedLike (InSlots p s) (resumption (its_components s) (its_starts s) log) (resumption (tabled p) (start_states p) log)

-- since a log that is resumed, that of nothing among them, the subject's run on one thread has the same history, fault, reports and words left, and the
-- program's slots hold the states that it reaches
abbrev pub SameTurns : Type 0
SameTurns =
    (p : Prog) (s : Subject) (log : Logged) (d : Standing (State s)) (b : Standing (List Val)) (words : List Words) (inputs : List Act) (turns : ℕ)
    → IsProgram p → RunsAs p s → AreResumed p s log d b → TurnsLike (InSlots p s) (turns_since s d words inputs turns) (turns_since (of_table p) b words inputs turns)

-- so of what such a run gives
abbrev pub SameAlone : Type 0
SameAlone =
    (p : Prog) (s : Subject) (log : Logged) (d : Standing (State s)) (b : Standing (List Val)) (words : List Words) (inputs : List Act) (turns : ℕ) (o : Outcome)
    → IsProgram p → RunsAs p s → AreResumed p s log d b → IsAloneFrom p b words inputs turns o → IsAloneAs p s d words inputs turns o

-- a legal history and its fault are the subject's, and the slots hold the states to which it leads it
abbrev pub SubjectHistory : Type 0
SubjectHistory =
    (p : Prog) (s : Subject) (b : Standing (List Val)) → RunsAs p s → IsSound (tabled p) (start_states p) b
    → (d : Standing (State s)) × IsSound (its_components s) (its_starts s) d × BoardsLike (InSlots p s) d b

-- what is legal for the subject is the program's, too
abbrev pub ProgramHistory : Type 0
ProgramHistory =
    (p : Prog) (s : Subject) (d : Standing (State s)) → RunsAs p s → IsSound (its_components s) (its_starts s) d
    → (b : Standing (List Val)) × IsSound (tabled p) (start_states p) b × BoardsLike (InSlots p s) d b

-- so of what any run gives, whatever was done before it
abbrev pub SameOutcome : Type 0
SameOutcome =
    (p : Prog) (s : Subject) (before : List (ℕ × Act)) (inputs : List Act) (turns : ℕ) (o : Outcome) → RunsAs p s → IsOutcomeFrom p before inputs turns o
    → IsOutcomeAs p s before inputs turns o

-- the variables of each component have names of their own, as those of a well formed source have; a table's have none, but places
abbrev pub AreApart : Subject → Type 0
AreApart (of_hosts h) = (i : ℕ) (p : Host) → slice_get h.hosts i ≡ Some p → IsTrue (distinct (variable_names p.instance.automaton))
AreApart (of_composition c) = (i : ℕ) (m : Member) → slice_get c.members i ≡ Some m → IsTrue (distinct (variable_names m.instance.automaton))
AreApart (of_table p) = Unit {0}

abbrev pub HostsApart : Type 0
HostsApart = (s : SourceTree) (t : CompositionTree) (h : Hosted) → WellFormed s → IsHosted s t h → AreApart (of_hosts h)

-- since a log that is resumed, that of nothing among them, the subject's workers are answered the same to every list of events
abbrev pub SubjectSchedule : Type 0
SubjectSchedule =
    (p : Prog) (s : Subject) (log : Logged) (d : Standing (State s)) (b : Standing (List Val)) (es : List Event) (xs : List Answer) (u : Schedule (List Val))
    → AreApart s → RunsAs p s → AreResumed p s log d b → Plays (tabled p) es (schedule_from b) xs u
    → (t : Schedule (State s)) × Plays (its_components s) es (schedule_from d) xs t × SchedulesLike (InSlots p s) (its_components s) (tabled p) t u

-- and so are the program's, as the subject's are
abbrev pub ProgramSchedule : Type 0
ProgramSchedule =
    (p : Prog) (s : Subject) (log : Logged) (d : Standing (State s)) (b : Standing (List Val)) (es : List Event) (xs : List Answer) (t : Schedule (State s))
    → AreApart s → RunsAs p s → AreResumed p s log d b → Plays (its_components s) es (schedule_from d) xs t
    → (u : Schedule (List Val)) × Plays (tabled p) es (schedule_from b) xs u × SchedulesLike (InSlots p s) (its_components s) (tabled p) t u

-- since a log that is resumed, the subject's run on one thread is a play of the same events with the same answers as the program's
abbrev pub SameEvents : Type 0
SameEvents =
    (p : Prog) (s : Subject) (log : Logged) (d : Standing (State s)) (b : Standing (List Val)) (words : List Words) (inputs : List Act) (turns : ℕ)
    → IsProgram p → RunsAs p s → AreResumed p s log d b → events_since s d words inputs turns ≡ events_since (of_table p) b words inputs turns

-- what planning by a copy of the program's slots answers a worker is what the subject's machine answers to its copy, and the plans are of the
-- same action in related states
abbrev pub SameCopy : Type 0
SameCopy =
    (p : Prog) (s : Subject) (w : ℕ) (a : Act) (t : Schedule (State s)) (u : Schedule (List Val)) (r : Planned) → RunsAs p s
    → length u.board.states ≡ length p.members → SchedulesLike (InSlots p s) (its_components s) (tabled p) t u → Makes p w a (now_of (tabled p) a u.board.states) r
    → (v : Schedule (State s)) × Answers (its_components s) (copy w a) t (answer_of r) v × SchedulesLike (InSlots p s) (its_components s) (tabled p) v (with_plan u w (intent_of r))
