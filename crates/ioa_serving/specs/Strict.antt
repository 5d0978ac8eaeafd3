-- What a monitor answers that is asked strictly, from the bytes that are read to the bytes that are written: an action that has a name of the
-- specification's is not passed over, and one has to be taken.
use Rattle.std.specs.Prelude.{◌≡◌, ℕ, ◌++◌, ◌∷◌, [], Bool, true, false, List, take, codes, Option, Some, None}
use Rattle.std.specs.Fmt.{decimal}
use Rattle.std.specs.Io.KnownBytes.{Appends}
use Rattle.std.specs.List.{list_any}
use Rattle.ioa_value.specs.Actions.{Act, Name}
use Rattle.ioa_value.specs.Table.{contains}
use Rattle.ioa_tree.specs.Components.{Component}
use Rattle.ioa_tree.specs.Runs.{Ending, done, not_an_action_at, not_enabled_at, fault_at}
use Rattle.ioa_compile.specs.Programs.{Prog}
use Rattle.ioa_compile.specs.Subjects.{RunsAs, Subject, its_components, its_starts, its_types}
use Rattle.ioa_compile.specs.Tables.{start_states, tabled}
use Rattle.ioa_system.specs.Endings.{ending_text}
use Rattle.ioa_system.specs.Logs.{Logged}
use Rattle.ioa_system.specs.Outcomes.{ending_of}
use Rattle.ioa_monitor.specs.Monitoring.{IsOpen, monitored}
use Rattle.ioa_log.specs.LogTexts.{ReadsLog}
use Rattle.ioa_watch.specs.AsMonitors.{AreItsOwn}
use Rattle.ioa_watch.specs.Names.{names_of}
use Rattle.ioa_watch.specs.Watched.{watched}
use Rattle.ioa_serving.specs.declared.status.Status.{Status}
use Rattle.ioa_serving.specs.declared.verdict.Verdict.{Verdict}
use Rattle.ioa_serving.specs.Failing.{Given}
use Rattle.ioa_serving.specs.Headline.{IsFileOf}
use Rattle.ioa_serving.specs.Json.{answer_json, verdict_line}
use Rattle.ioa_serving.specs.Logs.{performed_in}

-- ---- the answer

-- the actions are accepted; or one is refused, as a monitor refuses it; or the one of this index has a name of the specification's, and no component has it;
-- or none has such a name
pub data StrictAnswer : Type 0 where
  accepted : StrictAnswer
  refused : Ending → StrictAnswer
  passed_over : ℕ → StrictAnswer
  nothing_taken : StrictAnswer

-- where none is refused, by whether one has a name of the specification's
abbrev pub untaken_unless : Bool → StrictAnswer
untaken_unless true = accepted
untaken_unless false = nothing_taken

-- by this, and by what a stream of the actions is refused for
abbrev pub answer_on : Bool → Option Ending → StrictAnswer
answer_on named None = untaken_unless named
answer_on named (Some (not_an_action_at i)) = passed_over i
answer_on named (Some (done n)) = refused (done n)
answer_on named (Some (not_enabled_at i)) = refused (not_enabled_at i)
answer_on named (Some (fault_at c f i)) = refused (fault_at c f i)

abbrev pub has_named : List Name → List Act → Bool
has_named names acts = list_any (λ a. contains names a.name) acts

-- the first action that is not taken and has one of these names, by its index among all; where there is none, whether one was taken
abbrev pub strictly_monitored : {S : Type 0} → List Name → List (Component S) → List Act → List S → StrictAnswer
strictly_monitored names ps acts ss = answer_on (has_named names acts) (watched names ps acts ss)

-- what a monitor answers that passes actions over
abbrev pub plainly : Option Ending → StrictAnswer
plainly None = accepted
plainly (Some end) = refused end

-- Where none of the actions is passed over that has a name of the program's, and one has such a name, both answer the same.
abbrev pub AgreesWithMonitor : Prog → List Act → Type 0
AgreesWithMonitor p acts =
    AreItsOwn p acts → has_named (names_of p.members) acts ≡ true
    → strictly_monitored (names_of p.members) (tabled p) acts (start_states p) ≡ plainly (monitored (tabled p) acts (start_states p))

-- as it is told
abbrev pub strict_of : Verdict → StrictAnswer
strict_of Verdict.Accepted = accepted
strict_of (Verdict.Refused end) = refused (ending_of end)
strict_of (Verdict.PassedOver i) = passed_over i
strict_of Verdict.NothingTaken = nothing_taken

abbrev pub strict_text : StrictAnswer → List ℕ
strict_text accepted = codes "ok"
strict_text (refused end) = ending_text end
strict_text (passed_over i) = codes "passed over at " ++ decimal i
strict_text nothing_taken = codes "nothing taken"

abbrev pub strict_json : StrictAnswer → List ℕ
strict_json accepted = answer_json None
strict_json (refused end) = answer_json (Some end)
strict_json (passed_over i) = codes "\"passed over\",\"index\":" ++ decimal i
strict_json nothing_taken = codes "\"nothing taken\""

-- told as an object, or not
abbrev pub strict_line : Bool → StrictAnswer → List ℕ
strict_line true answer = verdict_line (strict_json answer)
strict_line false answer = codes "monitor: " ++ (strict_text answer ++ 10 ∷ [])

abbrev pub strict_status : StrictAnswer → Status
strict_status accepted = Status.Done
strict_status (refused end) = Status.NotAccepted
strict_status (passed_over i) = Status.NotAccepted
strict_status nothing_taken = Status.NotAccepted

-- ---- of a log

-- what the subject answers, by the names of the program that does what it does
abbrev pub strict_answer : Subject → Prog → List Act → StrictAnswer
strict_answer s p acts = strictly_monitored (names_of p.members) (its_components s) acts (its_starts s)

-- all is seen, the bytes are a text of a log, of this or of another run, and the answer to what it tells to be performed is written
pub record MonitorsStrictly (json : Bool) (s : Subject) (bytes : List ℕ) (answer : StrictAnswer) (before after : Option (List ℕ)) : Type 0 where
  pub program : Prog
  pub runs : RunsAs program s
  pub seen : IsOpen s
  pub log : Logged
  pub reads : ReadsLog (its_types s) bytes log
  pub answer_is : answer ≡ strict_answer s program (performed_in log)
  pub written : Appends before after (strict_line json answer)

abbrev pub IsStrictMonitoring : Bool → List ℕ → Option Name → List ℕ → StrictAnswer → Option (List ℕ) → Option (List ℕ) → Type 0
IsStrictMonitoring json text name bytes answer before after = (s : Subject) × IsFileOf text name s × MonitorsStrictly json s bytes answer before after

-- a beginning of the answer is written
abbrev pub BeginsStrict : Bool → Subject → List ℕ → Option (List ℕ) → Option (List ℕ) → Type 0
BeginsStrict json s bytes before after =
    (p : Prog) × RunsAs p s × IsOpen s
    × ((log : Logged) × ReadsLog (its_types s) bytes log × ((k : ℕ) × Appends before after (take k (strict_line json (strict_answer s p (performed_in log))))))

abbrev pub BeginsStrictOf : Bool → List ℕ → Option Name → Option (List ℕ) → Option (List ℕ) → Option (List ℕ) → Type 0
BeginsStrictOf json text name bytes before after = Given text name bytes (λ s xs. BeginsStrict json s xs before after)

-- ---- of a program's table, before it is told of what the program runs as

abbrev pub table_verdict : Prog → List Act → StrictAnswer
table_verdict p acts = strictly_monitored (names_of p.members) (tabled p) acts (start_states p)

-- the bytes are a log, and this is the answer to it
abbrev pub AnswersStrictly : Prog → List ℕ → StrictAnswer → Type 0
AnswersStrictly p bytes answer = (log : Logged) × ReadsLog p.types bytes log × (answer ≡ table_verdict p (performed_in log))
