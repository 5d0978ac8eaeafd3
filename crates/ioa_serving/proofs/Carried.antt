-- An object that is compiled of a source does as the source: its program is the one that was compiled.
use Rattle.std.proofs.Common.{◌≡◌, ℕ, Bool, List, Option, true, sym, ap, ap₂, ◌∙◌, subst}
use Rattle.std.specs.Io.KnownBytes.{Appends}
use Rattle.std.proofs.lemmas.Bool.{false≢true}
use Rattle.ioa_value.specs.Actions.{Act, Name}
use Rattle.ioa_value.specs.Lists.{ReadsList}
use Rattle.ioa_tree.specs.Runs.{Ending, run}
use Rattle.ioa_compile.specs.Programs.{Prog}
use Rattle.ioa_compile.specs.Subjects.{RunsAs, Subject, its_components, its_starts, its_types, of_composition, of_hosts, of_table}
use Rattle.ioa_compile.specs.Tables.{start_states, tabled}
use Rattle.ioa_compile.proofs.Subjects.{does_as, run_as}
use Rattle.ioa_object.specs.Objects.{IsObject}
use Rattle.ioa_object.proofs.ObjectLaws.{one_program}
use Rattle.ioa_system.specs.Logs.{actions_of}
use Rattle.ioa_monitor.proofs.Subjects.{monitored_as, open_as}
use Rattle.ioa_log.specs.LogTexts.{ReadsLog, log_text}
use Rattle.ioa_log.specs.RunLogs.{WritesRunLog}
use Rattle.ioa_log.proofs.LoggedLists.{log_text_as}
use Rattle.ioa_log.proofs.AgreeingLogs.{log_as, text_as}
use Rattle.ioa_picture.specs.Graphs.{graph}
use Rattle.ioa_serving.specs.Carried.{ChartsAsSource, GraphsAsSource, LogsListsAsSource, LogsLogsAsSource, MonitorsAsSource, ReplaysAsSource, ReplaysLogsAsSource}
use Rattle.ioa_serving.specs.Compiling.{IsCompiled}
use Rattle.ioa_serving.specs.Headline.{IsFileOf, begins_object}
use Rattle.ioa_serving.specs.LogLogs.{WritesLog}
use Rattle.ioa_serving.specs.Logs.{Monitors, performed_in}
use Rattle.ioa_serving.specs.Objects.{ReplaysAs, ReplaysLogAs, rendered}
use Rattle.ioa_picture.specs.Selections.{Selection}
use Rattle.ioa_serving.specs.Pictures.{ChartsLog}
use Rattle.ioa_serving.proofs.Pictured.{charted_as}

-- what the table does, the subject does
module _ (p : Prog) (s : Subject) (runs : RunsAs p s) where
  same_types : p.types ≡ its_types s
  same_types = (does_as p s runs).types

  same_ending : (acts : List Act) → (run (tabled p) acts (start_states p)).ending ≡ (run (its_components s) acts (its_starts s)).ending
  same_ending acts = sym (run_as p s runs acts).ending

  list_as : (json : Bool) (bytes : List ℕ) (end : Ending) (before after : Option (List ℕ)) → ReplaysAs json (of_table p) bytes end before after → ReplaysAs json s bytes end before after
  list_as json bytes end before after (acts, reads, ends, text) = (
    acts,
    subst (λ ts. ReadsList ts bytes acts) same_types reads,
    ends ∙ same_ending acts,
    subst (λ (bs : List ℕ). Appends before after bs) (ap₂ (rendered json) (text_as p s runs acts) (same_ending acts)) text,
  )

  log_replay_as : (json : Bool) (bytes : List ℕ) (end : Ending) (before after : Option (List ℕ)) → ReplaysLogAs json (of_table p) bytes end before after → ReplaysLogAs json s bytes end before after
  log_replay_as json bytes end before after (log, (reads, agree), ends, text) = (
    log,
    log_as p s runs bytes log reads agree,
    ends ∙ same_ending (actions_of log),
    subst (λ (bs : List ℕ). Appends before after bs) (ap₂ (rendered json) (text_as p s runs (actions_of log)) (same_ending (actions_of log))) text,
  )

  log_again_as : (bytes : List ℕ) (end : Ending) (before after : Option (List ℕ)) → WritesLog (of_table p) bytes end before after → WritesLog s bytes end before after
  log_again_as bytes end before after (log, (reads, agree), ends, text) = (
    log,
    log_as p s runs bytes log reads agree,
    ends ∙ same_ending (actions_of log),
    subst (λ ts. Appends before after (log_text ts log)) same_types text,
  )

  list_log_as : (bytes : List ℕ) (end : Ending) (before after : Option (List ℕ)) → WritesRunLog (of_table p) bytes end before after → WritesRunLog s bytes end before after
  list_log_as bytes end before after (acts, reads, ends, text) = (
    acts,
    subst (λ ts. ReadsList ts bytes acts) same_types reads,
    ends ∙ same_ending acts,
    subst (λ (bs : List ℕ). Appends before after bs) (log_text_as p s runs acts) text,
  )

  chart_as : (selection : Selection) (bytes : List ℕ) (end : Ending) (before after : Option (List ℕ)) → ChartsLog selection (of_table p) bytes end before after
      → ChartsLog selection s bytes end before after
  chart_as selection bytes end before after (log, (reads, agree), ends, text) = (
    log,
    log_as p s runs bytes log reads agree,
    ends ∙ same_ending (actions_of log),
    subst (λ (bs : List ℕ). Appends before after bs) (charted_as selection p s log runs) text,
  )

  monitor_as : (json : Bool) (bytes : List ℕ) (answer : Option Ending) (before after : Option (List ℕ)) → Monitors json (of_table p) bytes answer before after
      → Monitors json s bytes answer before after
  monitor_as json bytes answer before after (seen, (log, reads, answered, text)) = (
    open_as p seen s runs,
    (log, subst (λ ts. ReadsLog ts bytes log) same_types reads, answered ∙ sym (monitored_as p s runs (performed_in log)), text),
  )

pub begins : (bytes : List ℕ) (p : Prog) → IsObject bytes p → begins_object bytes ≡ true
begins bytes p is = ap begins_object is.spelled

-- what holds of an object's table, and of whatever its program runs as, holds of what the source declares
carried : (P : Subject → Type 0) (text bytes : List ℕ) (name of : Option Name)
    → ((p : Prog) (s : Subject) → RunsAs p s → P (of_table p) → P s)
    → IsCompiled text name bytes → (s : Subject) × IsFileOf bytes of s × P s → (s : Subject) × IsFileOf text name s × P s
carried P text bytes name of over (h, gives, (p, runs, is)) (of_hosts k, given, holds) = absurd (false≢true (sym given.0 ∙ begins bytes p is))
carried P text bytes name of over (h, gives, (p, runs, is)) (of_table q, given, holds) =
    (of_hosts h, gives, over p (of_hosts h) runs (subst (λ x. P (of_table x)) (one_program bytes q p given.object is) holds))
carried P text bytes name of over (h, gives, (p, runs, is)) (of_composition d, given, holds) = absurd given

pub replays_as_source : ReplaysAsSource
replays_as_source json text object name of bytes end before after =
    carried (λ x. ReplaysAs json x bytes end before after) text object name of (λ p s runs k. list_as p s runs json bytes end before after k)

pub logs_as_source : ReplaysLogsAsSource
logs_as_source json text object name of bytes end before after =
    carried (λ x. ReplaysLogAs json x bytes end before after) text object name of (λ p s runs k. log_replay_as p s runs json bytes end before after k)

pub list_logs_as_source : LogsListsAsSource
list_logs_as_source text object name of bytes end before after =
    carried (λ x. WritesRunLog x bytes end before after) text object name of
    (λ p s runs k. list_log_as p s runs bytes end before after k)

pub log_logs_as_source : LogsLogsAsSource
log_logs_as_source text object name of bytes end before after =
    carried (λ x. WritesLog x bytes end before after) text object name of (λ p s runs k. log_again_as p s runs bytes end before after k)

pub charts_as_source : ChartsAsSource
charts_as_source text object name of selection bytes end before after =
    carried (λ x. ChartsLog selection x bytes end before after) text object name of (λ p s runs k. chart_as p s runs selection bytes end before after k)

pub graphs_as_source : GraphsAsSource
graphs_as_source text object name of before after (h, gives, (p, runs, is)) (q, (of_hosts k, given, other), drawn) = absurd (false≢true (sym given.0 ∙ begins object p is))
graphs_as_source text object name of before after (h, gives, (p, runs, is)) (q, (of_table k, given, same), drawn) =
    (p, (of_hosts h, gives, runs), subst (λ x. Appends before after (graph x)) (same ∙ one_program object k p given.object is) drawn)
graphs_as_source text object name of before after (h, gives, (p, runs, is)) (q, (of_composition d, given, same), drawn) = absurd given

pub monitors_as_source : MonitorsAsSource
monitors_as_source json text object name of bytes answer before after =
    carried (λ x. Monitors json x bytes answer before after) text object name of (λ p s runs k. monitor_as p s runs json bytes answer before after k)
