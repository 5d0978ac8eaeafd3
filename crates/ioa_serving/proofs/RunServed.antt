-- From a program's run to what is written and told of the subject's run.
use Rattle.std.proofs.Common.{◌≡◌, ◌≤◌, ◌⊎◌, ◌∙◌, ◌++◌, ℕ, Bool, true, false, List, [], ◌∷◌, Option, None, Some, Result, Ok, Err, IfOk, Vec, All, ap, ap₂, drop, inl, inr, length, map, refl, subst, sym, take, arith}
use Rattle.std.proofs.lemmas.List.{take-append-le, take_all}
use Rattle.std.specs.Prelude.{IfErr}
use Rattle.std.specs.Global.{Global}
use Rattle.std.specs.Io.KnownBytes.{Appends, Keeps}
use Rattle.std.specs.Result.{IsErrOf}
use Rattle.ioa_value.specs.Actions.{Act, Name, act_of}
use Rattle.ioa_value.specs.Plain.{Val}
use Rattle.ioa_parts.specs.Nodes.{Node}
use Rattle.ioa_compile.specs.Programs.{Prog}
use Rattle.ioa_compile.specs.Subjects.{RunsAs, Subject}
use Rattle.ioa_compile.specs.Tables.{tabled}
use Rattle.ioa_coverage.specs.declared.origin.Origin.{Origin}
use Rattle.ioa_coverage.specs.Covered.{IsOriginOf}
use Rattle.ioa_system.specs.declared.log.LogEntry.{LogEntry}
use Rattle.ioa_system.specs.declared.log.LogEnd.{LogEnd}
use Rattle.ioa_system.specs.Logs.{Logged, log_end, log_entry, logged}
use Rattle.ioa_device.specs.declared.failure.LogErr.{LogErr}
use Rattle.ioa_board.specs.declared.outcome.Outcome.{Outcome}
use Rattle.ioa_board.specs.declared.report.Report.{Report}
use Rattle.ioa_board.specs.ProgramRooms.{IsInput}
use Rattle.ioa_run.specs.Alone.{HasResumed, IsOutcomeFrom, most_turns}
use Rattle.ioa_board.specs.Histories.{since}
use Rattle.ioa_board.specs.Outcomes as boards
use Rattle.ioa_board.specs.Outcomes.{HaveEnded, IsLogOf, ending}
use Rattle.ioa_board.specs.Boards.{Failure as BoardFailure, Standing}
use Rattle.ioa_board.specs.Reports.{AreTold}
use Rattle.ioa_run.specs.TalliedRuns.{IsTallied}
use Rattle.ioa_run.specs.Tallies.{AddUp, own_names, tally_of}
use Rattle.ioa_run.specs.declared.tally.Tally.{Tally}
use Rattle.ioa_serving.specs.declared.failure.Failure.{Failure}
use Rattle.ioa_serving.specs.declared.run.Ran.{Ran}
use Rattle.ioa_serving.specs.declared.served.Served.{Served}
use Rattle.ioa_request.specs.declared.settings.Settings.{Settings}
use Rattle.ioa_serving.specs.declared.status.Status.{Status}
use Rattle.ioa_serving.specs.Alone.{CameOf, IsCutShort, IsExact, IsReady, IsRunServed, IsRunUnserved, told_of, written}
use Rattle.ioa_serving.specs.Coverage.{behind, told_coverage}
use Rattle.ioa_serving.specs.HasRun.{HasRun}
use Rattle.ioa_serving.specs.Logs.{performed_in}
use Rattle.ioa_serving.specs.Serving.{reports_of, wants_of}
use Rattle.ioa_serving.specs.Statuses.{ending_status}
use Rattle.ioa_serving.specs.Traces.{new_in, performed, ran_text, table_told}
use Rattle.ioa_serving.proofs.Going.{resumed_as}
use Rattle.ioa_serving.proofs.Hosted.{inputs_same, is_run, log_of, own_names_same, performed_is, performed_within, text_same, told_by, told_same, wants_same}

-- a log tells one history
front : {X : Type 0} (h k : List X) (x y : X) → length h ≡ length k → h ++ x ∷ [] ≡ k ++ y ∷ [] → h ≡ k
front [] [] x y l e = refl
front [] (b ∷ k) x y l e = absurd (omega (arith, l))
front (a ∷ h) [] x y l e = absurd (omega (arith, l))
front (a ∷ h) (b ∷ k) x y l e =
    let heads : a ≡ b = cc in
    let tails : h ++ x ∷ [] ≡ k ++ y ∷ [] = cc in
    ap₂ (λ z zs. z ∷ zs) heads (front h k x y (omega (arith, l)) tails)

one_history : (h k : List (ℕ × Act)) (f g : Option BoardFailure) → boards.with_faulted h f ≡ boards.with_faulted k g → ending h f ≡ ending k g → h ≡ k
one_history h k None None e s = e
one_history h k None (Some y) e s = absurd (cc)
one_history h k (Some x) None e s = absurd (cc)
one_history h k (Some x) (Some y) e s = let long : length h ≡ length k = cc in front h k x.entry y.entry long e

same_history : (p : Prog) (es : List LogEntry) (end : LogEnd) (ns : List Node) (b d : Standing (List Val)) → IsLogOf p b es end ns → IsLogOf p d es end ns → d.history ≡ b.history
same_history p es end ns b d k l = one_history d.history b.history d.failure b.failure (sym l.entries ∙ k.entries) (sym l.ends ∙ k.ends)

-- the program, its source, its log and its reports, of what the run gave, and what is told beside the reports
pub has_run : (holds : Name → List ℕ → Type 0) (s : Settings) (r : Ran) (p : Prog) (source : Option Origin) (o : Outcome) (ts : Vec Tally Global) (x : Subject) (script : List Act) (before : Logged) → r.program ≡ p → r.source ≡ source
    → r.log.entries ≡ o.log → r.log.end ≡ o.end → r.reports ≡ o.reports → r.tallies ≡ ts → r.before ≡ length before.entries → map act_of r.script.items ≡ script → IsTallied p before.entries o ts.items → IsReady holds s x script before → RunsAs p x → IsOriginOf source x
    → (s.turns ≤ most_turns) × All (IsInput (tabled p)) script × HasResumed p before → IsOutcomeFrom p before.entries script s.turns o
    → HaveEnded s.turns (log_end o.end) o.reports.items → IsExact holds s x before script (log_of o.log.items o.end) o.reports.items → HasRun holds s r
has_run holds s r p source o ts x script before of by entries end reports tallies began inputs (d, also, goes_too, adds) ready runs declares fine (b, log, goes, told) ended exact = record {
  subject = x;
  script = script;
  before = before;
  ready = ready;
  runs = subst (λ q. RunsAs q x) (sym of) runs;
  declares = subst (λ (y : Option Origin). IsOriginOf y x) (sym by) declares;
  turns = fine.0;
  inputs = subst (λ (q : Prog). All (IsInput (tabled q)) script) (sym of) fine.1;
  resumed = subst (λ (q : Prog). HasResumed q before) (sym of) fine.2;
  board = b;
  states = o.states.items;
  log = subst (λ q. IsLogOf q b r.log.entries.items r.log.end o.states.items) (sym of)
      (subst (λ (es : Vec LogEntry Global). IsLogOf p b es.items r.log.end o.states.items) (sym entries) (subst (λ e. IsLogOf p b o.log.items e o.states.items) (sym end) log));
  goes_on = goes;
  told = subst (λ (q : Prog). AreTold (length q.members) script s.turns (since before.entries b.history) b.failure r.reports.items) (sym of)
      (subst (λ (rs : Vec Report Global). AreTold (length p.members) script s.turns (since before.entries b.history) b.failure rs.items) (sym reports) told);
  tallied = subst (λ (q : Prog). AddUp (since before.entries b.history) (map own_names q.members) r.reports.items (map tally_of r.tallies.items)) (sym of)
      (subst (λ (us : Vec Tally Global). AddUp (since before.entries b.history) (map own_names p.members) r.reports.items (map tally_of us.items)) (sym tallies)
      (subst (λ (rs : Vec Report Global). AddUp (since before.entries b.history) (map own_names p.members) rs.items (map tally_of ts.items)) (sym reports)
      (subst (λ (h : List (ℕ × Act)). AddUp (since before.entries h) (map own_names p.members) o.reports.items (map tally_of ts.items)) (same_history p o.log.items o.end o.states.items b d log also) adds)));
  began = began;
  inputs_are = inputs;
  ended = subst (λ e. HaveEnded s.turns (log_end e) r.reports.items) (sym end) (subst (λ (rs : Vec Report Global). HaveEnded s.turns (log_end o.end) rs.items) (sym reports) ended);
  exact = subst (λ (es : Vec LogEntry Global). IsExact holds s x before script (log_of es.items r.log.end) r.reports.items) (sym entries)
      (subst (λ e. IsExact holds s x before script (log_of o.log.items e) r.reports.items) (sym end)
      (subst (λ (rs : Vec Report Global). IsExact holds s x before script (log_of o.log.items o.end) rs.items) (sym reports) exact));
}

module _ (holds : Name → List ℕ → Type 0) (s : Settings) (r : Ran) (k : HasRun holds s r) where
  pub within : performed r.log.end ≤ length r.log.entries.items
  within = performed_within r.program k.board r.log.entries.items r.log.end k.states k.log

  abbrev came : CameOf holds s k.subject (logged r.log) r.reports.items
  came = record {
    script = k.script;
    before = k.before;
    ready = k.ready;
    turns = k.turns;
    inputs = inputs_same r.program k.subject k.runs k.script k.inputs;
    resumed = resumed_as r.program k.subject k.runs k.before k.resumed.0 k.resumed.1;
    run = is_run r.program k.subject k.runs k.board r.log.entries.items r.log.end k.states k.log k.before.entries k.script s.turns r.reports.items k.goes_on k.told k.ended;
    exact = k.exact;
  }

  same_text : ran_text s.log r ≡ written k.subject s.log (logged r.log)
  same_text = text_same r.program k.subject k.runs k.board r.log.entries.items r.log.end k.states k.log s.log

  -- the history is what the log tells to be performed
  first : (h : List (ℕ × Act)) (f : Option BoardFailure) → take (length h) (boards.with_faulted h f) ≡ h
  first h None = take_all (length h) h (omega arith)
  first h (Some x) = take-append-le (length h) h (x.entry ∷ []) (omega arith) ∙ take_all (length h) h (omega arith)

  history_told : take (performed r.log.end) (map log_entry r.log.entries.items) ≡ k.board.history
  history_told =
      ap (take (performed r.log.end)) k.log.entries ∙ ap (λ (n : ℕ). take n (boards.with_faulted k.board.history k.board.failure)) (performed_is r.log.end k.board.history k.board.failure k.log.ends)
      ∙ first k.board.history k.board.failure

  new_told : new_in r ≡ since k.before.entries k.board.history
  new_told =
      ap (λ (h : List (ℕ × Act)). drop r.before h) history_told ∙ ap (λ (n : ℕ). drop n k.board.history) k.began

  tells : (told : Bool) → table_told told r ≡ told_of k.subject told r.reports.items (since k.before.entries k.board.history) (map tally_of r.tallies.items) k.script
  tells told =
      as_program told ∙ ap (λ (h : List (ℕ × Act)). told_by r.program told r.reports.items h (map tally_of r.tallies.items) (map act_of r.script.items)) new_told
      ∙ ap (told_by r.program told r.reports.items (since k.before.entries k.board.history) (map tally_of r.tallies.items)) k.inputs_are
      ∙ told_same r.program k.subject k.runs told r.reports.items (since k.before.entries k.board.history) (map tally_of r.tallies.items) k.script
    where
      as_program : (b : Bool) → table_told b r ≡ told_by r.program b r.reports.items (new_in r) (map tally_of r.tallies.items) (map act_of r.script.items)
      as_program true = refl
      as_program false = refl

  served_by : (before after telling : Option (List ℕ)) (done : Status) → Appends before after (ran_text s.log r)
      → telling ≡ behind (table_told s.reports r) (told_coverage k.subject s.coverage (performed_in (logged r.log) ∷ []))
      → done ≡ ending_status (log_end r.log.end) → IsRunServed holds s before after telling (wants_of (Some r)) done
  served_by before after telling done output told status = record {
    subject = k.subject;
    log = logged r.log;
    reports = r.reports.items;
    came = came;
    tallies = map tally_of r.tallies.items;
    tallied = subst (λ (names : List (List Name)). AddUp (since k.before.entries k.board.history) names r.reports.items (map tally_of r.tallies.items)) (own_names_same r.program k.subject k.runs) k.tallied;
    output = subst (Appends before after) same_text output;
    told = told ∙ ap (λ (o : Option (List ℕ)). behind o (told_coverage k.subject s.coverage (performed_in (logged r.log) ∷ []))) (tells s.reports);
    wanting = wants_same r.program k.subject k.runs r.reports.items;
    status = status;
  }

  -- what comes of its text
  pub served : (before after : Option (List ℕ)) (x : Result Served Failure)
      → IfOk x (λ d. Appends before after (ran_text s.log r)
      × ((y : Subject) → RunsAs r.program y → IsOriginOf r.source y → reports_of d ≡ behind (table_told s.reports r) (told_coverage y s.coverage (performed_in (logged r.log) ∷ [])))
      × (d.status ≡ ending_status (log_end r.log.end)))
      → IfOk x (λ d. IsRunServed holds s before after (reports_of d) (wants_of (Some r)) d.status)
  served before after (Ok d) h = served_by before after (reports_of d) d.status h.0 (h.1 k.subject k.runs k.declares) h.2
  served before after (Err e) h = tt

  pub cut : (lacks : Name → Type 0) (failed : Type 0) (before after : Option (List ℕ)) (x : Result Served Failure) → IfErr x (λ e. IsCutShort (ran_text s.log r) failed before after e)
      → IfErr x (λ e. IsRunUnserved holds lacks s failed before after (wants_of (Some r)) e)
  cut lacks failed before after (Ok d) h = tt
  cut lacks failed before after (Err e) h = inr (record {
    subject = k.subject;
    log = logged r.log;
    reports = r.reports.items;
    came = came;
    cut = subst (λ text. IsCutShort text failed before after e) same_text h;
    wanting = wants_same r.program k.subject k.runs r.reports.items;
  })

-- the device failed, or memory was short
pub cut_by : {T : Type 0} (text : List ℕ) (failed : Type 0) (before after : Option (List ℕ)) (x : LogErr) → (x ≡ LogErr.Io) ⊎ (x ≡ LogErr.OutOfMemory) → (IsErrOf {T = T} (Err x) LogErr.Io → failed)
    → (IsErrOf {T = T} (Err x) LogErr.Io → (n : ℕ) × Appends before after (take n text)) → (IsErrOf {T = T} (Err x) LogErr.OutOfMemory → Keeps before after)
    → IsCutShort text failed before after (Failure.List x)
cut_by text failed before after x (inl e) io begun memory = inl (ap Failure.List e, io (ap Err e), begun (ap Err e))
cut_by text failed before after x (inr e) io begun memory = inr (inl (ap Failure.List e), memory (ap Err e))
