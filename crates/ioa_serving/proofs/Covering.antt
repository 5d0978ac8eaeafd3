-- What is told of entries, and of arms and bodies, over what a list or a log in memory tells to be performed, and over a run.
use Rattle.std.proofs.Common.{◌≡◌, ◌⊎◌, ◌+◌, ◌∙◌, ◌-◌, ◌∷◌, ℕ, Bool, true, false, List, [], Option, None, Some, IfSome, ap, ap₂, arith, if◌then◌else◌, inl, inr, length, refl, subst, sym, take}
use Rattle.std.specs.Borrow.{Bor}
use Rattle.std.specs.Io.KnownBytes.{Appends}
use Rattle.std.specs.Option.{option_copied}
use Rattle.std.proofs.lemmas.Option.{IfSome_then}
use Rattle.std.proofs.lemmas.List.{length-map, take-map}
use Rattle.std.specs.String.{string_bytes}
use Rattle.ioa_value.specs.Actions.{Act, Name, act_of}
use Rattle.ioa_value.specs.Lists as lists
use Rattle.ioa_value.specs.Lists.{ReadsList}
use Rattle.ioa_value.specs.Table.{AreTypes, Table}
use Rattle.ioa_value.proofs.ListOnceLemmas.{lines_once}
use Rattle.ioa_tree.specs.Components.{Component}
use Rattle.ioa_tree.specs.Runs.{Ending, after, done, fault_at, not_an_action_at, not_enabled_at, run, run_from}
use Rattle.ioa_tree.specs.Steps.{Moved, fault, next, not_an_action, not_enabled, step}
use Rattle.ioa_compile.specs.Programs.{Prog}
use Rattle.ioa_compile.specs.Subjects.{RunsAs, Subject, its_components, its_starts, its_types}
use Rattle.ioa_compile.proofs.Subjects.{does_as}
use Rattle.ioa_coverage.specs.declared.origin.Origin.{Origin}
use Rattle.ioa_coverage.specs.Counts.{entered}
use Rattle.ioa_coverage.specs.Covered.{IsOriginOf, its_coverage}
use Rattle.ioa_system.specs.declared.log.Log.{Log}
use Rattle.ioa_system.specs.declared.log.LogEnd.{LogEnd}
use Rattle.ioa_system.specs.declared.log.LogEntry.{LogEntry}
use Rattle.ioa_system.specs.declared.outcomes.End.{End}
use Rattle.ioa_system.specs.Logs.{Logged, is_fault, log_end, logged}
use Rattle.ioa_system.specs.Outcomes.{ending_of, performed_by}
use Rattle.ioa_device.specs.declared.failure.LogErr.{LogErr}
use Rattle.ioa_device.specs.Failing.{FailedOnceAtMost, HasFailed, IsListErr}
use Rattle.ioa_log.specs.declared.reading.Replayed.{Replayed}
use Rattle.ioa_replay.specs.LogReplays.{IsReplayedAs}
use Rattle.ioa_log.specs.LogTexts.{ReadsLog}
use Rattle.ioa_replay.specs.ListReplays.{IsListReplayed}
use Rattle.ioa_log.proofs.OneLog.{one_log}
use Rattle.ioa_serving.specs.AtHand.{failures_of}
use Rattle.ioa_serving.specs.Coverage.{BeginsCoverageOf, CoversRun, CoversList, CoversLog, IsCoverageFailure, IsNoListOf, IsUncovered, behind, performed_of, told_coverage}
use Rattle.ioa_serving.specs.declared.failure.Failure.{Failure}
use Rattle.ioa_serving.specs.Failing.{IsFailure, IsLogReplayFailure, IsNoLogOf, IsRefusedGiven}
use Rattle.ioa_serving.specs.Headline.{IsFileOf}
use Rattle.ioa_serving.specs.Logs.{IsRunLog, performed_in}
use Rattle.ioa_serving.specs.Objects.{rendered}
use Rattle.ioa_serving.proofs.Logged.{performed_are}
use Rattle.ioa_serving.proofs.Refused.{list_ungiven, log_replay_refused, log_replay_ungiven}

-- ---- the source that is lent

pub lent : (o : Option (Bor Origin)) (source : Option Origin) (s : Subject) → option_copied o ≡ source → IsOriginOf source s → IsOriginOf (option_copied o) s
lent o source s is k = subst (λ (x : Option Origin). IsOriginOf x s) (sym is) k

-- ---- how many actions of a list are performed

abbrev index_of : Ending → ℕ
index_of (done n) = n
index_of (not_an_action_at i) = i
index_of (not_enabled_at i) = i
index_of (fault_at c f i) = i

performed_index : {S : Type 0} (ps : List (Component S)) (acts : List Act) (n : ℕ) (ss : List S) → (run_from n ps acts ss).performed ≡ index_of (run_from n ps acts ss).ending
performed_index ps [] n ss = refl
performed_index {S} ps (a ∷ acts) n ss = go (step ps a ss) (λ ts. performed_index ps acts (n + 1) ts)
  where
    go : (m : Moved S) → ((ts : List S) → (run_from (n + 1) ps acts ts).performed ≡ index_of (run_from (n + 1) ps acts ts).ending)
        → (after n ss m (λ ts. run_from (n + 1) ps acts ts)).performed ≡ index_of (after n ss m (λ ts. run_from (n + 1) ps acts ts)).ending
    go (next ts) more = more ts
    go not_an_action more = refl
    go not_enabled more = refl
    go (fault i f) more = refl

end_index : (e : End) → index_of (ending_of e) ≡ performed_by e
end_index (End.Done n) = refl
end_index (End.NotAnAction i) = refl
end_index (End.NotEnabled i) = refl
end_index (End.Fault c f i) = refl

-- ---- a list

module _ (p : Prog) (s : Subject) (runs : RunsAs p s) where
  performed_count : (acts : List Act) (e : End) → ending_of e ≡ (run (its_components s) acts (its_starts s)).ending → performed_by e ≡ (run (its_components s) acts (its_starts s)).performed
  performed_count acts e ends = sym (end_index e) ∙ ap index_of ends ∙ sym (performed_index (its_components s) acts 0 (its_starts s))

  pub covers_list : AreTypes p.types → (bytes : List ℕ) (r : Replayed) (told : List ℕ) (entries : List LogEntry) (n : ℕ) → IsListReplayed p s bytes r
      → ReadsList p.types bytes (entered entries) → n ≡ performed_by r.end → told ≡ its_coverage s (entered (take n entries) ∷ [])
      → CoversList s bytes (ending_of r.end) (string_bytes r.text) told
  covers_list declared bytes r told entries n k reads count is =
      let acts = k.acts in
      let own : ReadsList p.types bytes acts = subst (λ (ts : Table). ReadsList ts bytes acts) (sym (does_as p s runs).types) k.reads in
      let all : entered entries ≡ acts = lines_once p.types declared (lists.lines bytes) (entered entries) acts reads own in
      let first : entered (take n entries) ≡ performed_of s acts =
      sym (take-map (λ (e : LogEntry). act_of e.action) n entries) ∙ ap (take n) all ∙ ap (λ m. take m acts) (count ∙ performed_count acts r.end k.ending) in (
        acts,
        k.reads,
        k.ending,
        k.text,
        is ∙ ap (λ (xs : List Act). its_coverage s (xs ∷ [])) first,
      )

  pub no_list : (bytes : List ℕ) (x : LogErr) → IsListErr x → (x ≡ LogErr.Io → ⊥) → ((n : ℕ) → x ≡ LogErr.BadEntry n → lists.BadLine p.types bytes n) → IsNoListOf x s bytes
  no_list bytes (LogErr.BadEntry n) only io bad = subst (λ (ts : Table). lists.BadLine ts bytes n) (does_as p s runs).types (bad n refl)
  no_list bytes LogErr.Io only io bad = io refl
  no_list bytes LogErr.OutOfMemory only io bad = tt
  no_list bytes (LogErr.NotJson n) only io bad = only
  no_list bytes (LogErr.WrongOwner n) only io bad = only
  no_list bytes (LogErr.Diverges n) only io bad = only
  no_list bytes LogErr.NoEnd only io bad = only
  no_list bytes LogErr.AfterEnd only io bad = only

-- ---- a log

module _ (p : Prog) (declared : AreTypes p.types) (bytes : List ℕ) (r : Replayed) (log : Log) (reads : ReadsLog p.types bytes (logged log)) (told : List ℕ) (acts : List Act)
    (performed : acts ≡ performed_in (logged log)) where
  told_as : (s : Subject) (runs : RunsAs p s) (l : Logged) → ReadsLog (its_types s) bytes l → told ≡ its_coverage s (acts ∷ []) → told ≡ its_coverage s (performed_in l ∷ [])
  told_as s runs l other is =
      let same : logged log ≡ l = one_log p.types bytes (logged log) l declared reads (subst (λ (ts : Table). ReadsLog ts bytes l) (sym (does_as p s runs).types) other) in
      is ∙ ap (λ (xs : List Act). its_coverage s (xs ∷ [])) (performed ∙ ap performed_in same)

  pub covers_log : (s : Subject) → RunsAs p s → IsReplayedAs p s bytes r → told ≡ its_coverage s (acts ∷ []) → CoversLog s bytes (ending_of r.end) (string_bytes r.text) told
  covers_log s runs k is = (k.log, k.is_log, k.ending, k.text, told_as s runs k.log k.is_log.0 is)

-- ---- a text at hand does not fail

pub none_failed : (old new : Bool) → old ≡ false → FailedOnceAtMost (failures_of old) (failures_of new) → HasFailed (failures_of old) (failures_of new) → ⊥
none_failed true new fresh once failed = absurd (cc)
none_failed false true fresh once failed = absurd (omega (arith, once))
none_failed false false fresh once (inl less) = absurd (omega (arith, less))
none_failed false false fresh once (inr most) = absurd (omega (arith, most))

-- ---- of a list or of a log, from what is read

module _ (text : List ℕ) (name : Option Name) (bytes : Option (List ℕ)) (failed : Type 0) where
  pub ungiven : (log : Bool) (e : Failure) → IsRefusedGiven text name e → IsCoverageFailure log text name bytes failed e
  ungiven true e k = log_replay_ungiven text name bytes failed e k
  ungiven false e k = list_ungiven text name bytes failed e k

  module _ (s : Subject) (of : IsFileOf text name s) where
    -- the reader or the writer failed
    pub broken : (log : Bool) → failed → IsCoverageFailure log text name bytes failed (Failure.List LogErr.Io)
    broken true f = (s, of, f)
    broken false f = (s, of, f)

    pub unread : (log : Bool) (x : LogErr) → (x ≡ LogErr.Io) ⊎ (x ≡ LogErr.OutOfMemory) → (x ≡ LogErr.Io → failed) → IsCoverageFailure log text name bytes failed (Failure.List x)
    unread log x (inl is) io = subst (λ (y : LogErr). IsCoverageFailure log text name bytes failed (Failure.List y)) (sym is) (broken log (io is))
    unread true x (inr is) io = subst (λ (y : LogErr). IsLogReplayFailure text name bytes failed (Failure.List y)) (sym is) tt
    unread false x (inr is) io = subst (λ (y : LogErr). IsFailure text name bytes failed (Failure.List y)) (sym is) tt

    -- what was read is no list, or no log of the subject's run
    pub uncovered : (log : Bool) (x : LogErr) (read : List ℕ) → (x ≡ LogErr.Io → ⊥) → IsUncovered log x s read → IfSome bytes (λ xs. read ≡ xs)
        → IsCoverageFailure log text name bytes failed (Failure.List x)
    uncovered true x read io k same =
        log_replay_refused text name bytes failed s x of (λ is. absurd (io is)) (IfSome_then bytes same (λ xs e. subst (λ (b : List ℕ). IsNoLogOf x s b) e k))
    uncovered false (LogErr.BadEntry n) read io k same = (s, of, IfSome_then bytes same (λ xs e. subst (λ (b : List ℕ). lists.BadLine (its_types s) b n) e k))
    uncovered false LogErr.Io read io k same = absurd (io refl)
    uncovered false LogErr.OutOfMemory read io k same = tt
    uncovered false (LogErr.NotJson n) read io k same = absurd k
    uncovered false (LogErr.WrongOwner n) read io k same = absurd k
    uncovered false (LogErr.Diverges n) read io k same = absurd k
    uncovered false LogErr.NoEnd read io k same = absurd k
    uncovered false LogErr.AfterEnd read io k same = absurd k

    -- memory is short for what is written
    pub short : (log : Bool) → IsCoverageFailure log text name bytes failed Failure.OutOfMemory
    short true = tt
    short false = tt

    -- a beginning of the text is written
    pub begun : (log json : Bool) (read : List ℕ) (end : Ending) (written told : List ℕ) (before after : Option (List ℕ)) → CoversRun log s read end written told
        → (k : ℕ) × Appends before after (take k (rendered json written end)) → IfSome bytes (λ xs. read ≡ xs) → BeginsCoverageOf log json text name bytes before after
    begun true json read end written told before after c some same = (
      s,
      of,
      IfSome_then bytes same (λ xs e. (
        c.0,
        subst (λ (b : List ℕ). IsRunLog s b c.0) e c.1,
        (some.0, subst (λ (t : List ℕ). Appends before after (take some.0 t)) (ap₂ (rendered json) c.3 c.2) some.1),
      )),
    )
    begun false json read end written told before after c some same = (
      s,
      of,
      IfSome_then bytes same (λ xs e. (
        c.0,
        subst (λ (b : List ℕ). ReadsList (its_types s) b c.0) e c.1,
        (some.0, subst (λ (t : List ℕ). Appends before after (take some.0 t)) (ap₂ (rendered json) c.3 c.2) some.1),
      )),
    )

-- ---- of a run

pub not_asked : (s : Subject) (asked : Bool) (runs : List (List Act)) (before : Option (List ℕ)) → asked ≡ false → before ≡ behind before (told_coverage s asked runs)
not_asked s false runs None h = refl
not_asked s false runs (Some text) h = refl
not_asked s true runs before h = absurd (cc)

-- the text is put behind the words before
pub told_behind : (s : Subject) (asked : Bool) (runs : List (List Act)) (before words : Option (List ℕ)) (text all : List ℕ) → asked ≡ true → before ≡ words
    → text ≡ its_coverage s runs → Some all ≡ behind before (Some text) → Some all ≡ behind words (told_coverage s asked runs)
told_behind s true runs before words text all h same is put = put ∙ ap₂ (λ (x y : Option (List ℕ)). behind x y) same (ap Some is)
told_behind s false runs before words text all h same is put = absurd (cc)

-- ---- what a log in memory tells to be performed

pub all_told : (l : Log) (end : LogEnd) (es : List LogEntry) → l.end ≡ end → is_fault (log_end end) ≡ false → es ≡ l.entries.items → entered es ≡ performed_in (logged l)
all_told l end es is how same =
    let f : is_fault (log_end l.end) ≡ false = ap (λ d. is_fault (log_end d)) is ∙ how in
    ap entered same
    ∙ sym (ap (λ b. if b then take (length (entered l.entries.items) - 1) (entered l.entries.items) else entered l.entries.items) f)
    ∙ sym (performed_are l)

pub but_last_told : (l : Log) (end : LogEnd) (es rest : List LogEntry) → l.end ≡ end → is_fault (log_end end) ≡ true → es ≡ l.entries.items → rest ≡ take (length es - 1) es
    → entered rest ≡ performed_in (logged l)
but_last_told l end es rest is how same first =
    let f : is_fault (log_end l.end) ≡ true = ap (λ d. is_fault (log_end d)) is ∙ how in
    let n : length es ≡ length (entered l.entries.items) = sym (length-map es (λ (e : LogEntry). act_of e.action)) ∙ ap (λ xs. length (entered xs)) same in
    ap entered first ∙ sym (take-map (λ (e : LogEntry). act_of e.action) (length es - 1) es)
    ∙ ap₂ (λ k acts. take (k - 1) acts) n (ap entered same)
    ∙ sym (ap (λ b. if b then take (length (entered l.entries.items) - 1) (entered l.entries.items) else entered l.entries.items) f)
    ∙ sym (performed_are l)
