-- What a program's run on one thread is, told of what the program runs as.
use Rattle.std.proofs.Common.{◌≡◌, ◌≤◌, ℕ, Bool, true, false, List, [], ◌∷◌, ◌++◌, All, append-nil, cond, map, length, Option, Some, None, refl, sym, ap, ap₂, ◌∙◌, subst, arith, length-append}
use Rattle.std.specs.List.{AllZip}
use Rattle.std.proofs.lemmas.List.{length-map}
use Rattle.std.proofs.lemmas.List.Elements.{All-append, All-cons, All-nil, filter-append}
use Rattle.ioa_value.specs.Actions.{Act, Name}
use Rattle.ioa_value.specs.Plain.{Val}
use Rattle.ioa_value.specs.Table.{Table}
use Rattle.ioa_parts.specs.Nodes.{Node}
use Rattle.ioa_tree.specs.declared.tree.Kind.{Kind}
use Rattle.ioa_tree.specs.Components.{is_local}
use Rattle.ioa_tree.specs.Compositions.{Member}
use Rattle.ioa_tree.specs.Hosts.{Host}
use Rattle.ioa_tree.specs.Runs.{done, fault_at, run, trace}
use Rattle.ioa_tree.specs.Tree.{AutomatonTree, CrashTree, EntryTree}
use Rattle.ioa_crash.specs.Rewriting.{signals, with_signals}
use Rattle.ioa_compose.specs.Simulates.{IsMadeOf}
use Rattle.ioa_compile.specs.Matching.{MatchesEntry, MatchesMember}
use Rattle.ioa_compile.specs.Programs.{EntryCode, MemberCode, Prog}
use Rattle.ioa_compile.specs.Subjects.{RunsAs, Subject, its_components, its_hidden, its_names, its_starts, its_types, of_composition, of_hosts, of_table}
use Rattle.ioa_compile.specs.Tables.{start_states, tabled}
use Rattle.ioa_compile.proofs.Subjects.{does_as, owner_as, participants_as, run_as, trace_as}
use Rattle.ioa_system.specs.declared.log.LogEnd.{LogEnd}
use Rattle.ioa_system.specs.declared.log.LogEntry.{LogEntry}
use Rattle.ioa_system.specs.Logs.{Logged, actions_of, log_end, log_entry, worker}
use Rattle.ioa_system.proofs.Subjects.{worker_as}
use Rattle.ioa_log.specs.LogTexts.{log_text}
use Rattle.ioa_log.specs.Replays.{replay_text, run_text}
use Rattle.ioa_log.specs.Telling.{IsEndAfter, TellsRun}
use Rattle.ioa_log.proofs.Histories.{agrees_to_history}
use Rattle.ioa_log.proofs.Telling.{agrees_to_tell}
use Rattle.ioa_board.specs.declared.report.Report.{Report}
use Rattle.ioa_board.specs.ProgramRooms.{IsInput}
use Rattle.ioa_run.specs.Alone.{IsFirstOther}
use Rattle.ioa_board.specs.Boards.{Failure, IsFailureFrom, Standing}
use Rattle.ioa_board.specs.Histories.{GoesOn, acts_of, since}
use Rattle.ioa_board.proofs.Performing.{legal_workers}
use Rattle.ioa_board.specs.Outcomes.{HaveEnded, IsLogOf, ending, with_faulted}
use Rattle.ioa_run.specs.Proposers.{local_entries, own_entries}
use Rattle.ioa_board.specs.Reports.{AreTold}
use Rattle.ioa_run.specs.declared.tally.Tries.{Tries}
use Rattle.ioa_run.specs.Tallies.{own_names}
use Rattle.ioa_serving.specs.Alone.{IsRun, told_of, wants_of_run, written}
use Rattle.ioa_serving.specs.RunReports.{inputs_left, its_own_names, left_text, reports_text, tallies_text, wants_text}
use Rattle.ioa_serving.specs.Traces.{performed, table_text, traced_text}

-- the own entries of a component have the names of its host's
own_name : (m : Member) (es : List EntryTree) (ds : List EntryCode) → AllZip (MatchesEntry m) es ds → map (λ (d : EntryCode). d.name) (local_entries ds) ≡ map (λ (e : EntryTree). e.name) (own_entries es)
own_name m [] [] z = refl
own_name m [] (d ∷ ds) z = absurd z
own_name m (e ∷ es) [] z = absurd z
own_name m (e ∷ es) (d ∷ ds) z =
    one (is_local (Some d.kind)) (own_name m es ds z.1)
    ∙ ap (λ (b : Bool). map (λ (x : EntryTree). x.name) (cond b (e ∷ own_entries es) (own_entries es))) (ap (λ (k : Kind). is_local (Some k)) z.0.kind)
  where
    one : (b : Bool) → map (λ (x : EntryCode). x.name) (local_entries ds) ≡ map (λ (x : EntryTree). x.name) (own_entries es)
        → map (λ (x : EntryCode). x.name) (cond b (d ∷ local_entries ds) (local_entries ds)) ≡ map (λ (x : EntryTree). x.name) (cond b (e ∷ own_entries es) (own_entries es))
    one true rest = ap₂ (λ (x : Name) (xs : List Name). x ∷ xs) z.0.name rest
    one false rest = rest

-- a crash and a recover are inputs
own_signals : (o : Option CrashTree) (a : AutomatonTree) → own_entries (with_signals o a).entries ≡ own_entries a.entries
own_signals None a = refl
own_signals (Some n) a = filter-append (λ (e : EntryTree). is_local (Some e.kind)) a.entries (signals n) ∙ append-nil (own_entries a.entries)

own_members : (ms : List Member) (cs : List MemberCode) → AllZip MatchesMember ms cs
    → map own_names cs ≡ map (λ (m : Member). map (λ (e : EntryTree). e.name) (own_entries m.instance.automaton.entries)) ms
own_members [] [] z = refl
own_members [] (c ∷ cs) z = absurd z
own_members (m ∷ ms) [] z = absurd z
own_members (m ∷ ms) (c ∷ cs) z =
    ap₂ (λ (xs : List Name) (xss : List (List Name)). xs ∷ xss) (own_name m m.instance.automaton.entries c.entries z.0.entries) (own_members ms cs z.1)

own_hosts : (hs : List Host) (ms : List Member) → AllZip IsMadeOf hs ms
    → map (λ (m : Member). map (λ (e : EntryTree). e.name) (own_entries m.instance.automaton.entries)) ms ≡ map (λ (p : Host). map (λ (e : EntryTree). e.name) (own_entries p.instance.automaton.entries)) hs
own_hosts [] [] z = refl
own_hosts [] (m ∷ ms) z = absurd z
own_hosts (h ∷ hs) [] z = absurd z
own_hosts (h ∷ hs) (m ∷ ms) z =
    ap₂ (λ (xs : List Name) (xss : List (List Name)). xs ∷ xss)
    (ap (λ (es : List EntryTree). map (λ (e : EntryTree). e.name) (own_entries es)) z.0.entries ∙ ap (map (λ (e : EntryTree). e.name)) (own_signals h.crash h.instance.automaton)) (own_hosts hs ms z.1)

pub own_names_same : (p : Prog) (x : Subject) → RunsAs p x → map own_names p.members ≡ its_own_names x
own_names_same p (of_hosts h) runs = own_members runs.0.members p.members runs.2.tables ∙ own_hosts h.hosts runs.0.members runs.1.members
own_names_same p (of_composition c) means = own_members c.members p.members means.tables
own_names_same p (of_table q) same = ap (λ (r : Prog). map own_names r.members) same

-- a log as plain data
abbrev pub log_of : List LogEntry → LogEnd → Logged
log_of es end = record { entries = map log_entry es; ending = log_end end }

end_after : (h : List (ℕ × Act)) (f : Option Failure) → IsEndAfter (length (with_faulted h f)) (ending h f)
end_after h None = refl
end_after h (Some r) = omega (arith, length-append h (r.entry ∷ []))

pub performed_is : (end : LogEnd) (h : List (ℕ × Act)) (f : Option Failure) → log_end end ≡ ending h f → performed end ≡ length h
performed_is (LogEnd.Done n) h None e = let z : done n ≡ done (length h) = e in cc
performed_is (LogEnd.Done n) h (Some r) e = let z : done n ≡ fault_at r.component r.fault (length h) = e in cc
performed_is (LogEnd.Fault c f i) h None e = let z : fault_at c f i ≡ done (length h) = e in cc
performed_is (LogEnd.Fault c f i) h (Some r) e = let z : fault_at c f i ≡ fault_at r.component r.fault (length h) = e in cc

no_longer : (h : List (ℕ × Act)) (f : Option Failure) → length h ≤ length (with_faulted h f)
no_longer h None = omega arith
no_longer h (Some r) = omega (arith, length-append h (r.entry ∷ []))

-- as many actions are performed as there are entries, or fewer
pub performed_within : (p : Prog) (b : Standing (List Val)) (es : List LogEntry) (end : LogEnd) (ns : List Node) → IsLogOf p b es end ns → performed end ≤ length es
performed_within p b es end ns l =
    omega (arith, performed_is end b.history b.failure l.ends, no_longer b.history b.failure, ap length l.entries, length-map es log_entry)

-- what is told of a program's run
abbrev pub told_by : Prog → Bool → List Report → List (ℕ × Act) → List (List Tries) → List Act → Option (List ℕ)
told_by p true rs new ts script =
    let names : List Name = map (λ (m : MemberCode). m.name) p.members in
    Some (reports_text names rs ++ (tallies_text new 0 names (map own_names p.members) ts ++ left_text p.types (inputs_left (length names) rs script)))
told_by p false rs new ts script = None

module _ (p : Prog) (x : Subject) (runs : RunsAs p x) where
  pub names_same : map (λ (m : MemberCode). m.name) p.members ≡ its_names x
  names_same = (does_as p x runs).names

  pub count_same : length p.members ≡ length (its_names x)
  count_same = sym (length-map p.members (λ (m : MemberCode). m.name)) ∙ ap length names_same

  input_same : (a : Act) → IsInput (tabled p) a → IsInput (its_components x) a
  input_same a i = record { known = λ e. i.known (participants_as p x runs a ∙ e); free = sym (owner_as p x runs a) ∙ i.free }

  input_back : (a : Act) → IsInput (its_components x) a → IsInput (tabled p) a
  input_back a i = record { known = λ e. i.known (sym (participants_as p x runs a) ∙ e); free = owner_as p x runs a ∙ i.free }

  pub inputs_same : (script : List Act) → All (IsInput (tabled p)) script → All (IsInput (its_components x)) script
  inputs_same script all = λ k d lt. input_same _ (all k d lt)

  pub other_same : (script : List Act) (i : ℕ) → IsFirstOther (tabled p) script i → IsFirstOther (its_components x) script i
  other_same script i f = record {
    there = f.there;
    other = λ a e k. f.other a e (input_back a k);
    before = λ j a lt e. input_same a (f.before j a lt e);
  }

  module _ (b : Standing (List Val)) (es : List LogEntry) (end : LogEnd) (ns : List Node) (l : IsLogOf p b es end ns) where
    acts_same : actions_of (log_of es end) ≡ acts_of (with_faulted b.history b.failure)
    acts_same = ap acts_of l.entries

    subject_ending : (run (its_components x) (actions_of (log_of es end)) (its_starts x)).ending ≡ log_end end
    subject_ending =
        (run_as p x runs (actions_of (log_of es end))).ending ∙ ap (λ acts. (run (tabled p) acts (start_states p)).ending) acts_same
        ∙ ap (λ r. r.ending) l.runs ∙ sym l.ends

    subject_performed : (run (its_components x) (actions_of (log_of es end)) (its_starts x)).performed ≡ performed end
    subject_performed =
        (run_as p x runs (actions_of (log_of es end))).performed ∙ ap (λ acts. (run (tabled p) acts (start_states p)).performed) acts_same
        ∙ ap (λ r. r.performed) l.runs ∙ sym (performed_is end b.history b.failure l.ends)

    all_workers : All (λ e. e.0 ≡ worker (tabled p) e.1) (with_faulted b.history b.failure)
    all_workers = go b.failure l.sound.failure
      where
        go : (f : Option Failure) → IsFailureFrom (tabled p) b.states f → All (λ e. e.0 ≡ worker (tabled p) e.1) (with_faulted b.history f)
        go None k = legal_workers (tabled p) b.history (start_states p) b.states l.sound.legal
        go (Some r) k = All-append (λ e. e.0 ≡ worker (tabled p) e.1) b.history (r.entry ∷ []) (legal_workers (tabled p) b.history (start_states p) b.states l.sound.legal)
            (All-cons (λ (e : ℕ × Act). e.0 ≡ worker (tabled p) e.1) r.entry [] k.0 (All-nil (λ (e : ℕ × Act). e.0 ≡ worker (tabled p) e.1)))

    pub subject_tells : TellsRun (its_components x) (its_starts x) (log_of es end)
    subject_tells = record {
      ending = subject_ending;
      whole = subst (λ n. IsEndAfter n (log_end end)) (sym (ap length l.entries)) (subst (λ e. IsEndAfter (length (with_faulted b.history b.failure)) e) (sym l.ends) (end_after b.history b.failure));
      workers = subst (All (λ (e : ℕ × Act). e.0 ≡ worker (its_components x) e.1)) (sym l.entries) (λ k d lt. all_workers k d lt ∙ worker_as p x runs _);
    }

    abbrev pub is_run : (before : List (ℕ × Act)) (script : List Act) (turns : ℕ) (rs : List Report) → GoesOn before b.history
        → AreTold (length p.members) script turns (since before b.history) b.failure rs → HaveEnded turns (log_end end) rs → IsRun x before script turns (log_of es end) rs
    is_run before script turns rs goes told ended = record {
      legal = (agrees_to_history (its_components x) (its_starts x) (log_of es end)).0 ((agrees_to_tell (its_components x) (its_starts x) (log_of es end)).1 subject_tells);
      history = b.history;
      failure = b.failure;
      entries = l.entries;
      ends = l.ends;
      goes_on = goes;
      told = subst (λ n. AreTold n script turns (since before b.history) b.failure rs) count_same told;
      ended = ended;
    }

    traced_same : traced_text p (log_of es end) (performed end) ≡ run_text (its_types x) (its_hidden x) (its_components x) (its_starts x) (actions_of (log_of es end))
    traced_same =
        let acts = actions_of (log_of es end) in
        ap (λ ts. replay_text ts (trace p.hidden (tabled p) acts (performed end)) (log_end end)) (does_as p x runs).types
        ∙ ap (λ xs. replay_text (its_types x) xs (log_end end)) (trace_as p x runs acts (performed end) ∙ ap (trace (its_hidden x) (its_components x) acts) (sym subject_performed))
        ∙ ap (replay_text (its_types x) (trace (its_hidden x) (its_components x) acts (run (its_components x) acts (its_starts x)).performed)) (sym subject_ending)

    -- what is written
    pub text_same : (as_log : Bool) → table_text p as_log (log_of es end) (performed end) ≡ written x as_log (log_of es end)
    text_same true = ap (λ ts. log_text ts (log_of es end)) (does_as p x runs).types
    text_same false = traced_same

  -- what is told
  pub told_same : (told : Bool) (rs : List Report) (new : List (ℕ × Act)) (ts : List (List Tries)) (script : List Act) → told_by p told rs new ts script ≡ told_of x told rs new ts script
  told_same true rs new ts script =
      let names : List Name = map (λ (m : MemberCode). m.name) p.members in
      ap (λ (ns : List Name). Some (reports_text ns rs ++ (tallies_text new 0 ns (map own_names p.members) ts ++ left_text p.types (inputs_left (length ns) rs script)))) names_same
      ∙ ap (λ (es : List (List Name)). Some (reports_text (its_names x) rs ++ (tallies_text new 0 (its_names x) es ts ++ left_text p.types (inputs_left (length (its_names x)) rs script)))) (own_names_same p x runs)
      ∙ ap (λ (types : Table). Some (reports_text (its_names x) rs ++ (tallies_text new 0 (its_names x) (its_own_names x) ts ++ left_text types (inputs_left (length (its_names x)) rs script)))) (does_as p x runs).types
  told_same false rs new ts script = refl

  -- and of whom memory was refused to
  pub wants_same : (rs : List Report) → wants_text (map (λ (m : MemberCode). m.name) p.members) rs ≡ wants_of_run x rs
  wants_same rs = ap (λ names. wants_text names rs) names_same
