-- From a program's runs by many seeds to what is told of what it runs as.
use Rattle.std.proofs.Common.{◌≡◌, ◌⊎◌, ◌∙◌, ℕ, suc, Bool, true, false, IfSome, List, [], ◌∷◌, Option, None, Some, Ok, Err, ap, inl, inr, length, map, option_map, refl, subst, sym}
use Rattle.std.specs.List.{AllZip}
use Rattle.std.specs.Option.{option_copied}
use Rattle.std.specs.Result.{IsErrOf}
use Rattle.ioa_value.specs.Actions.{Act, Name, act_of}
use Rattle.ioa_value.specs.Table.{Table}
use Rattle.ioa_tree.specs.Hosts.{Hosted}
use Rattle.ioa_tree.specs.Invariants.{Broken}
use Rattle.ioa_tree.specs.Runs.{Ending}
use Rattle.ioa_compose.specs.declared.composition.Composition.{Composition}
use Rattle.ioa_compose.specs.Held.{composed_of}
use Rattle.ioa_compose.proofs.StandLemmas.{stands_broken}
use Rattle.ioa_compile.specs.Programs.{Prog}
use Rattle.ioa_compile.specs.Tables.{start_states, tabled}
use Rattle.ioa_compile.proofs.Subjects.{does_as}
use Rattle.ioa_compile.specs.Subjects.{InSlots, Runs, RunsAs, Subject, its_components, its_starts, of_composition, of_hosts, of_table}
use Rattle.ioa_system.specs.Logs.{Logged, actions_of, log_end, logged}
use Rattle.ioa_monitor.proofs.Monitored.{monitored_like}
use Rattle.ioa_board.specs.declared.outcome.Outcome.{Outcome}
use Rattle.ioa_run.specs.Alone.{IsOutcomeFrom, RefusesResumed}
use Rattle.ioa_board.specs.Outcomes.{HaveEnded}
use Rattle.ioa_run.specs.Seeds.{words_from}
use Rattle.ioa_request.specs.Keys.{numbered_key}
use Rattle.ioa_serving.specs.Alone.{CameOf, HaveOwn, IsExact, IsReady, IsUnrun}
use Rattle.ioa_serving.specs.HasRun.{HasReady}
use Rattle.ioa_serving.specs.Logs.{answer_to, performed_in}
use Rattle.ioa_serving.specs.Streams.{key_words}
use Rattle.ioa_serving.proofs.Given.{key_given}
use Rattle.ioa_serving.proofs.Going.{resumed_as}
use Rattle.ioa_serving.proofs.Hosted.{count_same, inputs_same, is_run, log_of}
use Rattle.ioa_serving.proofs.RoundRobin.{turned}
use Rattle.ioa_serving.proofs.Unrun.{unrun_by}
use Rattle.ioa_board.specs.declared.run_err.RunErr.{RunErr}
use Rattle.ioa_serving.specs.declared.failure.Failure.{Failure}
use Rattle.ioa_serving.specs.declared.seed_tally.Tally.{Tally}
use Rattle.ioa_serving.specs.declared.sown.Sown.{Sown}
use Rattle.ioa_request.specs.declared.seeds.Seeds.{Seeds}
use Rattle.ioa_request.specs.declared.settings.Settings.{Settings}
use Rattle.ioa_serving.specs.declared.ready.Ready.{Ready}
use Rattle.ioa_serving.specs.declared.status.Status.{Status}
use Rattle.ioa_serving.specs.Coverage.{told_coverage}
use Rattle.ioa_serving.specs.Worlds.{Files}
use Rattle.ioa_serving.specs.Placing.{log_mark}
use Rattle.ioa_serving.specs.Seeds.{AreSeedsJudged, AreSown, IsAnswerOf, IsInspected, IsKeptIn, IsSeedJudged, IsSeedsServed, IsSeedsUnserved, IsShortest, IsUnkeepable, Judged, counts_status, monitors_of, performed_by_all, seeds_text, with_seed}
use Rattle.ioa_serving.specs.SeedRuns.{AreSeedJudgments, HasSown, IsBegun, IsNoneRun, IsSeedJudgment, IsSeedRun, IsSpecification, IsTold, StandsFor, asked, broken_in, table_answer}
use Rattle.ioa_serving.specs.Serving.{run_failure}
use Rattle.ioa_serving.proofs.SeedsTold.{status_same}

-- what came of a run on one thread, by its words
came_alone : (holds : Name → List ℕ → Type 0) (s : Settings) (p : Prog) (o : Outcome) (x : Subject) (script : List Act) (before : Logged) → IsReady holds s x script before → RunsAs p x
    → RefusesResumed p script s.turns before (Ok o) → IsOutcomeFrom p before.entries script s.turns o → HaveEnded s.turns (log_end o.end) o.reports.items
    → IsExact holds s x before script (log_of o.log.items o.end) o.reports.items → (c : CameOf holds s x (log_of o.log.items o.end) o.reports.items) × (c.script ≡ script)
came_alone holds s p o x script before ready runs fine (b, log, goes, told) ended exact = (
  record {
    script = script;
    before = before;
    ready = ready;
    turns = fine.0;
    inputs = inputs_same p x runs script fine.1;
    resumed = resumed_as p x runs before fine.2.0 fine.2.1;
    run = is_run p x runs b o.log.items o.end o.states.items log before.entries script s.turns o.reports.items goes told ended;
    exact = exact;
  },
  refl,
)

-- what a specification's table answers, its hosts do
answer_same : (p : Prog) (h : Hosted) (log : Logged) → Runs p h → table_answer log p ≡ answer_to (of_hosts h) log
answer_same p h log runs =
    let s = of_hosts h in
    let k = does_as p s runs in
    sym (monitored_like (InSlots p s) (its_components s) (tabled p) (performed_in log) (its_starts s) (start_states p) k.components k.starts)

answers_as : (text : List ℕ) (log : Logged) (names : List Name) (ps : List Prog) → AllZip (IsSpecification text) names ps
    → AllZip (IsAnswerOf text log) names (map (table_answer log) ps)
answers_as text log [] [] h = tt
answers_as text log [] (p ∷ ps) h = absurd h
answers_as text log (name ∷ names) [] h = absurd h
answers_as text log (name ∷ names) (p ∷ ps) h = ((h.0.0, h.0.1, h.0.2, answer_same p h.0.0 log h.0.3), answers_as text log names ps h.1)

module _ (holds : Name → List ℕ → Type 0) (lacks : Name → Type 0) (s : Settings) (r : Ready) (k : HasReady holds s r) where
  abbrev script : List Act
  script = map act_of r.script.items

  -- all that is read for the single run with this seed
  ready_by : (n : ℕ) → IsReady holds (with_seed s n) k.subject script (logged r.log)
  ready_by n = record { gives = k.ready.gives; words = tt; inputs = k.ready.inputs; log = k.ready.log }

  exact_by : (n : ℕ) (log : Logged) (u : IsSeedRun r.program (logged r.log) script s.turns n log)
      → IsExact holds (with_seed s n) k.subject (logged r.log) script (log_of u.outcome.log.items u.outcome.end) u.outcome.reports.items
  exact_by n log u = λ alone none. (
    map words_from u.sources,
    subst (λ m. HaveOwn m (key_words (numbered_key n)) (map words_from u.sources)) (count_same r.program k.subject k.runs) (key_given (numbered_key n) (length r.program.members) u.sources u.streams),
    turned r.program k.subject (logged r.log) (map words_from u.sources) script s.turns u.outcome k.program k.runs u.alone,
  )

  seed_came : (n : ℕ) (log : Logged) (u : IsSeedRun r.program (logged r.log) script s.turns n log)
      → (c : CameOf holds (with_seed s n) k.subject log u.outcome.reports.items) × (c.script ≡ script)
  seed_came n log u =
      subst (λ (l : Logged). (c : CameOf holds (with_seed s n) k.subject l u.outcome.reports.items) × (c.script ≡ script)) (sym u.is_log)
      (came_alone holds (with_seed s n) r.program u.outcome k.subject script (logged r.log) (ready_by n) k.runs u.begun u.came u.ended (exact_by n log u))

  pub none_run : (e : RunErr) → (e ≡ RunErr.OutOfMemory) ⊎ ((e ≡ RunErr.Threads → ⊥) × RefusesResumed r.program script s.turns (logged r.log) (Err e)) → IsUnrun holds lacks s (run_failure e)
  none_run e (inl h) = subst (λ x. IsUnrun holds lacks s (run_failure x)) (sym h) tt
  none_run e (inr h) = unrun_by r.program k.subject holds lacks s script (logged r.log) e {T = Unit {0}} k.runs k.ready h.1 (λ is. absurd (h.0 (thread is)))
    where
      thread : IsErrOf {T = Unit {0}} (Err e) RunErr.Threads → e ≡ RunErr.Threads
      thread is = cc

-- what the composition breaks, the hosts break
inspected_as : (b : Bool) (x : Subject) (c : Option Composition) (log : Logged) (o : Option (Option Broken)) → StandsFor b x c → o ≡ broken_in c log → IsInspected b x log o
inspected_as false x c log o none is = is ∙ ap (λ d. broken_in d log) none
inspected_as true (of_hosts h) (Some c) log o stands is = is ∙ ap Some (sym (stands_broken h (composed_of c) stands (actions_of log)))
inspected_as true (of_hosts h) None log o stands is = absurd stands
inspected_as true (of_composition d) c log o stands is = absurd stands
inspected_as true (of_table p) c log o stands is = absurd stands

-- so many specifications answer
pub names_count : (holds : Name → List ℕ → Type 0) (s : Seeds) (w : Sown) → HasSown holds s w → length w.specifications.items ≡ length (monitors_of s)
names_count holds s w k = go (monitors_of s) w.specifications.items k.specified
  where
    go : (names : List Name) (ps : List Prog) → AllZip (IsSpecification k.text) names ps → length ps ≡ length names
    go [] [] h = refl
    go [] (p ∷ ps) h = absurd h
    go (name ∷ names) [] h = absurd h
    go (name ∷ names) (p ∷ ps) h = ap suc (go names ps h.1)

module _ (f : Files) (s : Seeds) (w : Sown) (k : HasSown f.holds s w) (room : IfSome (option_copied s.keep) (f.yields log_mark)) where
  seed_judged : (n : ℕ) (j : Judged) → IsSeedJudgment w s.run.turns n j → IsSeedJudged f.holds s.run k.ready.subject k.text (monitors_of s) s.invariants (map act_of w.ready.script.items) n j
  seed_judged n j u =
      let c = seed_came f.holds f.lacks s.run w.ready k.ready n j.log u.run in
      record {
        reports = u.run.outcome.reports.items;
        came = c.0;
        same_script = c.1;
        memory = u.run.memory;
        answers = subst (λ (answers : List (Option Ending)). AllZip (IsAnswerOf k.text j.log) (monitors_of s) answers) (sym u.answers) (answers_as k.text j.log (monitors_of s) w.specifications.items k.specified);
        inspected = inspected_as s.invariants k.ready.subject (asked w.invariants w.ready.source) j.log j.inspected k.stands u.inspected;
      }

  seeds_judged : (n : ℕ) (js : List Judged) → AreSeedJudgments w s.run.turns n js
      → AreSeedsJudged f.holds s.run k.ready.subject k.text (monitors_of s) s.invariants (map act_of w.ready.script.items) n js
  seeds_judged n [] h = tt
  seeds_judged n (j ∷ js) h = (seed_judged n j h.0, seeds_judged (suc n) js h.1)

  are_sown : (js : List Judged) → AreSeedJudgments w s.run.turns s.first js → AreSown f s js
  are_sown js runs = record {
    text = k.text;
    held = k.held;
    subject = k.ready.subject;
    gives = k.gives;
    script = map act_of w.ready.script.items;
    runs = seeds_judged s.first js runs;
    yields = room;
  }

  -- nothing was run, or not all is told
  pub unserved : (old new : Option (List ℕ)) (failed : Type 0) (e : Failure) → f.kept → IsNoneRun w s.run.turns old new e ⊎ IsBegun w s failed old new e → IsSeedsUnserved f s failed old new e
  unserved old new failed e same (inl h) =
      (same, inl (inl (subst (IsUnrun f.holds f.lacks s.run) (sym h.0.1) (none_run f.holds f.lacks s.run w.ready k.ready h.0.0 h.0.2)), h.1))
  unserved old new failed e same (inr h) = (same, inr (inl (record { judged = h.judged; few = h.few; sown = are_sown h.judged h.runs; cut = h.cut })))

  module _ (old new : Option (List ℕ)) (t : Tally) (js : List Judged) (told : IsTold w s (seeds_text s.json (monitors_of s) s.invariants s.first js) old new t js) where
    -- all is told, and a log is kept, where there is one to be
    pub served : (types : Table) (telling : Option (List ℕ)) (done : Status) → types ≡ w.ready.program.types → IsKeptIn f types (option_copied s.keep) (option_map logged t.shortest)
        → telling ≡ told_coverage k.ready.subject s.run.coverage (performed_by_all js)
        → done ≡ counts_status t.counts.fault t.counts.refusals.items t.counts.broken → IsSeedsServed f s old new telling done
    unfolding are_sown
    served types telling done same keeps told_them status = record {
      judged = js;
      count = told.count;
      sown = are_sown js told.runs;
      output = told.output;
      shortest = option_map logged t.shortest;
      is_shortest = told.tallied.1;
      keeps = subst (λ (ts : Table). IsKeptIn f ts (option_copied s.keep) (option_map logged t.shortest)) (same ∙ (does_as w.ready.program k.ready.subject k.ready.runs).types) keeps;
      told = told_them;
      status = status ∙ status_same w s (names_count f.holds s w k) t js told.tallied;
    }

    -- or it is not
    pub unkept : (failed : Type 0) (e : Failure) → f.kept → (log : Logged) × (option_map logged t.shortest ≡ Some log) × IsUnkeepable (f.blocks log_mark) (option_copied s.keep) e
        → IsSeedsUnserved f s failed old new e
    unkept failed e same h = (
      same,
      inr (inr (record {
        judged = js;
        count = told.count;
        sown = are_sown js told.runs;
        output = told.output;
        shortest = h.0;
        is_shortest = subst (IsShortest js) h.1 told.tallied.1;
        unkeepable = h.2;
      })),
    )
