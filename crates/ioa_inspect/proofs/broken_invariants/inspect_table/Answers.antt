use Rattle.std.proofs.Common.{◌≡◌, ◌<◌, ◌≤◌, ◌+◌, ℕ, List, [], map, take, length, Option, sym, ap, subst, ◌∙◌, arith, length-take}
use Rattle.std.specs.Option.{option_map}
use Rattle.std.proofs.lemmas.List.{length-map}
use Rattle.std.proofs.lemmas.Result.{err_from_is_err_and}
use Rattle.ioa_value.specs.Actions.{Act, act_of}
use Rattle.ioa_value.specs.Plain.{Val}
use Rattle.ioa_tree.specs.Compositions.{Composed}
use Rattle.ioa_tree.specs.Invariants as spec
use Rattle.ioa_tree.specs.Meaning.{or_else}
use Rattle.ioa_tree.specs.Runs.{Reached, done, after, run_from}
use Rattle.ioa_tree.specs.Steps.{step}
use Rattle.ioa_compose.specs.Held.{composed_of}
use Rattle.ioa_compile.specs.Programs.{Prog}
use Rattle.ioa_compile.specs.Tables.{start_states, tabled}
use Rattle.ioa_system.specs.declared.log.LogEntry.{LogEntry}
use Rattle.ioa_system.specs.Logs.{Logged, actions_of, logged, log_entry}
use Rattle.ioa_system.specs.Progress.{reached_by}
use Rattle.ioa_system.specs.Records.{reached_of}
use Rattle.ioa_system.specs.Outcomes.{ending_of}
use Rattle.ioa_system.specs.Systems.{slot_types, values_of}
use Rattle.ioa_system.proofs.Finding.{read_map}
use Rattle.ioa_device.specs.declared.failure.LogErr.{LogErr}
use Rattle.ioa_replay.specs.Traced.{HasTraced}
use Rattle.ioa_log.specs.Judging.{TellsVerdict}
use Rattle.ioa_log.proofs.EntryByEntry.{judges_entry_by_entry}
use Rattle.ioa_log.proofs.Following.{counts_entry, judged_step, one_taken, refused_log}
use Rattle.ioa_replay.proofs.Traced.{all_taken}
use Rattle.ioa_inspect.specs.Breaking.{AreStates, AreTyped, broken_at_end, broken_of, states_in}
use Rattle.ioa_inspect.proofs.Breaking.{Asked, asked_none, asked_more, asked_all, typed_states}
use Rattle.ioa_inspect.proofs.broken_invariants.inspect_table.Goals as goal
use Rattle.ioa_inspect.proofs.broken_invariants.inspect_table.Goals.{In_ok-run}

as_many : (es : List LogEntry) → length (map (λ (x : ℕ × Act). x.1) (map log_entry es)) ≡ length es
as_many es = length-map (map log_entry es) (λ (x : ℕ × Act). x.1) ∙ length-map es log_entry

so_many : (es : List LogEntry) (n : ℕ) → n < length es → length (map log_entry (take n es)) ≡ n
so_many es n l = omega (arith, length-map (take n es) log_entry, length-take n es)

pub loop-count-init : goal.loop-count-init
loop-count-init c =
    let acts : List Act = actions_of (logged c.args.log.now) in
    (c.in_ok-judge.ensures, asked_none (composed_of c.args.asked.now) c.args.program.now acts (reached_by c.in_ok-judge.judge.judge.runner) c.requires c.in_ok-judge.ensures.run.reached)

pub or_broken_in-requires-clause-states : goal.or_broken_in-requires-clause-states
or_broken_in-requires-clause-states c = subst (AreStates (composed_of c.args.asked.now).members) (sym c.states-states.ensures.values) c.loop-count.invariant.1.states

pub or_broken_in-requires-clause-typed : goal.or_broken_in-requires-clause-typed
or_broken_in-requires-clause-typed c =
    typed_states (composed_of c.args.asked.now).members c.args.program.now.members c.states-states.result.now c.requires.tables
    (c.states-states.ensures.types ∙ ap (λ (p : Prog). slot_types p.members) c.loop-count.invariant.0.run.program)

pub follow-requires : goal.follow-requires
follow-requires c =
    let es : List LogEntry = c.args.log.now.entries.items in
    let n : ℕ = c.loop-count.count in
    let l : n < length es = omega arith in
    counts_entry c.args.program.now (map log_entry (take n es)) (map act_of c.loop-count.judge.trace.items) c.loop-count.judge.judge c.loop-count.invariant.0 (omega (arith, so_many es n l))

pub loop-count-preserved : goal.loop-count-preserved
loop-count-preserved c =
    let s : Composed = composed_of c.args.asked.now in
    let p : Prog = c.args.program.now in
    let acts : List Act = actions_of (logged c.args.log.now) in
    let es : List LogEntry = c.args.log.now.entries.items in
    let x : LogEntry = c.index-entry.result.now in
    let n : ℕ = c.loop-count.count in
    let o : Option spec.Broken = option_map broken_of c.loop-count.broken in
    let l : n < length es = omega arith in
    let k : n < length acts = omega (arith, as_many es) in
    let f = c.in_ok-follow.ensures.ok p (map log_entry (take n es)) c.loop-count.invariant.0 in
    let t = judged_step p (map log_entry (take n es)) _ _ c.loop-count.judge.judge c.follow.new.self.judge (log_entry x) c.loop-count.invariant.0 f in
    let m : length (map log_entry (take n es)) ≡ n = so_many es n l in
    let asked : option_map broken_of c.in_ok-broken.broken ≡ or_else o (spec.broken_at s n (states_in s.members 0 c.loop-count.judge.judge.runner.states)) =
    c.in_ok-broken.ensures ∙ ap (λ (vss : List (List Val)). or_else o (spec.broken_at s n (states_in s.members 0 vss))) c.states-states.ensures.values in (
      subst (λ ys. HasTraced p ys c.follow.new.self) (one_taken es n x l c.index-entry.ensures) f,
      asked_more s p acts n (log_entry x).1 (reached_by c.loop-count.judge.judge.runner) (reached_by c.follow.new.self.judge.runner) o (option_map broken_of c.in_ok-broken.broken) k
          (read_map (λ (e : ℕ × Act). e.1) (map log_entry es) n (log_entry x) (log_entry x) (read_map log_entry es n x x c.index-entry.ensures))
          c.loop-count.invariant.1 (t.0 ∙ ap done m) asked c.requires
          (t.1 ∙ ap (λ (j : ℕ). after j c.loop-count.judge.judge.runner.states (step (tabled p) (log_entry x).1 c.loop-count.judge.judge.runner.states) (λ ts. run_from (j + 1) (tabled p) [] ts)) m),
    )

pub returns-in_err-follow-clause-verdict : goal.returns-in_err-follow-clause-verdict
returns-in_err-follow-clause-verdict c =
    let es : List LogEntry = c.args.log.now.entries.items in
    let x : LogEntry = c.index-entry.result.now in
    let n : ℕ = c.loop-count.count in
    let l : n < length es = omega arith in
    let error : LogErr = c.in_err-follow.field-0.0 in
    let same = err_from_is_err_and c.from_residual-in_err-follow.result c.from_residual-in_err-follow.ensures.1 in
    rw (same.1, same.2) (refused_log c.args.program.now c.args.log.now n x error l c.index-entry.ensures
    (c.in_err-follow.ensures.verdict c.args.program.now (map log_entry (take n es)) c.loop-count.invariant.0))

pub returns-in_err-run-clause-verdict : goal.returns-in_err-run-clause-verdict
returns-in_err-run-clause-verdict c =
    let p : Prog = c.args.program.now in
    let log : Logged = logged c.args.log.now in
    let error : LogErr = c.in_err-run.field-0.0 in
    let same = err_from_is_err_and c.from_residual-in_err-run.result c.from_residual-in_err-run.ensures.1 in
    let all = all_taken p c.args.log.now.entries.items c.loop-count.count c.loop-count.judge (omega arith) c.loop-count.invariant.0 in
    rw (same.1, same.2) (subst (TellsVerdict error) (sym (judges_entry_by_entry (tabled p) (start_states p) log)) (c.in_err-run.ensures.verdict p log.entries all))

-- all entries are followed
all_followed : (c : In_ok-run) → HasTraced c.args.program.now (logged c.args.log.now).entries c.loop-count.judge
all_followed c = all_taken c.args.program.now c.args.log.now.entries.items c.loop-count.count c.loop-count.judge (omega arith) c.loop-count.invariant.0

-- and their run is the answer
asked_run : (c : In_ok-run) → Asked (composed_of c.args.asked.now) c.args.program.now (actions_of (logged c.args.log.now)) c.loop-count.count (option_map broken_of c.loop-count.broken)
    (reached_of c.in_ok-run.run')
asked_run c =
    let p : Prog = c.args.program.now in
    let log : Logged = logged c.args.log.now in
    let same : reached_by c.loop-count.judge.judge.runner ≡ reached_of c.in_ok-run.run' =
    (all_followed c).run.reached ∙ sym (c.in_ok-run.ensures.run p log.entries (all_followed c)).1.reached in
    subst (λ (r : Reached (List Val)). Asked (composed_of c.args.asked.now) p (actions_of log) c.loop-count.count (option_map broken_of c.loop-count.broken) r) same c.loop-count.invariant.1

pub or_broken_at_end-requires-clause-states : goal.or_broken_at_end-requires-clause-states
or_broken_at_end-requires-clause-states c =
    subst (λ ns. AreStates (composed_of c.args.asked.now).members (values_of ns)) (sym c.deref.ensures.value) (asked_run ((goal.at.or_broken_at_end-requires-clause-states c).In_ok-run)).states

pub or_broken_at_end-requires-clause-typed : goal.or_broken_at_end-requires-clause-typed
or_broken_at_end-requires-clause-typed c =
    let at = (goal.at.or_broken_at_end-requires-clause-typed c).In_ok-run in
    subst (AreTyped (composed_of c.args.asked.now).members) (sym c.deref.ensures.value)
    (typed_states (composed_of c.args.asked.now).members c.args.program.now.members c.in_ok-run.run'.states.items c.requires.tables
    (c.in_ok-run.ensures.run c.args.program.now (logged c.args.log.now).entries (all_followed at)).1.types)

pub returns : goal.returns
returns c =
    let at = (goal.at.returns c).In_ok-run in
    let s : Composed = composed_of c.args.asked.now in
    let log : Logged = logged c.args.log.now in
    let acts : List Act = actions_of log in
    let es : List LogEntry = c.args.log.now.entries.items in
    let l : length acts ≤ c.len.result = omega (arith, as_many es) in
    let n : c.loop-count.count ≡ c.len.result = omega arith in
    let o : Option spec.Broken = option_map broken_of c.loop-count.broken in
    let k = c.in_ok-run.ensures.run c.args.program.now log.entries (all_followed at) in
    let asked =
    c.in_ok-broken-2.ensures
    ∙ ap (λ ns. or_else o (broken_at_end s c.len.result (ending_of c.in_ok-run.run'.end) (states_in s.members 0 (values_of ns)))) c.deref.ensures.value in
    record {
      run = (judges_entry_by_entry (tabled c.args.program.now) (start_states c.args.program.now) log ∙ k.0, k.1);
      first =
          sym (asked_all s c.args.program.now acts c.len.result (reached_of c.in_ok-run.run') o (option_map broken_of c.in_ok-broken-2.broken) l
          (subst (λ (k : ℕ). Asked s c.args.program.now acts k o (reached_of c.in_ok-run.run')) n (asked_run at)) asked);
      verdict = tt;
    }
