use Rattle.std.proofs.Common.{◌≡◌, ◌+◌, ◌-◌, ◌<◌, ◌++◌, ◌∷◌, [], ℕ, List, Option, None, Err, Ok, length, map, refl, sym, ap, subst, ◌∙◌, arith, length-append}
use Rattle.std.specs.Option.{option_map}
use Rattle.std.proofs.lemmas.Bool.{false≢true}
use Rattle.std.proofs.lemmas.Result.{err_from_is_err_and}
use Rattle.ioa_value.specs.Actions.{Act}
use Rattle.ioa_value.specs.Plain.{Val}
use Rattle.ioa_tree.specs.Compositions.{Composed}
use Rattle.ioa_tree.specs.Invariants.{Broken, first_broken}
use Rattle.ioa_tree.specs.Meaning.{or_else}
use Rattle.ioa_tree.specs.Runs.{Ending}
use Rattle.ioa_compose.specs.Held.{composed_of}
use Rattle.ioa_compile.specs.Programs.{Prog}
use Rattle.ioa_compile.specs.Subjects.{of_table}
use Rattle.ioa_system.specs.Outcomes.{ending_of}
use Rattle.ioa_system.specs.Progress.{reached_by}
use Rattle.ioa_system.specs.Systems.{slot_types, values_of}
use Rattle.ioa_device.specs.declared.failure.LogErr.{LogErr}
use Rattle.ioa_device.specs.LineReading.{rest, to_come}
use Rattle.ioa_device.proofs.Devices.{handed_on}
use Rattle.ioa_device.proofs.LineReading.{line_came, line_taken, none_came, nothing_taken, of_all, of_line, of_more, of_stop, some_came}
use Rattle.ioa_log.specs.LogReadings.{HasHeard, HearsLine}
use Rattle.ioa_log.specs.AgreeingLogs.{IsNoLog}
use Rattle.ioa_log.proofs.Following.{counts_entry}
use Rattle.ioa_log.proofs.LineJudging.{as_many_lines, text_goes_on}
use Rattle.ioa_inspect.specs.Breaking.{AreStates, broken_at_end, broken_of, states_in}
use Rattle.ioa_inspect.specs.LogInspections.{IsTableInspected}
use Rattle.ioa_inspect.proofs.LogInspections.{AreAsked, asked_first, asked_here, line_asked}
use Rattle.ioa_inspect.proofs.Breaking.{typed_states}
use Rattle.ioa_inspect.proofs.log_inspections.inspect_lines.Goals as goal

pub loop-turn-init : goal.loop-turn-init
loop-turn-init g c = record {
  within = c.in_ok-lines.ensures.within;
  over = λ e. absurd (false≢true (sym c.in_ok-lines.ensures.going ∙ e));
  passed = refl;
  counted = let z : length (rest c.in_ok-lines.lines) ≡ 0 = ap length c.in_ok-lines.ensures.none in omega (arith, z);
  heard = (
    [],
    [],
    c.in_ok-reading.ensures.heard,
    refl,
    nothing_taken (g.R.Read.remaining c.args.input.now) c.in_ok-lines.lines c.in_ok-lines.ensures.none,
    subst (λ b. AreAsked (composed_of c.args.asked.now) c.args.program.now b [] None c.in_ok-reading.reading) (sym c.in_ok-reading.ensures.going)
        (asked_first (composed_of c.args.asked.now) c.args.program.now (reached_by c.in_ok-reading.reading.lines.judge.runner) c.requires c.in_ok-reading.ensures.heard.taken.judged.run.reached),
  );
}

pub returns-then-not-branch-clause-ok : goal.returns-then-not-branch-clause-ok
returns-then-not-branch-clause-ok g c =
    let p : Prog = c.args.program.now in
    let s : Composed = composed_of c.args.asked.now in
    let k = c.loop-turn.invariant.heard in
    let found : first_broken s (map (λ (e : ℕ × Act). e.1) k.1) ≡ option_map broken_of c.loop-turn.broken =
    subst (λ b. AreAsked s p b k.1 (option_map broken_of c.loop-turn.broken) c.loop-turn.reading) c.in_ok-replayed.ensures.over k.5 in
    of_all (g.R.Read.remaining c.args.input.now) _ _ k.0 k.4 (λ bytes. IsTableInspected p s bytes _) (none_came _ (c.in_ok-advance.ensures.none (ap Ok c.if-not-branch.true)))
    (λ bytes e.
    let said = c.in_ok-replayed.ensures.ok p bytes k.1 (subst (λ ls. HasHeard p ls k.1 c.loop-turn.reading) (sym e) k.2) in
    (said.0, sym found ∙ ap (λ (es : List (ℕ × Act)). first_broken s (map (λ (e : ℕ × Act). e.1) es)) (sym said.1)))

pub returns-in_err-replayed-clause-refused : goal.returns-in_err-replayed-clause-refused
returns-in_err-replayed-clause-refused g c =
    let p : Prog = c.args.program.now in
    let k = c.loop-turn.invariant.heard in
    let error : LogErr = c.in_err-replayed.field-0.0 in
    let same = err_from_is_err_and c.from_residual-in_err-replayed.result c.from_residual-in_err-replayed.ensures.1 in
    rw (same.1, same.2) (of_all (g.R.Read.remaining c.args.input.now) _ _ k.0 k.4 (λ bytes. IsNoLog (of_table p) bytes error) (none_came _ (c.in_ok-advance.ensures.none (ap Ok c.if-not-branch.true)))
    (λ bytes e. c.in_err-replayed.ensures.refused p bytes k.1 (subst (λ ls. HasHeard p ls k.1 c.loop-turn.reading) (sym e) k.2)))

pub returns-in_err-advance-clause-refused : goal.returns-in_err-advance-clause-refused
returns-in_err-advance-clause-refused g c =
    let k = c.loop-turn.invariant.heard in
    let error : LogErr = c.in_err-advance.field-0.0 in
    let same = err_from_is_err_and c.from_residual-in_err-advance.result c.from_residual-in_err-advance.ensures.1 in
    rw (same.1, same.2) (of_stop (g.R.Read.remaining c.args.input.now) (λ e bytes. IsNoLog (of_table c.args.program.now) bytes e) error c.in_err-advance.ensures.only (λ bytes. tt) (λ bytes. tt) (λ e.
    let longer = c.in_err-advance.ensures.longer (ap Err e) in
    of_more (g.R.Read.remaining c.args.input.now) _ _ k.0 k.4 (λ bytes. IsNoLog (of_table c.args.program.now) bytes LogErr.AfterEnd) (some_came (to_come (g.R.Read.remaining c.loop-turn.input) c.loop-turn.lines) longer.1)
    (text_goes_on c.args.program.now k.0 k.1 k.2.traced c.loop-turn.reading.lines k.2.taken (sym c.is_over.ensures ∙ longer.0))))

pub returns-in_err-advance-clause-devices : goal.returns-in_err-advance-clause-devices
returns-in_err-advance-clause-devices g c =
    let same = err_from_is_err_and c.from_residual-in_err-advance.result c.from_residual-in_err-advance.ensures.1 in
    handed_on g.R.Read.remaining g.R.Device.failure_count c.args.input.now c.loop-turn.input c.advance.new.input c.in_err-advance.field-0.0 same.0 LogErr.Io c.from_residual-in_err-advance.result
    same.1 same.2 c.loop-turn.invariant.passed c.in_err-advance.ensures.devices

pub take_line-requires-clause-going : goal.take_line-requires-clause-going
take_line-requires-clause-going g c = sym c.is_over.ensures ∙ c.in_ok-advance.ensures.going (ap Ok c.if-not-branch.false)

pub take_line-requires-clause-counts : goal.take_line-requires-clause-counts
take_line-requires-clause-counts g c =
    let k = c.loop-turn.invariant.heard in
    let many = as_many_lines c.args.program.now k.0 k.1 k.2.traced c.loop-turn.reading.lines k.2.taken (sym c.is_over.ensures ∙ c.in_ok-advance.ensures.going (ap Ok c.if-not-branch.false)) in
    counts_entry c.args.program.now k.1 k.2.traced c.loop-turn.reading.lines.judge k.2.taken.judged (omega (arith, many, k.3, c.loop-turn-test.true))

pub returns-in_err-take_line-clause-refused : goal.returns-in_err-take_line-clause-refused
returns-in_err-take_line-clause-refused g c =
    let came = line_came (to_come (g.R.Read.remaining c.loop-turn.input) c.loop-turn.lines) (to_come (g.R.Read.remaining c.advance.new.input) c.advance.new.self) c.advance.new.self.line.items
    (c.in_ok-advance.ensures.line (ap Ok c.if-not-branch.false)) in
    let k = c.loop-turn.invariant.heard in
    let error : LogErr = c.in_err-take_line.field-0.0 in
    let same = err_from_is_err_and c.from_residual-in_err-take_line.result c.from_residual-in_err-take_line.ensures.1 in
    let n : c.loop-turn.turn + 1 ≡ length k.0 + 1 = ap (λ (m : ℕ). m + 1) (sym k.3) in
    rw (same.1, same.2) (of_line (g.R.Read.remaining c.args.input.now) _ _ k.0 k.4 (λ bytes. IsNoLog (of_table c.args.program.now) bytes error) _ c.advance.new.self.line.items
    came.0 came.1
    (λ bytes after parted. c.in_err-take_line.ensures.refused c.args.program.now k.0 after k.1 bytes k.2 n
    (parted ∙ ap (λ (l : List ℕ). k.0 ++ l ∷ after) (sym c.deref.ensures.value))))

pub or_broken_at_end-requires-clause-states : goal.or_broken_at_end-requires-clause-states
or_broken_at_end-requires-clause-states g c =
    let s : Composed = composed_of c.args.asked.now in
    let k = c.loop-turn.invariant.heard in
    let so_far = asked_here s c.args.program.now c.loop-turn.reading.lines.over k.1 (option_map broken_of c.loop-turn.broken) c.loop-turn.reading (sym c.is_over.ensures ∙ c.in_ok-advance.ensures.going (ap Ok c.if-not-branch.false)) k.5 in
    subst (AreStates s.members) (sym c.states.ensures.values) so_far.states

pub or_broken_at_end-requires-clause-typed : goal.or_broken_at_end-requires-clause-typed
or_broken_at_end-requires-clause-typed g c =
    let k = c.loop-turn.invariant.heard in
    typed_states (composed_of c.args.asked.now).members c.args.program.now.members c.states.result.now c.requires.tables
    (c.states.ensures.types ∙ ap (λ (p : Prog). slot_types p.members) k.2.taken.judged.run.program)

pub loop-turn-preserved : goal.loop-turn-preserved
loop-turn-preserved g c =
    let came = line_came (to_come (g.R.Read.remaining c.loop-turn.input) c.loop-turn.lines) (to_come (g.R.Read.remaining c.advance.new.input) c.advance.new.self) c.advance.new.self.line.items
    (c.in_ok-advance.ensures.line (ap Ok c.if-not-branch.false)) in
    let p : Prog = c.args.program.now in
    let s : Composed = composed_of c.args.asked.now in
    let k = c.loop-turn.invariant.heard in
    record {
      within = c.in_ok-advance.ensures.within;
      over = c.in_ok-advance.ensures.over;
      counted = c.in_ok-advance.ensures.counted (ap Ok c.if-not-branch.false) c.loop-turn.turn c.loop-turn.invariant.counted;
      passed = c.in_ok-advance.ensures.devices.passed (λ e. absurd (cc)) ∙ c.loop-turn.invariant.passed;
      heard =
          let ls : List (List ℕ) = k.0 ++ c.advance.new.self.line.items ∷ [] in
          let count = length-append k.0 (c.advance.new.self.line.items ∷ []) ∙ ap (λ (m : ℕ). m + 1) k.3 in
          let taken = line_taken (g.R.Read.remaining c.args.input.now) _ _ _ k.0 c.advance.new.self.line.items k.4 came.0 came.1 in
          let heard = subst (λ (l : List ℕ). HearsLine p k.0 k.1 l c.loop-turn.reading.lines.judge c.take_line.new.self) c.deref.ensures.value (c.in_ok-take_line.ensures.ok p k.0 k.1 k.2) in
          let so_far = asked_here s p c.loop-turn.reading.lines.over k.1 (option_map broken_of c.loop-turn.broken) c.loop-turn.reading (sym c.is_over.ensures ∙ c.in_ok-advance.ensures.going (ap Ok c.if-not-branch.false)) k.5 in
          let many : c.loop-turn.turn ≡ length k.1 = sym k.3 ∙ as_many_lines p k.0 k.1 k.2.traced c.loop-turn.reading.lines k.2.taken (sym c.is_over.ensures ∙ c.in_ok-advance.ensures.going (ap Ok c.if-not-branch.false)) in
          let found : ℕ → Ending → List (List Val) → Option Broken =
          λ n e vss. or_else (option_map broken_of c.loop-turn.broken) (broken_at_end s n e (states_in s.members 0 vss)) in
          let asked =
          c.in_ok-broken.ensures ∙ ap (λ n. found n (ending_of c.end.result) (values_of c.states.result.now)) many
          ∙ ap (λ e. found (length k.1) (ending_of e) (values_of c.states.result.now)) c.end.ensures
          ∙ ap (found (length k.1) (ending_of c.loop-turn.reading.lines.judge.runner.end)) c.states.ensures.values in
          let more = line_asked s p k.0 k.1 c.advance.new.self.line.items (option_map broken_of c.loop-turn.broken) (option_map broken_of c.in_ok-broken.broken) c.loop-turn.reading
          c.take_line.new.self c.requires k.2 so_far heard asked in
          (ls, more.0, more.1, count, taken, more.2);
    }

pub blamed-requires : goal.blamed-requires
blamed-requires g c = λ e. omega (arith, c.loop-turn.invariant.counted)
