use Rattle.std.proofs.Common.{◌≡◌, ◌+◌, ◌-◌, ◌++◌, ◌∷◌, [], ℕ, List, Err, Ok, length, refl, sym, ap, subst, ◌∙◌, arith, length-append}
use Rattle.std.specs.Option.{option_map}
use Rattle.std.proofs.lemmas.Bool.{false≢true}
use Rattle.std.proofs.lemmas.Option.{IfSome_then}
use Rattle.std.proofs.lemmas.Result.{IfErr-weaker, IfOk-weaker, err_from_is_err_and}
use Rattle.ioa_compile.specs.Programs.{Prog}
use Rattle.ioa_compile.specs.Subjects.{of_table}
use Rattle.ioa_system.specs.Outcomes.{ending_of}
use Rattle.ioa_device.specs.declared.failure.LogErr.{LogErr}
use Rattle.ioa_device.specs.LineReading.{rest, to_come}
use Rattle.ioa_device.proofs.Devices.{handed_on}
use Rattle.ioa_device.proofs.LineReading.{line_came, line_taken, none_came, nothing_taken, of_all, of_line, of_more, of_stop, some_came}
use Rattle.ioa_inspect.specs.LogMonitorings.{HasMonitored}
use Rattle.ioa_inspect.specs.LogMonitors.{IsNoText, MonitorsLog}
use Rattle.ioa_inspect.proofs.LogMonitors.{counts_line, monitors_as, no_text_as, text_longer}
use Rattle.ioa_inspect.proofs.log_monitors.monitor_log.Goals as goal

pub loop-turn-init : goal.loop-turn-init
loop-turn-init g c = record {
  within = c.in_ok-lines.ensures.within;
  over = λ e. absurd (false≢true (sym c.in_ok-lines.ensures.going ∙ e));
  passed = refl;
  counted = let z : length (rest c.in_ok-lines.lines) ≡ 0 = ap length c.in_ok-lines.ensures.none in omega (arith, z);
  heard = ([], c.in_ok-monitor.ensures, refl, nothing_taken (g.R.Read.remaining c.args.input.now) c.in_ok-lines.lines c.in_ok-lines.ensures.none);
}

pub returns-then-not-branch-clause-answers : goal.returns-then-not-branch-clause-answers
returns-then-not-branch-clause-answers g c =
    let p : Prog = c.args.program.now in
    let k = c.loop-turn.invariant.heard in
    IfOk-weaker c.finish.result _ _ (λ x said s runs.
    IfSome_then (g.R.Read.remaining c.args.input.now)
    (of_all (g.R.Read.remaining c.args.input.now) _ _ k.0 k.3 (λ bytes. MonitorsLog (of_table p) bytes (option_map ending_of x)) (none_came _ (c.in_ok-advance.ensures.none (ap Ok c.if-not-branch.true)))
    (λ bytes e. said p bytes (subst (λ ls. HasMonitored p ls c.loop-turn.monitor) (sym e) k.1)))
    (λ bytes r. monitors_as p s runs bytes (option_map ending_of x) r)) c.finish.ensures.answers

pub returns-then-not-branch-clause-refused : goal.returns-then-not-branch-clause-refused
returns-then-not-branch-clause-refused g c =
    let p : Prog = c.args.program.now in
    let k = c.loop-turn.invariant.heard in
    IfErr-weaker c.finish.result _ _ (λ x said s runs.
    IfSome_then (g.R.Read.remaining c.args.input.now)
    (of_all (g.R.Read.remaining c.args.input.now) _ _ k.0 k.3 (λ bytes. IsNoText p.types bytes x) (none_came _ (c.in_ok-advance.ensures.none (ap Ok c.if-not-branch.true)))
    (λ bytes e. said p bytes (subst (λ ls. HasMonitored p ls c.loop-turn.monitor) (sym e) k.1)))
    (λ bytes r. no_text_as p s runs bytes x r)) c.finish.ensures.refused

pub returns-in_err-advance-clause-refused : goal.returns-in_err-advance-clause-refused
returns-in_err-advance-clause-refused g c =
    let k = c.loop-turn.invariant.heard in
    let error : LogErr = c.in_err-advance.field-0.0 in
    let same = err_from_is_err_and c.from_residual-in_err-advance.result c.from_residual-in_err-advance.ensures.1 in
    rw (same.1, same.2) (λ s runs.
    IfSome_then (g.R.Read.remaining c.args.input.now)
    (of_stop (g.R.Read.remaining c.args.input.now) (λ e bytes. IsNoText c.args.program.now.types bytes e) error c.in_err-advance.ensures.only (λ bytes. tt) (λ bytes. tt) (λ e.
    let longer = c.in_err-advance.ensures.longer (ap Err e) in
    of_more (g.R.Read.remaining c.args.input.now) _ _ k.0 k.3 (λ bytes. IsNoText c.args.program.now.types bytes LogErr.AfterEnd) (some_came (to_come (g.R.Read.remaining c.loop-turn.input) c.loop-turn.lines) longer.1)
    (text_longer c.args.program.now k.0 c.loop-turn.monitor k.1 (sym c.is_over.ensures ∙ longer.0))))
    (λ bytes r. no_text_as c.args.program.now s runs bytes error r))

pub returns-in_err-advance-clause-devices : goal.returns-in_err-advance-clause-devices
returns-in_err-advance-clause-devices g c =
    let same = err_from_is_err_and c.from_residual-in_err-advance.result c.from_residual-in_err-advance.ensures.1 in
    handed_on g.R.Read.remaining g.R.Device.failure_count c.args.input.now c.loop-turn.input c.advance.new.input c.in_err-advance.field-0.0 same.0 LogErr.Io c.from_residual-in_err-advance.result
    same.1 same.2 c.loop-turn.invariant.passed c.in_err-advance.ensures.devices

pub take_line-requires-clause-going : goal.take_line-requires-clause-going
take_line-requires-clause-going g c = sym c.is_over.ensures ∙ c.in_ok-advance.ensures.going (ap Ok c.if-not-branch.false)

pub take_line-requires-clause-counts : goal.take_line-requires-clause-counts
take_line-requires-clause-counts g c =
    let k = c.loop-turn.invariant.heard in
    counts_line c.args.program.now k.0 c.loop-turn.monitor k.1 (sym c.is_over.ensures ∙ c.in_ok-advance.ensures.going (ap Ok c.if-not-branch.false)) (omega (arith, k.2, c.loop-turn-test.true))

pub returns-in_err-take_line-clause-refused : goal.returns-in_err-take_line-clause-refused
returns-in_err-take_line-clause-refused g c =
    let came = line_came (to_come (g.R.Read.remaining c.loop-turn.input) c.loop-turn.lines) (to_come (g.R.Read.remaining c.advance.new.input) c.advance.new.self) c.advance.new.self.line.items
    (c.in_ok-advance.ensures.line (ap Ok c.if-not-branch.false)) in
    let k = c.loop-turn.invariant.heard in
    let error : LogErr = c.in_err-take_line.field-0.0 in
    let same = err_from_is_err_and c.from_residual-in_err-take_line.result c.from_residual-in_err-take_line.ensures.1 in
    let n : c.loop-turn.turn + 1 ≡ length k.0 + 1 = ap (λ (m : ℕ). m + 1) (sym k.2) in
    rw (same.1, same.2) (λ s runs.
    IfSome_then (g.R.Read.remaining c.args.input.now)
    (of_line (g.R.Read.remaining c.args.input.now) _ _ k.0 k.3 (λ bytes. IsNoText c.args.program.now.types bytes error) _ c.advance.new.self.line.items
    came.0 came.1
    (λ bytes after parted. c.in_err-take_line.ensures.refused c.args.program.now k.0 after bytes k.1 n
    (parted ∙ ap (λ (l : List ℕ). k.0 ++ l ∷ after) (sym c.deref.ensures.value))))
    (λ bytes r. no_text_as c.args.program.now s runs bytes error r))

pub loop-turn-preserved : goal.loop-turn-preserved
loop-turn-preserved g c =
    let came = line_came (to_come (g.R.Read.remaining c.loop-turn.input) c.loop-turn.lines) (to_come (g.R.Read.remaining c.advance.new.input) c.advance.new.self) c.advance.new.self.line.items
    (c.in_ok-advance.ensures.line (ap Ok c.if-not-branch.false)) in
    let p : Prog = c.args.program.now in
    let k = c.loop-turn.invariant.heard in
    record {
      within = c.in_ok-advance.ensures.within;
      over = c.in_ok-advance.ensures.over;
      counted = c.in_ok-advance.ensures.counted (ap Ok c.if-not-branch.false) c.loop-turn.turn c.loop-turn.invariant.counted;
      passed = c.in_ok-advance.ensures.devices.passed (λ e. absurd (cc)) ∙ c.loop-turn.invariant.passed;
      heard = (
        k.0 ++ c.advance.new.self.line.items ∷ [],
        subst (λ (l : List ℕ). HasMonitored p (k.0 ++ l ∷ []) c.take_line.new.self) c.deref.ensures.value (c.in_ok-take_line.ensures.ok p k.0 k.1),
        length-append k.0 (c.advance.new.self.line.items ∷ []) ∙ ap (λ (m : ℕ). m + 1) k.2,
        line_taken (g.R.Read.remaining c.args.input.now) _ _ _ k.0 c.advance.new.self.line.items k.3 came.0 came.1,
      );
    }

pub blamed-requires : goal.blamed-requires
blamed-requires g c = λ e. omega (arith, c.loop-turn.invariant.counted)
