use Rattle.std.proofs.Common.{◌≡◌, ◌+◌, ◌-◌, ◌++◌, ◌∷◌, [], ℕ, List, Err, Ok, length, refl, sym, ap, subst, ◌∙◌, arith, length-append}
use Rattle.std.proofs.lemmas.Bool.{false≢true}
use Rattle.std.proofs.lemmas.Option.{IfSome_then}
use Rattle.std.proofs.lemmas.Result.{err_from_is_err_and}
use Rattle.ioa_value.specs.Lists.{IsLine}
use Rattle.ioa_device.specs.declared.failure.LogErr.{LogErr}
use Rattle.ioa_device.specs.LineReading.{rest, to_come}
use Rattle.ioa_device.proofs.Devices.{handed_on}
use Rattle.ioa_device.proofs.LineReading.{line_came, line_taken, none_came, nothing_taken}
use Rattle.ioa_log.specs.Readings.{HasRead}
use Rattle.ioa_log.proofs.Lines.{counts_line, list_over, list_refused, list_stopped}
use Rattle.ioa_replay.proofs.ListReplays.{list_replayed_as}
use Rattle.ioa_replay.proofs.replays.perform_list.Goals as goal

pub loop-turn-init : goal.loop-turn-init
loop-turn-init g c = record {
  within = c.in_ok-lines.ensures.within;
  over = λ e. absurd (false≢true (sym c.in_ok-lines.ensures.going ∙ e));
  passed = refl;
  counted = let z : length (rest c.in_ok-lines.lines) ≡ 0 = ap length c.in_ok-lines.ensures.none in omega (arith, z);
  read = ([], c.in_ok-reading.ensures, refl, nothing_taken (g.R.Read.remaining c.args.input.now) c.in_ok-lines.lines c.in_ok-lines.ensures.none);
}

pub returns-then-not-branch-clause-ok : goal.returns-then-not-branch-clause-ok
returns-then-not-branch-clause-ok g c = λ s runs.
    let k = c.loop-turn.invariant.read in
    IfSome_then (g.R.Read.remaining c.args.input.now)
    (list_over c.args.program.now k.0 c.loop-turn.reading k.1 (g.R.Read.remaining c.args.input.now) _ k.3 _ c.in_ok-replayed.replayed
    (none_came _ (c.in_ok-advance.ensures.none (ap Ok c.if-not-branch.true))) c.in_ok-replayed.ensures)
    (λ bytes r. list_replayed_as c.args.program.now s runs bytes c.in_ok-replayed.replayed r)

pub returns-in_err-advance-clause-devices : goal.returns-in_err-advance-clause-devices
returns-in_err-advance-clause-devices g c =
    let same = err_from_is_err_and c.from_residual-in_err-advance.result c.from_residual-in_err-advance.ensures.1 in
    handed_on g.R.Read.remaining g.R.Device.failure_count c.args.input.now c.loop-turn.input c.advance.new.input c.in_err-advance.field-0.0 same.0 LogErr.Io c.from_residual-in_err-advance.result
    same.1 same.2 c.loop-turn.invariant.passed c.in_err-advance.ensures.devices

pub returns-in_err-advance-clause-only : goal.returns-in_err-advance-clause-only
returns-in_err-advance-clause-only g c =
    let same = err_from_is_err_and c.from_residual-in_err-advance.result c.from_residual-in_err-advance.ensures.1 in
    rw (same.1, same.2) (list_stopped c.in_err-advance.field-0.0 c.in_err-advance.ensures.only (λ e. false≢true (c.in_err-advance.ensures.longer (ap Err e)).0))

pub take_line-requires : goal.take_line-requires
take_line-requires g c =
    let k = c.loop-turn.invariant.read in
    counts_line c.args.program.now k.0 c.loop-turn.reading k.1 (omega (arith, k.2, c.loop-turn-test.true))

pub returns-in_err-take_line-clause-bad : goal.returns-in_err-take_line-clause-bad
returns-in_err-take_line-clause-bad g c = λ n e.
    let came = line_came (to_come (g.R.Read.remaining c.loop-turn.input) c.loop-turn.lines) (to_come (g.R.Read.remaining c.advance.new.input) c.advance.new.self) c.advance.new.self.line.items
    (c.in_ok-advance.ensures.line (ap Ok c.if-not-branch.false)) in
    let k = c.loop-turn.invariant.read in
    let error : LogErr = c.in_err-take_line.field-0.0 in
    let same = err_from_is_err_and c.from_residual-in_err-take_line.result c.from_residual-in_err-take_line.ensures.1 in
    let is : error ≡ LogErr.BadEntry n = cc (same.1, same.2, e) in
    let b = c.in_err-take_line.ensures.bad n (ap Err is) in
    list_refused c.args.program.now k.0 c.loop-turn.reading k.1 (g.R.Read.remaining c.args.input.now) _ k.3 _ _ c.advance.new.self.line.items n
    came.0 came.1
    (λ l. b.1 (subst (λ ts. IsLine ts c.deref.result.now) (sym k.1.types) (subst (IsLine c.args.program.now.types) (sym c.deref.ensures.value) l)))
    (b.0 ∙ ap (λ (m : ℕ). m + 1) (sym k.2))

pub loop-turn-preserved : goal.loop-turn-preserved
loop-turn-preserved g c =
    let came = line_came (to_come (g.R.Read.remaining c.loop-turn.input) c.loop-turn.lines) (to_come (g.R.Read.remaining c.advance.new.input) c.advance.new.self) c.advance.new.self.line.items
    (c.in_ok-advance.ensures.line (ap Ok c.if-not-branch.false)) in
    let k = c.loop-turn.invariant.read in
    record {
      within = c.in_ok-advance.ensures.within;
      over = c.in_ok-advance.ensures.over;
      counted = c.in_ok-advance.ensures.counted (ap Ok c.if-not-branch.false) c.loop-turn.turn c.loop-turn.invariant.counted;
      passed = c.in_ok-advance.ensures.devices.passed (λ e. absurd (cc)) ∙ c.loop-turn.invariant.passed;
      read = (
        k.0 ++ c.advance.new.self.line.items ∷ [],
        subst (λ (l : List ℕ). HasRead c.args.program.now (k.0 ++ l ∷ []) c.take_line.new.self) c.deref.ensures.value (c.in_ok-take_line.ensures.ok c.args.program.now k.0 k.1),
        length-append k.0 (c.advance.new.self.line.items ∷ []) ∙ ap (λ (m : ℕ). m + 1) k.2,
        line_taken (g.R.Read.remaining c.args.input.now) _ _ _ k.0 c.advance.new.self.line.items k.3 came.0 came.1,
      );
    }

pub blamed-requires : goal.blamed-requires
blamed-requires g c = λ e. omega (arith, c.loop-turn.invariant.counted)
