use Rattle.std.proofs.Common.{◌≡◌, ◌<◌, ◌++◌, ℕ, List, length, take, refl, sym, ap, ◌∙◌, append-nil, arith}
use Rattle.std.proofs.KnownBytes.{Consumes-trans, Consumes-whole}
use Rattle.std.proofs.lemmas.Result.{err_from_is_err_and}
use Rattle.ioa_device.specs.Devices.{change}
use Rattle.ioa_device.proofs.Devices.{passes}
use Rattle.ioa_device.proofs.Pieces.{failed_since, known_none, known_pushed}
use Rattle.ioa_device.proofs.streams.read_all.Goals as goal

pub loop-text-init : goal.loop-text-init
loop-text-init g c = record { passed = refl; read = known_none (g.R.Read.remaining c.args.input.now) c.new-text.result.items c.new-text.ensures.items }

pub returns-in-Ok-eq0-clause-ok : goal.returns-in-Ok-eq0-clause-ok
returns-in-Ok-eq0-clause-ok g c =
    let b = c.in-Ok-eq0.ensures.bytes in
    let buf : List ℕ = c.pull.new.piece in
    let got : List ℕ = take c.in-Ok-eq0.field-0 buf in
    let text : List ℕ = c.loop-text.text.items in
    let l : 0 < length buf = omega (arith, c.in_ok-room.ensures.len, c.as_mut_slice-piece.ensures.len) in
    let none : text ++ got ≡ text = ap (λ n. text ++ take n buf) c.in-Ok-eq0.field-0-test ∙ append-nil text in
    Consumes-whole (g.R.Read.remaining c.args.input.now) (g.R.Read.remaining c.pull.new.self) (text ++ got) (λ bytes. text ≡ bytes)
    (Consumes-trans (g.R.Read.remaining c.args.input.now) (g.R.Read.remaining c.loop-text.input) (g.R.Read.remaining c.pull.new.self) text got c.loop-text.invariant.read b.0)
    (b.1 c.in-Ok-eq0.field-0-test l) (sym none)

pub returns-in-Ok-eq0-clause-devices : goal.returns-in-Ok-eq0-clause-devices
returns-in-Ok-eq0-clause-devices g c =
    passes _ (change g.R.Read.remaining g.R.Device.failure_count c.args.input.now c.pull.new.self) (λ e. cc) (c.in-Ok-eq0.ensures.passed ∙ c.loop-text.invariant.passed)

pub returns-in_err-extend_from_slice-in-Ok-clause-devices : goal.returns-in_err-extend_from_slice-in-Ok-clause-devices
returns-in_err-extend_from_slice-in-Ok-clause-devices g c =
    let short = err_from_is_err_and c.from_residual-in_err-extend_from_slice-in-Ok.result c.from_residual-in_err-extend_from_slice-in-Ok.ensures.1 in
    passes _ (change g.R.Read.remaining g.R.Device.failure_count c.args.input.now c.pull.new.self) (λ e. cc (short.1, short.2)) (c.in-Ok.ensures.passed ∙ c.loop-text.invariant.passed)

pub returns-in-Err-clause-devices : goal.returns-in-Err-clause-devices
returns-in-Err-clause-devices g c = record {
  io = λ e. failed_since _ _ _ c.loop-text.invariant.passed c.in-Err.ensures.failed;
  passed = λ other. absurd (other refl);
  once = omega (arith, c.in-Err.ensures.once, c.loop-text.invariant.passed);
}

pub loop-text-preserved : goal.loop-text-preserved
loop-text-preserved g c = record {
  passed = c.in-Ok.ensures.passed ∙ c.loop-text.invariant.passed;
  read = known_pushed (g.R.Read.remaining c.args.input.now) (g.R.Read.remaining c.loop-text.input) (g.R.Read.remaining c.pull.new.self)
      c.loop-text.text.items (take c.in-Ok.count c.pull.new.piece) _ c.in_ok-extend_from_slice-in-Ok.ensures.items c.loop-text.invariant.read c.in-Ok.ensures.bytes.0;
}
