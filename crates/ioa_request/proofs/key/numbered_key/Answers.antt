use Rattle.std.proofs.Common.{rules, arith, ◌≡◌, ◌*◌, refl, subst, ◌∙◌, drop}
use Rattle.std.proofs.lemmas.List.{length-set}
use Rattle.hex.specs.Hex.{encode_lower}
use Rattle.ioa_request.specs.Keys.{numbered_digits}
use Rattle.ioa_request.proofs.Keys.{digits_written, key_spelled, pair_written, still_bytes, written, zeros_are_bytes}
use Rattle.ioa_request.proofs.key.numbered_key.Goals as goal

pub loop-i-init : goal.loop-i-init
loop-i-init c = (digits_written c.args.number (search rules), refl, zeros_are_bytes 32)

pub loop-i-preserved : goal.loop-i-preserved
loop-i-preserved c = (
  pair_written c.loop-i.i c.loop-i.rest c.loop-i.key (numbered_digits c.args.number) c.loop-i-test.true (omega (arith, c.loop-i.invariant.1)) c.loop-i.invariant.0,
  length-set c.loop-i.key _ _ ∙ c.loop-i.invariant.1,
  still_bytes c.loop-i.key _ _ (omega arith) c.loop-i.invariant.2,
)

pub returns : goal.returns
returns c =
    let none : c.loop-i.i ≡ 0 = omega arith in
    let spelt : encode_lower c.loop-i.key ≡ numbered_digits c.args.number =
    subst (λ i. written (2 * i) c.loop-i.rest (encode_lower (drop i c.loop-i.key)) ≡ numbered_digits c.args.number) none c.loop-i.invariant.0 in
    key_spelled c.args.number c.loop-i.key c.loop-i.invariant.1 c.loop-i.invariant.2 spelt
