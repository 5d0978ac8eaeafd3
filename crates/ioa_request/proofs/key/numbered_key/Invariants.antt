use Rattle.std.proofs.Common.{◌≡◌, ◌*◌, drop, length}
use Rattle.hex.specs.Hex.{IsBytes, encode_lower}
use Rattle.ioa_request.specs.Keys.{numbered_digits}
use Rattle.ioa_request.proofs.Keys.{written}
use Rattle.ioa_request.proofs.key.numbered_key.Given as goal

-- the digits that are left stand before those of the bytes from i on
abbrev pub invariant-loop-i : goal.invariant-loop-i
invariant-loop-i l = (written (2 * l.i) l.rest (encode_lower (drop l.i l.key)) ≡ numbered_digits l.number) × (length l.key ≡ 32) × IsBytes l.key
