use Rattle.std.proofs.Common.{◌≡◌, ℕ, ◌*◌, ◌≤◌, drop}
use Rattle.ioa_code.specs.Bound.{turns, product}
use Rattle.ioa_code.specs.Pending.{RepresentAll}
use Rattle.ioa_code.specs.Scan.{Brought, came}
use Rattle.ioa_code.proofs.Totals.{times_256}
use Rattle.ioa_code.proofs.bounds.product_of.Given as goal

abbrev pub invariant-loop-each : goal.invariant-loop-each
invariant-loop-each l = record {
  value : (brought : ℕ → Brought) → RepresentAll l.stacks l.pending brought → l.runs * product (turns l.types (came brought)) (drop l.each-index l.round) ≡ product (turns l.types (came brought)) l.round;
  small : l.runs ≤ times_256 l.each-index;
}
