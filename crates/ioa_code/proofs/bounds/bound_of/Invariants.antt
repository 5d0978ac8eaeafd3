use Rattle.std.proofs.Common.{◌≡◌, ℕ, ◌+◌, ◌≤◌, []}
use Rattle.ioa_code.specs.Loops.{bodies}
use Rattle.ioa_code.specs.Parts.{part_for}
use Rattle.ioa_code.specs.Pending.{RepresentAll}
use Rattle.ioa_code.specs.Scan.{Brought, came}
use Rattle.ioa_code.proofs.Totals.{IsSmall}
use Rattle.ioa_code.proofs.Weights.{from}
use Rattle.ioa_code.proofs.bounds.bound_of.Given as goal

abbrev pub invariant-loop-place : goal.invariant-loop-place
invariant-loop-place l = record {
  round : l.round.items ≡ bodies l.code.instrs.items l.place;
  near : 65535 ≤ l.place → l.round.items ≡ [];
  total : (brought : ℕ → Brought) → RepresentAll l.stacks l.pending brought → l.total + from (part_for l.code l.env) (came brought) l.place ≡ from (part_for l.code l.env) (came brought) 0;
  small : IsSmall l.place l.total;
}
