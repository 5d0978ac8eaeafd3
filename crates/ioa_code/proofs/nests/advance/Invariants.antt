use Rattle.std.proofs.Common.{◌≡◌, ◌≤◌, ◌+◌, ◌∷◌, [], take}
use Rattle.ioa_code.specs.Loops.{kept}
use Rattle.ioa_code.proofs.nests.advance.Given as goal

abbrev pub invariant-loop-each : goal.invariant-loop-each
invariant-loop-each l = record {
  kept : l.next.items ≡ kept l.instrs (l.place + 1) (l.place ∷ take l.each-index l.round);
  near : 65535 ≤ l.place + 1 → l.next.items ≡ [];
}
