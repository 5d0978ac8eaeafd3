use Rattle.std.proofs.Common.{◌≡◌, drop}
use Rattle.ioa_clash.specs.Rows.{names_of, number_of}
use Rattle.ioa_clash.proofs.index.first_named.Given as goal

abbrev pub invariant-loop-i : goal.invariant-loop-i
invariant-loop-i g l = number_of l.i (names_of (drop l.i l.rows)) l.name ≡ number_of 0 (names_of l.rows) l.name
