-- A read that fails takes nothing, and the buffer keeps its length.
use Rattle.std.proofs.Common.{◌≡◌, length}
use Rattle.std.specs.Io.KnownBytes.{Keeps}
use Rattle.ioac_program.proofs.files.first_byte.Given as goal

abbrev pub invariant-loop : goal.invariant-loop
invariant-loop g l = (length l.byte ≡ 1) × Keeps (g.R.Read.remaining l.initial.reader) (g.R.Read.remaining l.reader)
