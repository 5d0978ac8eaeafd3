use Rattle.std.proofs.Common.{map, length}
use Rattle.ioa_value.specs.Plain.{plain}
use Rattle.ioa_value.proofs.ReadLemmas.{Reaches}
use Rattle.ioa_value.proofs.reading.read_values.Given as goal

abbrev pub invariant-loop-front : goal.invariant-loop-front
invariant-loop-front l = Reaches l.types l.text (map plain l.vals.items) l.rest

abbrev pub decreases-loop-front : goal.decreases-loop-front
decreases-loop-front l = length l.rest
