use Rattle.ioa_arithmetic.proofs.DivisionLemmas.{parts_sum, rest_below}
use Rattle.ioa_arithmetic.proofs.laws.quotient_and_remainder.Goals as goal

pub returns : goal.returns
returns c = record { sum = parts_sum; rest = rest_below }
