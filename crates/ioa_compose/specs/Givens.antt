-- What an expression gives, lent or its own, and what it answers.
use Rattle.std.specs.Prelude.{Result, Ok, Err}
use Rattle.ioa_arithmetic.specs.declared.arithmetic.Fault.{Fault}
use Rattle.ioa_value.specs.Plain.{Val, plain}
use Rattle.ioa_value.specs.Operators.{Answer, gives, faults}
use Rattle.ioa_compose.specs.declared.given.Given.{Given}
use Rattle.ioa_compose.specs.declared.given.Given.TheVariants.{Lent, Own}

abbrev pub given : Given → Val
given (Lent v) = plain v.now
given (Own v) = plain v

abbrev pub answer_in : Result Given Fault → Answer
answer_in (Ok g) = gives (given g)
answer_in (Err f) = faults f
