-- What an evaluation answers, as a value or a fault.
use Rattle.std.proofs.Common.{◌≡◌, Result, Ok, Err, refl}
use Rattle.ioa_arithmetic.specs.declared.arithmetic.Fault.{Fault}
use Rattle.ioa_value.specs.Operators.{answer_of}
use Rattle.ioa_value.specs.declared.value.Value.{Value}
use Rattle.ioa_tree.specs.Instances.{settled}
use Rattle.ioa_compose.specs.Bindings.{value_in}

pub settled-value : (r : Result Value Fault) → value_in r ≡ settled (answer_of r)
settled-value (Ok v) = refl
settled-value (Err f) = refl
