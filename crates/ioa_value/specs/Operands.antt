-- Operands that are lent, in order.
use Rattle.std.specs.Prelude.{List, [], ◌∷◌}
use Rattle.ioa_value.specs.Plain.{Val, plain}
use Rattle.ioa_value.specs.declared.operands.Operands.{Operands}
use Rattle.ioa_value.specs.declared.operands.Operands.TheVariants.{One, Two}

abbrev pub operands_of : Operands → List Val
operands_of (One v) = plain v.now ∷ []
operands_of (Two v w) = plain v.now ∷ plain w.now ∷ []
