use Rattle.std.proofs.Common.{◌≡◌, map, take}
use Rattle.ioa_tree.specs.View.{variable_of}
use Rattle.ioa_crash.proofs.copies.copied_variables.Given as goal

abbrev pub invariant-loop-variable : goal.invariant-loop-variable
invariant-loop-variable l = map variable_of l.out.items ≡ map variable_of (take l.variable-index l.variables)
