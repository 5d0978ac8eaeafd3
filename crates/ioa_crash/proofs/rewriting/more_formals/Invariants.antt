use Rattle.std.proofs.Common.{◌≡◌, ◌++◌, map, drop}
use Rattle.ioa_tree.specs.View.{field_of, variable_of}
use Rattle.ioa_crash.specs.Rewriting as spec
use Rattle.ioa_crash.proofs.rewriting.more_formals.Given as goal

abbrev pub invariant-loop-variable : goal.invariant-loop-variable
invariant-loop-variable l =
    map field_of l.out.items ++ map spec.start_formal (spec.volatile (map variable_of (drop l.variable-index l.variables)))
    ≡ map field_of l.formals ++ map spec.start_formal (spec.volatile (map variable_of l.variables))
