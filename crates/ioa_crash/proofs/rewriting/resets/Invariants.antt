use Rattle.std.proofs.Common.{◌≡◌, map, drop}
use Rattle.ioa_tree.specs.View.{variable_of, stmt_of}
use Rattle.ioa_crash.specs.Rewriting as spec
use Rattle.ioa_crash.proofs.RewritingLemmas.{in_front}
use Rattle.ioa_crash.proofs.rewriting.resets.Given as goal

abbrev pub invariant-loop-variable : goal.invariant-loop-variable
invariant-loop-variable l =
    in_front (map stmt_of l.out.items) (spec.resets (spec.volatile (map variable_of (drop l.variable-index l.variables))))
    ≡ spec.resets (spec.volatile (map variable_of l.variables))
