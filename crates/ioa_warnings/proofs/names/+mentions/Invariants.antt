use Rattle.std.proofs.Common.{◌≡◌, drop}
use Rattle.ioa_tree.specs.View.{exprs_of}
use Rattle.ioa_warnings.specs.Mentions as spec
use Rattle.ioa_warnings.proofs.names.+mentions.Given as goal

-- it is in the expressions that are left, or in none
abbrev pub invariant-any_mentions-loop-expression : goal.invariant-any_mentions-loop-expression
invariant-any_mentions-loop-expression l =
    spec.any_mentions l.name (exprs_of (drop l.expression-index l.expressions)) ≡ spec.any_mentions l.name (exprs_of l.expressions)
