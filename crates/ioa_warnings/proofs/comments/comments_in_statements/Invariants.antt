use Rattle.std.proofs.Common.{◌≡◌, ◌+◌, ◌++◌, ◌≤◌, length}
use Rattle.ioa_value.specs.Lists.{lines}
use Rattle.ioa_warnings.specs.Comments as spec
use Rattle.ioa_warnings.proofs.comments.comments_in_statements.Given as goal

-- to the numbers so far come those of the lines that are left
abbrev pub invariant-loop-rest : goal.invariant-loop-rest
invariant-loop-rest l = record {
  so_far : l.numbers.items ++ spec.cut_from (l.number + 1) (lines l.rest) ≡ spec.comments_in_statements l.text;
  within : l.number + length l.rest ≤ length l.text;
}

abbrev pub decreases-loop-rest : goal.decreases-loop-rest
decreases-loop-rest l = length l.rest
