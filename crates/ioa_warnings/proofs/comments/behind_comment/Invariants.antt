use Rattle.std.proofs.Common.{◌≡◌, length}
use Rattle.ioa_warnings.specs.Comments as spec
use Rattle.ioa_warnings.proofs.comments.behind_comment.Given as goal

-- no comment has begun yet
abbrev pub invariant-loop-rest : goal.invariant-loop-rest
invariant-loop-rest l = spec.behind_comment l.rest ≡ spec.behind_comment l.line

abbrev pub decreases-loop-rest : goal.decreases-loop-rest
decreases-loop-rest l = length l.rest
