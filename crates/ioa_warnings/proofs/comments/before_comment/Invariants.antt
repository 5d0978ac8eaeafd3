use Rattle.std.proofs.Common.{◌≡◌, ◌++◌, take, drop}
use Rattle.std.specs.Option.{option_map}
use Rattle.ioa_warnings.specs.Comments as spec
use Rattle.ioa_warnings.proofs.comments.before_comment.Given as goal

-- no comment has begun yet
abbrev pub invariant-loop-at : goal.invariant-loop-at
invariant-loop-at l = option_map (λ front. take l.at l.line ++ front) (spec.before_comment (drop l.at l.line)) ≡ spec.before_comment l.line
