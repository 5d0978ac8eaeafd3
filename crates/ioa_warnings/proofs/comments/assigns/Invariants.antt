use Rattle.std.proofs.Common.{◌≡◌, length}
use Rattle.ioa_warnings.specs.Comments as spec
use Rattle.ioa_warnings.proofs.comments.assigns.Given as goal

-- `:=` stands in what is left, or nowhere
abbrev pub invariant-loop-rest : goal.invariant-loop-rest
invariant-loop-rest l = spec.assigns l.rest ≡ spec.assigns l.text

abbrev pub decreases-loop-rest : goal.decreases-loop-rest
decreases-loop-rest l = length l.rest
