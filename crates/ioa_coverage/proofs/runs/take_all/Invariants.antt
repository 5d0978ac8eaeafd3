use Rattle.ioa_value.specs.Actions.{act_of}
use Rattle.ioa_system.specs.Systems.{values_of}
use Rattle.ioa_coverage.specs.Effects.{taken_at}
use Rattle.ioa_coverage.proofs.Walked.{HaveTaken}
use Rattle.ioa_coverage.proofs.runs.take_all.Given as goal

-- the first effects have counted
abbrev pub invariant-loop-index : goal.invariant-loop-index
invariant-loop-index l = HaveTaken (λ e. taken_at e (act_of l.action) (values_of l.states)) l.initial.effects l.index l.effects
