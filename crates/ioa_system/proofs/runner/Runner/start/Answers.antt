use Rattle.std.proofs.Common.{ap}
use Rattle.ioa_system.specs.declared.outcomes.End.{End}
use Rattle.ioa_system.specs.Systems.{Running}
use Rattle.ioa_system.proofs.Tracing.{over_begin}
use Rattle.ioa_system.proofs.runner.Runner.start.Goals as goal

pub returns : goal.returns
returns c = over_begin c.args.program.now _ (ap (λ (s : Running). record { program = s.program; states = s.states; end = End.Done 0 }) c.in_ok-start.ensures)
