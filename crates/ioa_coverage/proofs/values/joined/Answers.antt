use Rattle.ioa_compose.proofs.EvaluateLemmas.{operands_taken}
use Rattle.ioa_coverage.proofs.values.joined.Goals as goal

pub of_two-requires : goal.of_two-requires
of_two-requires c = operands_taken c.args.types.now _ _ _ _ c.requires.types c.in-Operator.is c.requires.operands
