use Rattle.std.proofs.Common.{arith}
use Rattle.std.specs.Option.{option_map}
use Rattle.ioa_tree.specs.View.{expr_of}
use Rattle.ioa_emit.proofs.Lengths.{guard_small}
use Rattle.ioa_compile.proofs.transition.guard_code.Goals as goal

pub emit_guard-requires-clause-short : goal.emit_guard-requires-clause-short
emit_guard-requires-clause-short c =
    omega (arith, guard_small (option_map expr_of c.args.guard.now), c.requires.size, c.new.ensures)
