use Rattle.std.proofs.Common.{arith}
use Rattle.ioa_tree.specs.View.{stmts_of}
use Rattle.ioa_emit.proofs.Lengths.{stmts_small}
use Rattle.ioa_compile.proofs.transition.effect_code.Goals as goal

pub emit_statements-requires-clause-short : goal.emit_statements-requires-clause-short
emit_statements-requires-clause-short c =
    omega (arith, stmts_small (stmts_of c.args.statements.now), c.requires.size, c.new.ensures)
