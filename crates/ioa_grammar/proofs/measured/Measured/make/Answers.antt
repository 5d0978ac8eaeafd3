use Rattle.std.proofs.Common.{arith, ap}
use Rattle.ioa_tree.specs.Depth.{depth_of}
use Rattle.ioa_tree.proofs.ExpressionRows.{expr_make}
use Rattle.ioa_grammar.proofs.measured.Measured.make.Goals as goal

pub invariant_of-result : goal.invariant_of-result
invariant_of-result c = record { exact = omega (arith, ap depth_of (expr_make c.args.name c.args.fields), c.requires.exact) }

pub returns : goal.returns
returns c = expr_make c.args.name c.args.fields
