use Rattle.std.proofs.Common.{arith}
use Rattle.ioa_lex.proofs.Values.{too_large}
use Rattle.ioa_lex.proofs.scan.value_of.Goals as goal

pub returns-then-next-from : goal.returns-then-next-from
returns-then-next-from c =
    too_large c.args.digits.now c.loop-digit.digit-index c.loop-digit.value 9223372036854775807 c.loop-digit-test.true c.loop-digit.invariant.same (omega arith)
