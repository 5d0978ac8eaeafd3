use Rattle.std.proofs.Common.{arith}
use Rattle.std.proofs.lemmas.List.{nil_from_length}
use Rattle.ioa_value.specs.Lists.{lines}
use Rattle.ioa_value.proofs.ListLemmas.{empty, not_empty}
use Rattle.ioa_account.proofs.LineNumbers.{behind_all, behind_more}
use Rattle.ioa_account.proofs.lines.behind.Goals as goal

pub returns-then-is_empty : goal.returns-then-is_empty
returns-then-is_empty c =
    let rest = c.loop.rest.now in
    behind_all (lines c.args.text.now) rest c.loop.counter c.args.count (omega arith) (nil_from_length rest (empty rest c.is_empty.result c.if-is_empty.true c.is_empty.ensures))
    c.loop.invariant

pub loop-preserved : goal.loop-preserved
loop-preserved c =
    let rest = c.loop.rest.now in
    behind_more (lines c.args.text.now) rest c.first_line.result.1.now c.loop.counter (not_empty rest c.is_empty.result c.if-is_empty.false c.is_empty.ensures) c.first_line.ensures.after
    c.loop.invariant
