use Rattle.std.proofs.lemmas.List.{nil_from_length}
use Rattle.ioa_value.specs.Lists.{lines}
use Rattle.ioa_value.proofs.ListLemmas.{empty, not_empty}
use Rattle.ioa_account.proofs.LineNumbers.{line_left, none_left}
use Rattle.ioa_account.proofs.lines.line_behind.Goals as goal

pub returns-then-is_empty : goal.returns-then-is_empty
returns-then-is_empty c =
    let rest = c.behind-rest.result.now in
    none_left (lines c.args.text.now) rest c.args.before (nil_from_length rest (empty rest c.is_empty.result c.if-is_empty.true c.is_empty.ensures)) c.behind-rest.ensures

pub returns : goal.returns
returns c =
    let rest = c.behind-rest.result.now in
    line_left (lines c.args.text.now) rest c.first_line.result.0.now c.args.before (not_empty rest c.is_empty.result c.if-is_empty.false c.is_empty.ensures) c.first_line.ensures.line
    c.behind-rest.ensures
