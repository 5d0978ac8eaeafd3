use Rattle.std.proofs.Common.{◌≡◌, ◌+◌, ◌≤◌, length}
use Rattle.ioa_value.specs.Lists.{lines}
use Rattle.ioa_account.specs.Lines.{line_holding, line_of_action}
use Rattle.ioa_account.proofs.lines.line_of_action.Given as goal

-- the line is the one that holds the action of the index that is left among the lines that are left
abbrev pub invariant-loop-rest : goal.invariant-loop-rest
invariant-loop-rest l = record {
  left : line_of_action l.list l.index ≡ line_holding (l.number + 1) (lines l.rest) l.before;
  within : l.number + length l.rest ≤ length l.list;
}

abbrev pub decreases-loop-rest : goal.decreases-loop-rest
decreases-loop-rest l = length l.rest
