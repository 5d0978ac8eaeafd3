use Rattle.std.proofs.Common.{◌≡◌, ◌≤◌, map, take}
use Rattle.ioa_value.specs.Actions.{act_of}
use Rattle.ioa_compile.specs.Tables.{tabled}
use Rattle.ioa_account.specs.Counts.{known_actions}
use Rattle.ioa_account.proofs.counts.known_actions.Given as goal

-- how many of the actions so far
abbrev pub invariant-loop-action : goal.invariant-loop-action
invariant-loop-action l = record {
  counted : l.count ≡ known_actions (tabled l.program) (take l.action-index (map act_of l.actions));
  within : l.count ≤ l.action-index;
}
