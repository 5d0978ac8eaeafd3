use Rattle.std.proofs.Common.{◌≡◌, map}
use Rattle.ioa_value.specs.Actions.{act_of}
use Rattle.ioa_compile.specs.Tables.{tabled}
use Rattle.ioa_account.specs.Remarks.{known_among}
use Rattle.ioa_account.proofs.remarks.those_known.Given as goal

-- those among the actions so far
abbrev pub invariant-loop-action : goal.invariant-loop-action
invariant-loop-action l = map act_of l.known.items ≡ known_among (tabled l.program) (map act_of l.yielded)
