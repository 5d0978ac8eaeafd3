use Rattle.std.proofs.Common.{◌≡◌, map}
use Rattle.ioa_value.specs.Actions.{act_of}
use Rattle.ioa_account.proofs.remarks.actions_in.Given as goal

abbrev pub invariant-loop-entry : goal.invariant-loop-entry
invariant-loop-entry l = map act_of l.actions.items ≡ map (λ e. act_of e.action) l.yielded
