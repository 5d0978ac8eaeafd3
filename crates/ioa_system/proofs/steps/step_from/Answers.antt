use Rattle.ioa_value.specs.Actions.{act_of}
use Rattle.ioa_compile.specs.Tables.{tabled}
use Rattle.ioa_system.proofs.Participating.{step_taken}
use Rattle.ioa_system.proofs.steps.step_from.Goals as goal

pub returns-in_err-participation-clause-alone : goal.returns-in_err-participation-clause-alone
returns-in_err-participation-clause-alone c = λ ss h. step_taken (tabled c.args.program.now) (act_of c.args.action.now) ss h
