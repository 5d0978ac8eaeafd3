use Rattle.std.proofs.Common.{ap}
use Rattle.std.specs.Option.{option_map}
use Rattle.std.proofs.lemmas.Result.{on_ok_weaker}
use Rattle.ioa_value.specs.Actions.{act_of}
use Rattle.ioa_system.specs.Outcomes.{ending_of}
use Rattle.ioa_monitor.proofs.Watching.{watched_still}
use Rattle.ioa_monitor.proofs.watch.Watch.follow.Goals as goal

pub returns-in-Some : goal.returns-in-Some
returns-in-Some c = λ p acts h. watched_still p acts c.args.self.now h (act_of c.args.action.now) _ (ap (option_map ending_of) c.in-Some.is)

pub returns-in-None : goal.returns-in-None
returns-in-None c = on_ok_weaker c.perform.result (λ k p acts h. k p acts h c.in-None.is) c.perform.ensures
