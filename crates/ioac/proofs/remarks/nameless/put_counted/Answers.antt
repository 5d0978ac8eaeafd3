use Rattle.std.proofs.Common.{map, string_bytes, subst}
use Rattle.ioa_value.specs.Actions.{act_of}
use Rattle.ioa_account.specs.Objects.{TellsObject}
use Rattle.ioa_account.proofs.Remarking.{on_ok}
use Rattle.ioac.proofs.remarks.nameless.put_counted.Goals as goal

pub returns : goal.returns
returns c =
    on_ok c.put_object_monitored.result
    (λ tells. subst (λ b. TellsObject c.args.program.now c.args.input.now (map act_of c.args.actions.now) b (string_bytes c.put_object_monitored.new.text)) c.in_ok-put_monitor_counts.ensures tells)
    c.put_object_monitored.ensures
