use Rattle.std.proofs.Common.{◌∙◌, length, sym, ap}
use Rattle.std.proofs.lemmas.List.{length-map}
use Rattle.ioa_compile.specs.Shown.{member_code}
use Rattle.ioa_run.proofs.Scheduling.{none_planned}
use Rattle.ioa_run.proofs.schedule.Core.start.Goals as goal

pub returns : goal.returns
returns c =
    none_planned c.args.program.now c.in_ok-board.board (length c.members.result.now) c.in_ok-plans.plans.items c.in_ok-board.ensures c.in_ok-plans.ensures
    (sym (length-map c.members.result.now member_code) ∙ ap length c.members.ensures.value)
