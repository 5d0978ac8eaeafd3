use Rattle.std.proofs.Common.{◌∙◌, length, map, sym}
use Rattle.ioa_value.specs.Actions.{act_of}
use Rattle.ioa_serving.specs.Links.{are_linked}
use Rattle.ioa_serving.proofs.Grouping.{linked_joined}
use Rattle.ioa_serving.proofs.groups.join_if_linked.Goals as goal

pub returns-then-are_linked-clause-linked : goal.returns-then-are_linked-clause-linked
returns-then-are_linked-clause-linked c =
    rw c.join.ensures
    (linked_joined (are_linked c.args.program.now (map act_of c.args.script.now)) (length c.args.groups.now) c.args.groups.now c.args.worker c.args.other c.requires.worker c.requires.other (sym c.are_linked.ensures ∙ c.if-are_linked.true) c.requires.linked)
