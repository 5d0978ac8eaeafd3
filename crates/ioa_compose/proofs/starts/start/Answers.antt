use Rattle.std.proofs.Common.{map, sym, ap, ◌∙◌}
use Rattle.ioa_value.specs.Plain.{plain}
use Rattle.ioa_tree.specs.View.{variable_of}
use Rattle.ioa_tree.specs.Instances.{start_value, formal_values}
use Rattle.ioa_compose.specs.Bindings.{plain_in, values_in}
use Rattle.ioa_crash.proofs.RewrittenNames.{values_length}
use Rattle.ioa_compose.proofs.StartLemmas.{started-long}
use Rattle.ioa_compose.proofs.starts.start.Goals as goal

pub member-requires-clause-long : goal.member-requires-clause-long
member-requires-clause-long c =
    let n = plain_in c.args.types.now c.args.binding in
    let vs = c.args.binding.automaton.now.variables.items in
    started-long vs c.in-Ok.starts.items
    (values_length (start_value n.types (formal_values n)) (map variable_of vs) (map plain c.in-Ok.starts.items) (sym c.in_ok-fault.ensures ∙ ap values_in c.in-Ok.is))
