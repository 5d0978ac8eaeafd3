use Rattle.std.proofs.Common.{sym, ◌∙◌}
use Rattle.ioa_tree.specs.View.{name_of}
use Rattle.std.proofs.lemmas.Bool.{and_from, not_from_false}
use Rattle.ioa_rules.proofs.TupleLemmas.{not_selected}
use Rattle.ioa_rules.proofs.tuples.selected_type.Goals as goal

pub returns-in-None : goal.returns-in-None
returns-in-None c =
    let unknown = not_selected c.args.types.now (name_of c.args.field.now) c.args.tuple.0 c.in-None.ensures in
    (and_from _ _ (sym c.has_fields.ensures ∙ c.if-has_fields.true) (not_from_false _ unknown), sym c.in-None.ensures)
