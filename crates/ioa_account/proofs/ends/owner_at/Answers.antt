use Rattle.std.proofs.Common.{◌≡◌, None, slice_get, sym, ap, ◌∙◌}
use Rattle.std.specs.Option.{option_and_then, option_map}
use Rattle.std.proofs.lemmas.Option.{slice_get-map, slice_get_past}
use Rattle.ioa_value.specs.Actions.{act_of}
use Rattle.ioa_value.proofs.ItemLemmas.{at_map}
use Rattle.ioa_tree.specs.Steps.{owner}
use Rattle.ioa_compile.specs.Subjects.{its_components}
use Rattle.ioa_compile.proofs.Subjects.{owner_as}
use Rattle.ioa_account.proofs.ends.owner_at.Goals as goal

pub returns-in-Some : goal.returns-in-Some
returns-in-Some c = λ s runs.
    let found = c.in-Some.ensures.lookup in
    let a = c.in-Some.action.now in
    c.owner.ensures ∙ owner_as c.args.program.now s runs (act_of a)
    ∙ ap (option_and_then (owner (its_components s))) (sym (at_map act_of c.args.actions.now c.args.index a found.3.0 found.1))

pub returns-in-None : goal.returns-in-None
returns-in-None c = λ s runs.
    let past : slice_get c.args.actions.now c.args.index ≡ None = slice_get_past c.args.actions.now c.args.index c.in-None.ensures.lookup.3 in
    ap (option_and_then (owner (its_components s))) (sym (slice_get-map act_of c.args.actions.now c.args.index ∙ ap (option_map act_of) past))
