use Rattle.std.proofs.Common.{sym, ap, ◌∙◌}
use Rattle.std.proofs.lemmas.List.{drop_all}
use Rattle.std.specs.Prelude.{option_map}
use Rattle.ioa_tree.specs.View.{tree_of, assembly_of}
use Rattle.ioa_tree.specs.Compositions.{compositions}
use Rattle.ioa_compose.proofs.PickLemmas.{last_or, last-first}
use Rattle.ioac.proofs.remarks.sources.last_composition.Goals as goal

pub returns : goal.returns
returns c =
    let done = drop_all c.loop-declaration.declaration-index c.args.declarations.now c.loop-declaration-test.false in
    sym (ap (λ ds. last_or (option_map (λ a. assembly_of a.now) c.loop-declaration.last) (compositions (tree_of ds))) done)
    ∙ c.loop-declaration.invariant ∙ last-first (compositions (tree_of c.args.declarations.now))
