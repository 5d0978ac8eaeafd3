use Rattle.std.proofs.Common.{◌∙◌, rules, tests}
use Rattle.std.proofs.lemmas.Iterator.{YieldsList-from_slice}
use Rattle.std.proofs.lemmas.Iterator.Search.{position_from_yields_List}
use Rattle.ioa_tree.specs.View.{name_of, position_of}
use Rattle.ioa_emit.proofs.ParameterPlaces.{is_called, position-parameter}
use Rattle.ioa_emit.proofs.name_places.parameter_place.Goals as goal

pub returns : goal.returns
returns c =
    let xs = c.args.positions.now in
    let x = name_of c.args.name.now in
    position_from_yields_List (λ p. is_called x (position_of p)) _ _ c.position.result c.position.ensures.ran (YieldsList-from_slice xs cc) (λ y b q k. search (rules, tests))
    ∙ position-parameter x xs
