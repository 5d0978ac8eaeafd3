use Rattle.std.proofs.Common.{◌∙◌, rules, tests}
use Rattle.std.specs.Str.{bytes_eq}
use Rattle.std.proofs.lemmas.Iterator.{YieldsList-from_slice}
use Rattle.std.proofs.lemmas.Iterator.Search.{position_from_yields_List}
use Rattle.ioa_tree.specs.View.{name_of, field_of}
use Rattle.ioa_value.proofs.PlaceLemmas.{position-place}
use Rattle.ioa_emit.proofs.name_places.field_place.Goals as goal

pub returns : goal.returns
returns c =
    let xs = c.args.fields.now in
    position_from_yields_List (λ f. bytes_eq (name_of f.name) (name_of c.args.name.now)) _ _ c.position.result c.position.ensures.ran (YieldsList-from_slice xs cc) (λ x b q k. search (rules, tests))
    ∙ position-place field_of (λ f. f.name) (name_of c.args.name.now) xs
