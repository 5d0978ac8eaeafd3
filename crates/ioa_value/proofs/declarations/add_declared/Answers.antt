use Rattle.std.proofs.Common.{◌∷◌, [], map, ap, ◌∙◌}
use Rattle.std.proofs.lemmas.List.{map-append}
use Rattle.ioa_value.specs.Shapes.{declaration}
use Rattle.ioa_value.proofs.declarations.add_declared.Goals as goal

pub returns : goal.returns
returns c = ap (map declaration) c.in_ok-push.ensures.items ∙ map-append declaration c.args.all.now.items (c.args.declared ∷ [])
