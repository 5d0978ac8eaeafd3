-- The names of a source's first declarations are legal, where all its names are.
use Rattle.std.proofs.Common.{ℕ, zero, suc, List, [], ◌∷◌, take}
use Rattle.std.specs.List.{flat_map}
use Rattle.std.proofs.lemmas.List.Elements.{All-append, All-nil}
use Rattle.ioa_value.specs.Names.{IsName}
use Rattle.ioa_tree.specs.Names.{LegalNames, names_of_declaration}
use Rattle.ioa_tree.specs.View.{declaration_of, tree_of}
use Rattle.ioa_tree.specs.declared.tree.Declaration.{Declaration}
use Rattle.ioa_tree.proofs.PartNames.{all_left, all_right}

pub legal_front : (ds : List Declaration) (n : ℕ) → LegalNames (tree_of ds) → LegalNames (tree_of (take n ds))
legal_front ds zero legal = All-nil IsName
legal_front [] (suc n) legal = All-nil IsName
legal_front (d ∷ ds) (suc n) legal =
    let own = names_of_declaration (declaration_of d) in
    let rest = flat_map names_of_declaration (tree_of ds) in
    All-append IsName own (flat_map names_of_declaration (tree_of (take n ds))) (all_left IsName own rest legal) (legal_front ds n (all_right IsName own rest legal))
