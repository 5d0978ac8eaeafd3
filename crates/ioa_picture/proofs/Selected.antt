-- What is drawn where nothing is left out.
use Rattle.std.proofs.Common.{◌≡◌, ℕ, ◌+◌, List, [], ◌∷◌, ◌++◌, refl, ap, ap₂, ◌∙◌, length}
use Rattle.std.specs.List.{flat_map}
use Rattle.ioa_value.specs.Actions.{Act, Name}
use Rattle.ioa_value.specs.Table.{Table}
use Rattle.ioa_tree.specs.Components.{Component}
use Rattle.ioa_system.specs.Logs.{Logged}
use Rattle.ioa_picture.specs.Charts.{DrawsEach, drawn_lines, end_lines, entry_lines, front}
use Rattle.ioa_picture.specs.Lines.{numbered}
use Rattle.ioa_picture.specs.Selections.{whole}

module _ {S : Type 0} (types : Table) (ps : List (Component S)) where
  each_drawn : (n : ℕ) (es : List (ℕ × Act)) → numbered (drawn_lines whole types ps) n es ≡ flat_map (entry_lines types ps) es
  each_drawn n [] = refl
  each_drawn n (e ∷ es) = ap (λ rest. entry_lines types ps e ++ rest) (each_drawn (n + 1) es)

pub draws_each : {S : Type 0} (ps : List (Component S)) → DrawsEach ps
draws_each ps types names log = ap (λ lines. front names ++ (lines ++ end_lines log.ending)) (each_drawn types ps 0 log.entries)
