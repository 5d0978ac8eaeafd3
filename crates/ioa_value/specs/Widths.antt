-- How many words a value of a type takes at most.
use Rattle.std.specs.Prelude.{ℕ, ◌+◌, ◌*◌, List, [], ◌∷◌, ◌++◌, map, get_or}
use Rattle.std.specs.List.{sum}
use Rattle.ioa_value.specs.Forms.{Shape, truths, numbers, names, fields, sequence, Declaration}

-- the width at a place, or 0 past the end
abbrev pub width_at : List ℕ → ℕ → ℕ
width_at ws ty = get_or ws ty 0

-- how many words a value of the shape takes, by the widths of earlier types: a sequence takes its length and all its room
abbrev pub shape_width : List ℕ → Shape → ℕ
shape_width ws truths = 1
shape_width ws numbers = 1
shape_width ws (names ns) = 1
shape_width ws (fields fs) = sum (map (λ f. width_at ws f.ty) fs)
shape_width ws (sequence most of) = 1 + most * width_at ws of

-- the widths, and those of further types behind them
abbrev pub widths_from : List ℕ → List Declaration → List ℕ
widths_from ws [] = ws
widths_from ws (d ∷ ds) = widths_from (ws ++ shape_width ws d.shape ∷ []) ds

-- the types' widths in order, each by those before it
abbrev pub widths : List Declaration → List ℕ
widths types = widths_from [] types
