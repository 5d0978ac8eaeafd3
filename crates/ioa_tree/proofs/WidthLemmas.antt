-- Widths of types in a row.
use Rattle.std.proofs.Common.{◌≡◌, ℕ, Bool, true, List, [], ◌∷◌, ◌++◌, refl, sym, ap, ◌∙◌}
use Rattle.std.specs.List.{list_all}
use Rattle.std.proofs.lemmas.Bool.{and_parts}
use Rattle.std.proofs.lemmas.List.Folds.{list_all-append}
use Rattle.ioa_value.specs.Table.{Table, Declaration}
use Rattle.ioa_value.specs.Widths.{shape_width, widths_from, widths}

pub widths-append : (ws : List ℕ) (xs ys : Table) → widths_from ws (xs ++ ys) ≡ widths_from (widths_from ws xs) ys
widths-append ws [] ys = refl
widths-append ws (d ∷ xs) ys = widths-append (ws ++ shape_width ws d.shape ∷ []) xs ys

narrow_first : (p : ℕ → Bool) (ws : List ℕ) (types : Table) → list_all p (widths_from ws types) ≡ true → list_all p ws ≡ true
narrow_first p ws [] h = h
narrow_first p ws (d ∷ ds) h =
    (and_parts (list_all p ws) (list_all p (shape_width ws d.shape ∷ []))
    (sym (list_all-append p ws (shape_width ws d.shape ∷ [])) ∙ narrow_first p (ws ++ shape_width ws d.shape ∷ []) ds h)).0

-- what all widths pass, that of a type in the middle does
pub narrow_there : (p : ℕ → Bool) (types : Table) (d : Declaration) (more : Table) → list_all p (widths ((types ++ d ∷ []) ++ more)) ≡ true
    → p (shape_width (widths types) d.shape) ≡ true
narrow_there p types d more h =
    let all : list_all p (widths_from (widths (types ++ d ∷ [])) more) ≡ true = sym (ap (list_all p) (widths-append [] (types ++ d ∷ []) more)) ∙ h in
    let first : list_all p (widths (types ++ d ∷ [])) ≡ true = narrow_first p (widths (types ++ d ∷ [])) more all in
    let split = sym (list_all-append p (widths types) (shape_width (widths types) d.shape ∷ [])) ∙ sym (ap (list_all p) (widths-append [] types (d ∷ []))) ∙ first in
    let last = (and_parts (list_all p (widths types)) (list_all p (shape_width (widths types) d.shape ∷ [])) split).1 in
    (and_parts (p (shape_width (widths types) d.shape)) true last).0
