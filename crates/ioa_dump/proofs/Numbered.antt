-- Lines of the declared types, one type more at a time.
use Rattle.std.proofs.Common.{◌≡◌, ℕ, zero, suc, ◌+◌, ◌-◌, ◌≤◌, List, [], ◌∷◌, ◌++◌, take, Some, ap, ◌∙◌, arith}
use Rattle.std.specs.Prelude.{slice_get}
use Rattle.ioa_value.specs.Table.{Declaration, Table}
use Rattle.ioa_object.specs.Spelling.{declared}
use Rattle.ioa_picture.specs.Lines.{numbered}
use Rattle.ioa_picture.proofs.Numbered.{line_at}

-- the lines of one declared type more, by its number among all types
pub type_more : (lines : ℕ → Declaration → List ℕ) (types : Table) (n : ℕ) (d : Declaration) (start old new : List ℕ) → 2 ≤ n → slice_get types n ≡ Some d
    → old ≡ start ++ numbered lines 2 (take (n - 2) (declared types)) → new ≡ old ++ lines n d → new ≡ start ++ numbered lines 2 (take (n + 1 - 2) (declared types))
type_more lines types zero d start old new two at so_far more = absurd (omega arith)
type_more lines types (suc zero) d start old new two at so_far more = absurd (omega arith)
type_more lines [] (suc (suc j)) d start old new two at so_far more = absurd (cc)
type_more lines (a ∷ []) (suc (suc j)) d start old new two at so_far more = absurd (cc)
type_more lines (a ∷ b ∷ ds) (suc (suc j)) d start old new two at so_far more =
    let here : suc (suc j) - 2 ≡ j = omega arith in
    let next : j + 1 ≡ suc (suc j) + 1 - 2 = omega arith in
    line_at lines 2 ds j d (suc (suc j)) start old new at (omega arith) (so_far ∙ ap (λ k. start ++ numbered lines 2 (take k ds)) here) more
    ∙ ap (λ k. start ++ numbered lines 2 (take k ds)) next
