-- Rows as they are told: the lines of the rows so far, and of the next one.
use Rattle.std.proofs.Common.{◌≡◌, ◌+◌, ◌++◌, ◌<◌, ◌≤◌, ℕ, zero, suc, Bor, IsSome, List, [], ◌∷◌, Option, Some, None, String, Global, ap, ap₂, append_assoc, arith, drop, get_or, length, map, refl, string_bytes, sym, ◌∙◌}
use Rattle.std.specs.List.{flat_map}
use Rattle.std.proofs.lemmas.List.{drop_all}
use Rattle.std.proofs.lemmas.List.Concat.{flat_map-append}
use Rattle.ioa_value.specs.Actions.{Name}
use Rattle.ioa_value.proofs.ItemLemmas.{drop_item}
use Rattle.ioa_coverage.specs.declared.coverage.Row.{Row}
use Rattle.ioa_coverage.specs.declared.effect.Effect.{Effect}
use Rattle.ioa_coverage.specs.Counts.{told_row}
use Rattle.ioa_coverage.specs.Effects.{rows_of_counts, told_effect, told_rows}
use Rattle.ioa_coverage.specs.Taken.{Told, row_of_entry, row_of_place}

-- no item lent, no item there
pub past : {X : Type 0} (xs : List X) (i : ℕ) (o : Option (Bor X)) → (i < length xs → IsSome o) → ((x : Bor X) → o ≡ Some x → ⊥) → length xs ≤ i
past xs i (Some x) some none = absurd (none x refl)
past [] i None some none = omega arith
past {X} (x ∷ xs) zero None some none = let there : IsSome {T = Bor X} None = some (omega arith) in absurd (cc)
past {X} (x ∷ xs) (suc i) None some none =
    let rest : length xs ≤ i = past {X = X} xs i None (λ (lt : i < length xs). some (omega (arith, lt))) none in
    omega (arith, rest)

-- what is told of a row
abbrev Line : Type 0
Line = Told → List ℕ

-- ---- entries

module _ (f : Line) (rows : List Row) (effects : List Effect) where
  abbrev pub left_rows : ℕ → List ℕ
  left_rows k = flat_map f (told_rows (drop k rows) (drop k effects))

  pub entry_told : (i : ℕ) (r : Row) (x : Effect) (now mid new : List ℕ) → i < length rows → r ≡ get_or rows i r → i < length effects → x ≡ get_or effects i x
      → mid ≡ now ++ f (row_of_entry (told_row r)) → new ≡ mid ++ flat_map f (told_effect r x) → new ++ left_rows (i + 1) ≡ now ++ left_rows i
  entry_told i r x now mid new lt at within its one more =
      let own = f (row_of_entry (told_row r)) in
      let its_own = flat_map f (told_effect r x) in
      ap (λ (t : List ℕ). t ++ left_rows (i + 1)) more ∙ append_assoc mid its_own (left_rows (i + 1)) ∙ ap (λ (t : List ℕ). t ++ (its_own ++ left_rows (i + 1))) one
      ∙ append_assoc now own (its_own ++ left_rows (i + 1))
      ∙ ap (λ (l : List ℕ). now ++ (own ++ l)) (sym (flat_map-append f (told_effect r x) (told_rows (drop (i + 1) rows) (drop (i + 1) effects))))
      ∙ ap₂ (λ (rs : List Row) (xs : List Effect). now ++ flat_map f (told_rows rs xs)) (sym (drop_item rows i r lt at)) (sym (drop_item effects i x within its))

  pub entry_alone : (i : ℕ) (r : Row) (now new : List ℕ) → i < length rows → r ≡ get_or rows i r → length effects ≤ i → new ≡ now ++ f (row_of_entry (told_row r))
      → new ++ left_rows (i + 1) ≡ now ++ left_rows i
  entry_alone i r now new lt at past one =
      let own = f (row_of_entry (told_row r)) in
      ap (λ (t : List ℕ). t ++ left_rows (i + 1)) one ∙ append_assoc now own (left_rows (i + 1))
      ∙ ap (λ (xs : List Effect). now ++ (own ++ flat_map f (told_rows (drop (i + 1) rows) xs))) (drop_all (i + 1) effects (omega (arith, past)))
      ∙ ap₂ (λ (rs : List Row) (xs : List Effect). now ++ flat_map f (told_rows rs xs)) (sym (drop_item rows i r lt at)) (sym (drop_all i effects past))

-- ---- arms and bodies

none_counted : (component entry : Name) (labels : List (List ℕ)) → rows_of_counts component entry labels [] ≡ []
none_counted component entry [] = refl
none_counted component entry (label ∷ labels) = refl

module _ (f : Line) (component entry : Name) (labels : List (String Global)) (ns : List ℕ) where
  abbrev pub left_places : ℕ → List ℕ
  left_places k = flat_map f (rows_of_counts component entry (map string_bytes (drop k labels)) (drop k ns))

  pub place_told : (i : ℕ) (label : String Global) (n : ℕ) (now new : List ℕ) → i < length labels → label ≡ get_or labels i label → i < length ns → n ≡ get_or ns i n
      → new ≡ now ++ f (row_of_place component entry (string_bytes label) n) → new ++ left_places (i + 1) ≡ now ++ left_places i
  place_told i label n now new lt at within its one =
      ap (λ (t : List ℕ). t ++ left_places (i + 1)) one ∙ append_assoc now (f (row_of_place component entry (string_bytes label) n)) (left_places (i + 1))
      ∙ ap₂ (λ (ls : List (String Global)) (ms : List ℕ). now ++ flat_map f (rows_of_counts component entry (map string_bytes ls) ms)) (sym (drop_item labels i label lt at))
      (sym (drop_item ns i n within its))

  none_left : (k : ℕ) → length ns ≤ k → left_places k ≡ []
  none_left k past =
      ap (λ (ms : List ℕ). flat_map f (rows_of_counts component entry (map string_bytes (drop k labels)) ms)) (drop_all k ns past)
      ∙ ap (flat_map f) (none_counted component entry (map string_bytes (drop k labels)))

  pub place_uncounted : (i : ℕ) (now : List ℕ) → length ns ≤ i → now ++ left_places (i + 1) ≡ now ++ left_places i
  place_uncounted i now past = ap (λ (l : List ℕ). now ++ l) (none_left (i + 1) (omega (arith, past)) ∙ sym (none_left i past))
