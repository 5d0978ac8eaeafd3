-- The lines on which a comment begins within a statement, one line more at a time.
use Rattle.std.proofs.Common.{◌≡◌, ℕ, ◌+◌, ◌<◌, true, false, List, [], ◌∷◌, ◌++◌, append_assoc, length, sym, ap, ◌∙◌, refl}
use Rattle.ioa_value.specs.Lists.{after_line, first_line, lines}
use Rattle.ioa_value.proofs.ListLemmas.{cut_lines}
use Rattle.ioa_warnings.specs.Comments.{cut_from, is_cut}

cut_one : (n : ℕ) (l : List ℕ) (ls : List (List ℕ)) → is_cut l ≡ true → n ∷ cut_from (n + 1) ls ≡ cut_from n (l ∷ ls)
cut_one n l ls e = rw e refl

cut_none : (n : ℕ) (l : List ℕ) (ls : List (List ℕ)) → is_cut l ≡ false → cut_from (n + 1) ls ≡ cut_from n (l ∷ ls)
cut_none n l ls e = rw e refl

module _ (rest line after numbers all : List ℕ) (n : ℕ) (long : 0 < length rest) (first : line ≡ first_line rest) (others : after ≡ after_line rest)
    (so_far : numbers ++ cut_from n (lines rest) ≡ all) where
  parted : line ∷ lines after ≡ lines rest
  parted = ap (λ l. l ∷ lines after) first ∙ ap (λ r. first_line rest ∷ lines r) others ∙ sym (cut_lines rest long)

  -- past a line that has no such comment
  pub past : is_cut line ≡ false → numbers ++ cut_from (n + 1) (lines after) ≡ all
  past e = ap (λ ns. numbers ++ ns) (cut_none n line (lines after) e ∙ ap (cut_from n) parted) ∙ so_far

  -- past one that has
  pub past_cut : is_cut line ≡ true → (new : List ℕ) → new ≡ numbers ++ n ∷ [] → new ++ cut_from (n + 1) (lines after) ≡ all
  past_cut e new more =
      let later : List ℕ = cut_from (n + 1) (lines after) in
      ap (λ ns. ns ++ later) more ∙ append_assoc numbers (n ∷ []) later
      ∙ ap (λ ns. numbers ++ ns) (cut_one n line (lines after) e ∙ ap (cut_from n) parted)
      ∙ so_far
