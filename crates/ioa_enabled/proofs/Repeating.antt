-- The values of one place, as equal words give them one after another.
use Rattle.std.proofs.Common.{◌≡◌, ℕ, zero, suc, ◌+◌, ◌<◌, ◌≤◌, ◌%◌, min, Bool, true, false, List, [], ◌∷◌, ◌++◌, map, Option, Some, None, refl, sym, ap, subst, ◌∙◌, ◌⊎◌, inl, inr, arith}
use Rattle.std.specs.Prelude.{slice_get}
use Rattle.std.specs.List.{range_with_len}
use Rattle.std.specs.Option.{option_map_or}
use Rattle.std.proofs.Math.Nat.{min-eq_left, min-eq_right, mod-eq_of_lt, mod_self}
use Rattle.std.proofs.lemmas.Bool.{cases_lt, false≢true}
use Rattle.std.proofs.lemmas.List.FromFn.{map-range_with_len_more}
use Rattle.ioa_value.specs.Plain.{Val}
use Rattle.ioa_value.specs.Same.{same}
use Rattle.ioa_value.proofs.SameLemmas.{same_equal, same-refl}
use Rattle.ioa_enabled.specs.Sampled.{NeverAgain, shown}
use Rattle.ioa_enabled.specs.Ways.{Values}
use Rattle.ioa_enabled.proofs.Picking.{range_at}

-- the value is the first of these
abbrev pub again : List Val → Val → Bool
again vs v = option_map_or (λ u. same u v) (slice_get vs 0) false

module _ (c : Values) (there : 0 < c.count) (apart : NeverAgain c) (word : ℕ) (vs : List Val) (v : Val) (so_far : vs ≡ map c.value (range_with_len 0 word)) (within : word ≤ c.count)
    (next : v ≡ c.value (word % c.count)) where
  first_there : 0 < word → again vs v ≡ same (c.value 0) v
  first_there some = ap (λ o. option_map_or (λ u. same u v) o false) (ap (λ us. slice_get us 0) so_far ∙ range_at c.value word 0 some)

  pub column_more : again vs v ≡ false → (vs ++ v ∷ [] ≡ map c.value (range_with_len 0 (word + 1))) × (word + 1 ≤ c.count)
  column_more new = go (cases_lt word c.count)
    where
      go : (word < c.count) ⊎ (c.count ≤ word) → (vs ++ v ∷ [] ≡ map c.value (range_with_len 0 (word + 1))) × (word + 1 ≤ c.count)
      go (inl less) =
          let here : 0 + word ≡ word = omega arith in
          let own : v ≡ c.value word = next ∙ ap c.value (mod-eq_of_lt less) in (
            ap (λ us. us ++ v ∷ []) so_far ∙ ap (λ u. map c.value (range_with_len 0 word) ++ u ∷ []) own ∙ sym (map-range_with_len_more c.value 0 word word here),
            omega arith,
          )
      go (inr most) =
          let all : word ≡ c.count = omega arith in
          let some : 0 < word = omega arith in
          let first : v ≡ c.value 0 = next ∙ ap c.value (ap (λ n. n % c.count) all ∙ mod_self c.count) in
          let old : again vs v ≡ true = first_there some ∙ ap (same (c.value 0)) first ∙ same-refl (c.value 0) in
          absurd (false≢true (sym new ∙ old))

  not_again : word < c.count → again vs v ≡ true → ⊥
  not_again fewer old = go (cases_lt 0 word)
    where
      go : (0 < word) ⊎ (word ≤ 0) → ⊥
      go (inl more) =
          let equal : c.value 0 ≡ v = same_equal (c.value 0) v (sym (first_there more) ∙ old) in
          let own : v ≡ c.value word = next ∙ ap c.value (mod-eq_of_lt fewer) in
          apart word more fewer (sym own ∙ sym equal)
      go (inr none) =
          let empty : word ≡ 0 = omega arith in
          let nothing : vs ≡ [] = so_far ∙ ap (λ n. map c.value (range_with_len 0 n)) empty in
          false≢true (sym (ap (λ us. again us v) nothing) ∙ old)

  pub column_stops : (most : ℕ) → word < most → again vs v ≡ true → vs ≡ shown most c
  column_stops most less old = go (cases_lt word c.count)
    where
      go : (word < c.count) ⊎ (c.count ≤ word) → vs ≡ shown most c
      go (inl fewer) = absurd (not_again fewer old)
      go (inr all) =
          let whole : word ≡ c.count = omega arith in
          let few : c.count ≤ most = omega arith in
          so_far ∙ ap (λ n. map c.value (range_with_len 0 n)) (whole ∙ sym (min-eq_left few))

pub column_ends : (c : Values) (word most : ℕ) (vs : List Val) → vs ≡ map c.value (range_with_len 0 word) → word ≤ c.count → word ≡ most → vs ≡ shown most c
column_ends c word most vs so_far within last =
    let most_is : most ≤ c.count = omega arith in
    so_far ∙ ap (λ n. map c.value (range_with_len 0 n)) (last ∙ sym (min-eq_right most_is))
