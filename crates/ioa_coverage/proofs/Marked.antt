-- Counts of marks: they are as many as before, those of more marks are counted on, and each is how often its number is marked.
use Rattle.std.proofs.Common.{◌≡◌, ◌≢◌, ◌+◌, ◌++◌, ◌<◌, ◌==◌, ℕ, Bool, true, false, List, [], ◌∷◌, ap, arith, cond, count_by, get_or, length, refl, replicate, set, ◌∙◌}
use Rattle.std.proofs.lemmas.Bool.{eqb-false, eqb-true}
use Rattle.std.proofs.lemmas.List.{get_or-replicate, get_or-set_other, get_or-set_same, length-replicate, length-set}
use Rattle.std.proofs.lemmas.List.Sums.{sum_by-cons}
use Rattle.ioa_coverage.specs.Following.{one_more, with_marks}
use Rattle.ioa_coverage.proofs.Followed.{as_long, with_marks_append}

pub marks_keep : (cs ms : List ℕ) → length (with_marks cs ms) ≡ length cs
marks_keep cs ms = as_long cs ms

pub marks_joined : (cs ms ns : List ℕ) → with_marks cs (ms ++ ns) ≡ with_marks (with_marks cs ms) ns
marks_joined cs ms ns = with_marks_append cs ms ns

-- one more is counted at its own number alone
module _ (cs : List ℕ) (m k : ℕ) (within : k < length cs) where
  by_number : (b : Bool) → (m == k) ≡ b → get_or (one_more cs m) k 0 ≡ get_or cs k 0 + cond b 1 0
  by_number true t =
      let same : m ≡ k = eqb-true m k t in
      ap (λ n. get_or (set cs n (get_or cs n 0 + 1)) k 0) same ∙ get_or-set_same cs k (get_or cs k 0 + 1) 0 within
  by_number false f =
      let other : k ≢ m = λ e. eqb-false m k f (omega (arith, e)) in
      let kept : get_or (one_more cs m) k 0 ≡ get_or cs k 0 = get_or-set_other cs m k (get_or cs m 0 + 1) 0 other in
      omega (arith, kept)

pub marks_count : (cs ms : List ℕ) (k : ℕ) → k < length cs → get_or (with_marks cs ms) k 0 ≡ get_or cs k 0 + count_by (λ n. n == k) ms
marks_count cs [] k within = omega arith
marks_count cs (m ∷ ms) k within =
    let long : length (one_more cs m) ≡ length cs = length-set cs m (get_or cs m 0 + 1) in
    let rest : get_or (with_marks (one_more cs m) ms) k 0 ≡ get_or (one_more cs m) k 0 + count_by (λ n. n == k) ms = marks_count (one_more cs m) ms k (omega (arith, long, within)) in
    let first : get_or (one_more cs m) k 0 ≡ get_or cs k 0 + cond (m == k) 1 0 = by_number cs m k within (m == k) refl in
    let both : count_by (λ n. n == k) (m ∷ ms) ≡ cond (m == k) 1 0 + count_by (λ n. n == k) ms = sum_by-cons (λ (n : ℕ). cond (n == k) 1 0) m ms in
    rest ∙ omega (arith, first, both)

-- from none on, each is how often its number is marked
pub zeros_count : (n : ℕ) (ms : List ℕ) (k : ℕ) → k < n → get_or (with_marks (replicate n 0) ms) k 0 ≡ count_by (λ i. i == k) ms
zeros_count n ms k within =
    let zeros : List ℕ = replicate n 0 in
    let long : length zeros ≡ n = length-replicate n 0 in
    let none : get_or zeros k 0 ≡ 0 = get_or-replicate n k 0 0 within in
    marks_count zeros ms k (omega (arith, long, within)) ∙ omega (arith, none)
