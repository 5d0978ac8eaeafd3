-- Two lists whose items are seen alike, by index. An item is at k where it is read there with itself for a want.
use Rattle.std.proofs.Common.{◌≡◌, ℕ, zero, suc, ◌+◌, ◌<◌, ◌≤◌, Bool, true, false, nat_lt, List, [], ◌∷◌, length, map, get_or, refl, sym, ap, ◌∙◌, arith}
use Rattle.std.proofs.lemmas.Bool.Decides.{nat_tests}

at_any : {A : Type 0} (xs : List A) (k : ℕ) (d e : A) → k < length xs → get_or xs k d ≡ get_or xs k e
at_any [] k d e h = absurd (omega arith)
at_any (x ∷ xs) zero d e h = refl
at_any (x ∷ xs) (suc k) d e h = at_any xs k d e (omega arith)

one_at : {A : Type 0} (xs : List A) (k : ℕ) (x y : A) → k < length xs → x ≡ get_or xs k x → y ≡ get_or xs k y → x ≡ y
one_at xs k x y h e f = e ∙ at_any xs k x y h ∙ sym f

module _ {A B : Type 0} (v : A → B) where
  abbrev pub AlikeBelow : List A → List A → ℕ → Type 0
  AlikeBelow xs ys n = (k : ℕ) → k < n → (x y : A) → x ≡ get_or xs k x → y ≡ get_or ys k y → v x ≡ v y

  pub alike_more : (xs ys : List A) (n : ℕ) (x y : A) → n < length xs → length xs ≡ length ys → AlikeBelow xs ys n → x ≡ get_or xs n x → y ≡ get_or ys n y → v x ≡ v y → AlikeBelow xs ys (n + 1)
  alike_more xs ys n x y small even below is_x is_y same k h u w is_u is_w = by (nat_lt k n) refl
    where
      by : (b : Bool) → nat_lt k n ≡ b → v u ≡ v w
      by true e = let near : k < n = grind (arith, nat_tests) in below k near u w is_u is_w
      by false e =
          let last : k ≡ n = let far : n ≤ k = grind (arith, nat_tests) in omega arith in
          let same_u : x ≡ u = one_at xs n x u small is_x (is_u ∙ ap (λ k. get_or xs k u) last) in
          let same_w : y ≡ w = one_at ys n y w (omega arith) is_y (is_w ∙ ap (λ k. get_or ys k w) last) in
          ap v (sym same_u) ∙ same ∙ ap v same_w

  pub alike_length : (xs ys : List A) → map v xs ≡ map v ys → length xs ≡ length ys
  alike_length [] [] h = refl
  alike_length [] (y ∷ ys) h = absurd (cc (h))
  alike_length (x ∷ xs) [] h = absurd (cc (h))
  alike_length (x ∷ xs) (y ∷ ys) h = let more : map v xs ≡ map v ys = cc in omega (arith, alike_length xs ys more)

  pub alike_at : (xs ys : List A) → map v xs ≡ map v ys → AlikeBelow xs ys (length xs)
  alike_at [] ys same k h x y is_x is_y = absurd (omega arith)
  alike_at (a ∷ xs) [] same k h x y is_x is_y = absurd (cc (same))
  alike_at (a ∷ xs) (b ∷ ys) same zero h x y is_x is_y = let first : v a ≡ v b = cc in ap v is_x ∙ first ∙ ap v (sym is_y)
  alike_at (a ∷ xs) (b ∷ ys) same (suc k) h x y is_x is_y = let more : map v xs ≡ map v ys = cc in alike_at xs ys more k (omega arith) x y is_x is_y

  pub alike_all : (xs ys : List A) → length xs ≡ length ys → AlikeBelow xs ys (length xs) → map v xs ≡ map v ys
  alike_all [] [] even alike = refl
  alike_all [] (y ∷ ys) even alike = absurd (omega arith)
  alike_all (x ∷ xs) [] even alike = absurd (omega arith)
  alike_all (x ∷ xs) (y ∷ ys) even alike =
      let first : v x ≡ v y = alike 0 (omega arith) x y refl refl in
      let more : map v xs ≡ map v ys = alike_all xs ys (omega arith) (λ k h u w is_u is_w. alike (suc k) (omega arith) u w is_u is_w) in
      ap (λ z. z ∷ map v xs) first ∙ ap (λ r. v y ∷ r) more
