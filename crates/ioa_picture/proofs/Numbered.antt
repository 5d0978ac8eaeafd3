-- Lines of numbered items, and the numbers of some of them, one item more at a time.
use Rattle.std.proofs.Common.{◌≡◌, ℕ, zero, suc, ◌+◌, ◌<◌, List, [], ◌∷◌, ◌++◌, append_assoc, append-nil, length, map, take, get_or, Bool, true, false, cond, Some, refl, sym, ap, ◌∙◌, arith}
use Rattle.std.specs.Prelude.{slice_get}
use Rattle.ioa_value.proofs.ItemLemmas.{at_map, image_at}
use Rattle.ioa_picture.specs.Lines.{numbered, numbers}

-- what is written behind a text that was written behind another one
pub behind : (start old front rest : List ℕ) → old ≡ start ++ front → old ++ rest ≡ start ++ (front ++ rest)
behind start old front rest e = ap (λ l. l ++ rest) e ∙ append_assoc start front rest

-- what is written behind a line of four pieces and its end
pub behind_line : (a b c d end rest : List ℕ) → (a ++ (b ++ (c ++ (d ++ end)))) ++ rest ≡ a ++ (b ++ (c ++ (d ++ (end ++ rest))))
behind_line a b c d end rest =
    append_assoc a (b ++ (c ++ (d ++ end))) rest
    ∙ ap (λ l. a ++ l) (append_assoc b (c ++ (d ++ end)) rest ∙ ap (λ l. b ++ l) (append_assoc c (d ++ end) rest ∙ ap (λ l. c ++ l) (append_assoc d end rest)))

module _ {A : Type 0} (lines : ℕ → A → List ℕ) where
  numbered_take : (n : ℕ) (xs : List A) (i : ℕ) (x : A) → slice_get xs i ≡ Some x → numbered lines n (take (suc i) xs) ≡ numbered lines n (take i xs) ++ lines (n + i) x
  numbered_take n [] i x e = absurd (cc)
  numbered_take n (y ∷ ys) zero x e =
      let same : y ≡ x = cc in
      let first : n ≡ n + 0 = omega arith in
      append-nil (lines n y) ∙ ap (λ k. lines k y) first ∙ ap (lines (n + 0)) same
  numbered_take n (y ∷ ys) (suc i) x e =
      let next : n + 1 + i ≡ n + suc i = omega arith in
      ap (λ l. lines n y ++ l) (numbered_take (n + 1) ys i x e) ∙ sym (append_assoc (lines n y) (numbered lines (n + 1) (take i ys)) (lines (n + 1 + i) x))
      ∙ ap (λ k. (lines n y ++ numbered lines (n + 1) (take i ys)) ++ lines k x) next

  -- the lines of one item more, which has this number
  pub line_at : (n : ℕ) (xs : List A) (i : ℕ) (x : A) (k : ℕ) (start old new : List ℕ) → slice_get xs i ≡ Some x → k ≡ n + i
      → old ≡ start ++ numbered lines n (take i xs) → new ≡ old ++ lines k x → new ≡ start ++ numbered lines n (take (i + 1) xs)
  line_at n xs i x k start old new at is so_far more =
      let next : suc i ≡ i + 1 = omega arith in
      more ∙ ap (λ l. l ++ lines k x) so_far ∙ append_assoc start (numbered lines n (take i xs)) (lines k x)
      ∙ ap (λ j. start ++ (numbered lines n (take i xs) ++ lines j x)) is
      ∙ ap (λ l. start ++ l) (sym (numbered_take n xs i x at))
      ∙ ap (λ j. start ++ numbered lines n (take j xs)) next

  -- the same of the item at a loop's turn, which is seen through a view
  pub line_more : {X : Type 0} (v : X → A) (xs : List X) (i : ℕ) (x : X) (start old new : List ℕ) → i < length xs → x ≡ get_or xs i x
      → old ≡ start ++ numbered lines 0 (take i (map v xs)) → new ≡ old ++ lines i (v x) → new ≡ start ++ numbered lines 0 (take (i + 1) (map v xs))
  line_more v xs i x start old new less is so_far more =
      line_at 0 (map v xs) i (v x) i start old new (at_map v xs i x less is) (omega arith) so_far more

  -- the same through two views
  pub line_more_through : {X Y : Type 0} (f : Y → A) (v : X → Y) (xs : List X) (i : ℕ) (x : X) (start old new : List ℕ) → i < length xs → x ≡ get_or xs i x
      → old ≡ start ++ numbered lines 0 (take i (map f (map v xs))) → new ≡ old ++ lines i (f (v x)) → new ≡ start ++ numbered lines 0 (take (i + 1) (map f (map v xs)))
  line_more_through f v xs i x start old new less is so_far more =
      line_at 0 (map f (map v xs)) i (f (v x)) i start old new (image_at f (map v xs) i (v x) (at_map v xs i x less is)) (omega arith) so_far more

module _ {A : Type 0} (holds : A → Bool) where
  first_number : (b : Bool) (n : ℕ) (rest : List ℕ) → cond b (n ∷ rest) rest ≡ cond b (n ∷ []) [] ++ rest
  first_number true n rest = refl
  first_number false n rest = refl

  numbers_take : (n : ℕ) (xs : List A) (i : ℕ) (x : A) → slice_get xs i ≡ Some x → numbers holds n (take (suc i) xs) ≡ numbers holds n (take i xs) ++ cond (holds x) ((n + i) ∷ []) []
  numbers_take n [] i x e = absurd (cc)
  numbers_take n (y ∷ ys) zero x e =
      let same : y ≡ x = cc in
      let first : n ≡ n + 0 = omega arith in
      ap (λ k. cond (holds y) (k ∷ []) []) first ∙ ap (λ z. cond (holds z) ((n + 0) ∷ []) []) same
  numbers_take n (y ∷ ys) (suc i) x e =
      let next : n + 1 + i ≡ n + suc i = omega arith in
      let here : List ℕ = cond (holds y) (n ∷ []) [] in
      first_number (holds y) n (numbers holds (n + 1) (take (suc i) ys))
      ∙ ap (λ l. here ++ l) (numbers_take (n + 1) ys i x e)
      ∙ sym (append_assoc here (numbers holds (n + 1) (take i ys)) (cond (holds x) ((n + 1 + i) ∷ []) []))
      ∙ ap (λ l. l ++ cond (holds x) ((n + 1 + i) ∷ []) []) (sym (first_number (holds y) n (numbers holds (n + 1) (take i ys))))
      ∙ ap (λ k. numbers holds n (take (suc i) (y ∷ ys)) ++ cond (holds x) (k ∷ []) []) next

  -- one item more, of which it is true or not
  pub number_more : {X : Type 0} (v : X → A) (xs : List X) (i : ℕ) (x : X) (old new : List ℕ) → i < length xs → x ≡ get_or xs i x
      → old ≡ numbers holds 0 (take i (map v xs)) → new ≡ old ++ cond (holds (v x)) (i ∷ []) [] → new ≡ numbers holds 0 (take (i + 1) (map v xs))
  number_more v xs i x old new less is so_far more =
      let next : suc i ≡ i + 1 = omega arith in
      let from_zero : i ≡ 0 + i = omega arith in
      more ∙ ap (λ l. l ++ cond (holds (v x)) (i ∷ []) []) so_far
      ∙ ap (λ k. numbers holds 0 (take i (map v xs)) ++ cond (holds (v x)) (k ∷ []) []) from_zero
      ∙ sym (numbers_take 0 (map v xs) i (v x) (at_map v xs i x less is))
      ∙ ap (λ j. numbers holds 0 (take j (map v xs))) next
