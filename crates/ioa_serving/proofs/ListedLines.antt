-- The lines of a file of words, as they are read.
use Rattle.std.proofs.Common.{◌≡◌, ℕ, zero, suc, ◌+◌, ◌<◌, ◌-◌, ◌^◌, ◌==◌, Bool, true, false, cond, List, [], ◌∷◌, ◌++◌, length, Option, Some, None, refl, sym, ap, ◌∙◌, arith, subst, slice_get, IsSome}
use Rattle.std.specs.List.{onto_first}
use Rattle.std.specs.Option.{option_map, option_map_or, option_and_then}
use Rattle.ioa_value.specs.Lists.{first_line, after_line}
use Rattle.ioa_request.specs.Fields.{first_field, after_field}
use Rattle.ioa_request.specs.Numerals.{numeral_in}
use Rattle.ioa_serving.specs.WordLists.{IsBadWords, fields, line_at, spelled_words, words_in}

-- the fields are the first one and those of what is behind it
fields_first : (bs : List ℕ) → fields bs ≡ first_field bs ∷ option_map_or fields (after_field bs) []
fields_first [] = refl
fields_first (b ∷ bs) = go (b == 32) (fields_first bs)
  where
    go : (t : Bool) → fields bs ≡ first_field bs ∷ option_map_or fields (after_field bs) []
        → cond t ([] ∷ fields bs) (onto_first b (fields bs)) ≡ cond t [] (b ∷ first_field bs) ∷ option_map_or fields (cond t (Some bs) (after_field bs)) []
    go true e = refl
    go false e = ap (onto_first b) e

-- the words so far, and those of the rest
abbrev pub with_rest : List ℕ → List ℕ → Option (List ℕ)
with_rest so_far rest = option_map (λ ws. so_far ++ ws) (spelled_words (fields rest))

abbrev spelled : List ℕ → Option ℕ
spelled field = numeral_in (2 ^ 32 - 1) field

same_map : (o : Option (List ℕ)) → o ≡ option_map (λ ws. [] ++ ws) o
same_map None = refl
same_map (Some ws) = refl

pub begun : (line : List ℕ) → 0 < length line → words_in line ≡ with_rest [] line
begun [] some = absurd (omega arith)
begun (b ∷ bs) some = same_map (spelled_words (fields (b ∷ bs)))

onto : (so_far : List ℕ) (w : ℕ) (o : Option (List ℕ)) → option_map (λ ws. so_far ++ ws) (option_map (λ ws. w ∷ ws) o) ≡ option_map (λ ws. (so_far ++ w ∷ []) ++ ws) o
onto so_far w None = refl
onto so_far w (Some ws) = ap Some (appended so_far)
  where
    appended : (xs : List ℕ) → xs ++ w ∷ ws ≡ (xs ++ w ∷ []) ++ ws
    appended [] = refl
    appended (x ∷ xs) = ap (λ ys. x ∷ ys) (appended xs)

-- one more word, and more behind it
pub more : (line so_far rest later : List ℕ) (w : ℕ) → words_in line ≡ with_rest so_far rest → Some w ≡ spelled (first_field rest) → Some later ≡ after_field rest
    → words_in line ≡ with_rest (so_far ++ w ∷ []) later
more line so_far rest later w e word after =
    e ∙ ap (λ fs. option_map (λ ws. so_far ++ ws) (spelled_words fs)) (fields_first rest ∙ ap (λ (o : Option (List ℕ)). first_field rest ∷ option_map_or fields o []) (sym after))
    ∙ ap (λ o. option_map (λ ws. so_far ++ ws) (option_and_then (λ v. option_map (λ ws. v ∷ ws) (spelled_words (fields later))) o)) (sym word)
    ∙ onto so_far w (spelled_words (fields later))

-- the last word
pub last : (line so_far rest : List ℕ) (w : ℕ) → words_in line ≡ with_rest so_far rest → Some w ≡ spelled (first_field rest) → None ≡ after_field rest
    → Some (so_far ++ w ∷ []) ≡ words_in line
last line so_far rest w e word after =
    sym (e ∙ ap (λ fs. option_map (λ ws. so_far ++ ws) (spelled_words fs)) (fields_first rest ∙ ap (λ (o : Option (List ℕ)). first_field rest ∷ option_map_or fields o []) (sym after))
    ∙ ap (λ o. option_map (λ ws. so_far ++ ws) (option_and_then (λ v. option_map (λ ws. v ∷ ws) (Some [])) o)) (sym word))

-- a field that is no word
pub broken : (line so_far rest : List ℕ) → words_in line ≡ with_rest so_far rest → None ≡ spelled (first_field rest) → None ≡ words_in line
broken line so_far rest e word =
    sym (e ∙ ap (λ fs. option_map (λ ws. so_far ++ ws) (spelled_words fs)) (fields_first rest)
    ∙ ap (λ o. option_map (λ ws. so_far ++ ws) (option_and_then (λ v. option_map (λ ws. v ∷ ws) (spelled_words (option_map_or fields (after_field rest) []))) o)) (sym word))

pub shorter : (rest later : List ℕ) → Some later ≡ after_field rest → length later < length rest
shorter [] later e = absurd (cc)
shorter (b ∷ bs) later e = go (b == 32) (shorter bs later) e
  where
    go : (t : Bool) → (Some later ≡ after_field bs → length later < length bs) → Some later ≡ cond t (Some bs) (after_field bs) → length later < length (b ∷ bs)
    go true less h = let z : later ≡ bs = cc in omega (arith, ap length z)
    go false less h = omega (arith, less h)

-- what holds of the items and of one more holds of all, each by its place
pub each_more : {X : Type 0} (P : ℕ → X → Type 0) (xs : List X) (x : X) → ((i : ℕ) (y : X) → slice_get xs i ≡ Some y → P i y) → P (length xs) x
    → (i : ℕ) (y : X) → slice_get (xs ++ x ∷ []) i ≡ Some y → P i y
each_more P [] x all here zero y e = let same : x ≡ y = cc in subst (P 0) same here
each_more P [] x all here (suc i) y e = absurd (cc)
each_more P (z ∷ zs) x all here zero y e = all zero y e
each_more P (z ∷ zs) x all here (suc i) y e = each_more (λ j w. P (suc j) w) zs x (λ j w h. all (suc j) w h) here i y e

-- the line behind so many
pub line_behind : (k n : ℕ) (rest text : List ℕ) → ((j : ℕ) → line_at j rest ≡ line_at (n + j) text) → line_at k (after_line rest) ≡ line_at (n + 1 + k) text
line_behind k n rest text lines = let e : n + suc k ≡ n + 1 + k = omega arith in lines (suc k) ∙ ap (λ j. line_at j text) e

pub line_here : (n : ℕ) (rest text : List ℕ) → ((j : ℕ) → line_at j rest ≡ line_at (n + j) text) → first_line rest ≡ line_at n text
line_here n rest text lines = let e : n + 0 ≡ n = omega arith in lines 0 ∙ ap (λ j. line_at j text) e

some_each : (f : ℕ → Option (List ℕ)) (lists : List (List ℕ)) → ((i : ℕ) (ws : List ℕ) → slice_get lists i ≡ Some ws → f i ≡ Some ws) → (i : ℕ) → i < length lists → IsSome (f i)
some_each f [] each i lt = absurd (omega arith)
some_each f (x ∷ xs) each zero lt = subst (λ (o : Option (List ℕ)). IsSome o) (sym (each zero x refl)) refl
some_each f (x ∷ xs) each (suc i) lt = some_each (λ j. f (suc j)) xs (λ j ws h. each (suc j) ws h) i (omega arith)

pub bad_at : (workers : ℕ) (text : List ℕ) (lists : List (List ℕ)) (n : ℕ) → n ≡ length lists → n < workers
    → ((i : ℕ) (ws : List ℕ) → slice_get lists i ≡ Some ws → words_in (line_at i text) ≡ Some ws) → None ≡ words_in (line_at n text) → IsBadWords workers text (n + 1)
bad_at workers text lists n is lt each none = record {
  before = n;
  place = refl;
  looked_at = lt;
  good = λ i less. some_each (λ j. words_in (line_at j text)) lists each i (omega (arith, is));
  bad = sym none;
}
