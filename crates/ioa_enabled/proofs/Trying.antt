-- The ways of an entry tried one after another.
use Rattle.std.proofs.Common.{◌≡◌, ℕ, zero, suc, ◌+◌, ◌<◌, ◌≤◌, min, Bool, true, false, cond, List, [], ◌∷◌, ◌++◌, append-nil, filter, map, Option, Some, None, refl, sym, ap, ap₂, subst, ◌∙◌, arith}
use Rattle.std.specs.Prelude.{is_some, nat_lt}
use Rattle.std.specs.List.{range_with_len}
use Rattle.std.specs.Option.{option_map}
use Rattle.std.proofs.Math.Nat.{min-eq_left, min-eq_right}
use Rattle.std.proofs.lemmas.List.Elements.{filter-append}
use Rattle.std.proofs.lemmas.List.FromFn.{map-range_with_len_more}
use Rattle.ioa_value.specs.Actions.{Act, Name}
use Rattle.ioa_value.specs.Plain.{Val}
use Rattle.ioa_tree.specs.Components.{Component}
use Rattle.ioa_enabled.specs.Offers.{picked}
use Rattle.ioa_enabled.specs.Sampled.{named, shown}
use Rattle.ioa_enabled.specs.Ways.{Values, combination, enabled_ways, is_enabled, total, way}
use Rattle.ioa_enabled.proofs.Picking.{above_test, below_test, numbered, picks}

module _ (cs : List Values) (most : ℕ) (columns : List (List Val)) (are : columns ≡ map (shown (most + 1)) cs) where
  is_numbered : (k : ℕ) → k ≤ most → picked columns k ≡ numbered cs k
  is_numbered k less = ap (λ vss. picked vss k) are ∙ picks most cs k less

  -- a combination that is there
  pub found : (k : ℕ) (vs : List Val) → k ≤ most → Some vs ≡ picked columns k → (vs ≡ combination cs k) × (k < total cs)
  found k vs less is = go (nat_lt k (total cs)) refl (is ∙ is_numbered k less)
    where
      go : (b : Bool) → nat_lt k (total cs) ≡ b → Some vs ≡ cond (nat_lt k (total cs)) (Some (combination cs k)) None → (vs ≡ combination cs k) × (k < total cs)
      go true e there =
          let q : Some vs ≡ Some (combination cs k) = there ∙ ap (λ b. cond b (Some (combination cs k)) None) e in
          let same : vs ≡ combination cs k = cc in (same, below_test k (total cs) e)
      go false e there = let q : Some vs ≡ None = there ∙ ap (λ b. cond b (Some (combination cs k)) None) e in absurd (cc)

  -- and one that is not
  pub absent : (k : ℕ) → k ≤ most → None ≡ picked columns k → total cs ≤ k
  absent k less is = go (nat_lt k (total cs)) refl (is ∙ is_numbered k less)
    where
      go : (b : Bool) → nat_lt k (total cs) ≡ b → None ≡ cond (nat_lt k (total cs)) (Some (combination cs k)) None → total cs ≤ k
      go true e there = let q : None ≡ Some (combination cs k) = there ∙ ap (λ b. cond b (Some (combination cs k)) None) e in absurd (cc)
      go false e there = above_test k (total cs) e

  -- whether there are more than are tried
  pub more_there : (o : Option (List Val)) → o ≡ picked columns most → is_some o ≡ nat_lt most (total cs)
  more_there None is = sym (go (nat_lt most (total cs)) refl)
    where
      go : (b : Bool) → nat_lt most (total cs) ≡ b → b ≡ false
      go true e =
          let l = below_test most (total cs) e in
          let m = absent most (omega arith) is in
          absurd (omega (arith, l, m))
      go false e = refl
  more_there (Some vs) is = sym (go (nat_lt most (total cs)) refl)
    where
      go : (b : Bool) → nat_lt most (total cs) ≡ b → b ≡ true
      go true e = refl
      go false e =
          let l = above_test most (total cs) e in
          let m = (found most vs (omega arith) is).1 in
          absurd (omega (arith, l, m))

-- an action that is made of a name and a combination
pub made : (x y : Name) (vs us : List Val) → x ≡ y → vs ≡ us → named x vs ≡ named y us
made x y vs us e f = ap₂ named e f

pub mapped : {X Y : Type 0} (f : X → Y) (o : Option X) → is_some (option_map f o) ≡ is_some o
mapped f None = refl
mapped f (Some x) = refl

-- those of the first so many that pass a test
module _ (test : Act → Bool) (x : Name) (cs : List Values) where
  abbrev pub tried : ℕ → List Act
  tried n = filter test (map (way x cs) (range_with_len 0 n))

  pub next_one : (n : ℕ) → tried (n + 1) ≡ tried n ++ filter test (way x cs n ∷ [])
  next_one n =
      let here : 0 + n ≡ n = omega arith in
      ap (filter test) (map-range_with_len_more (way x cs) 0 n n here) ∙ filter-append test (map (way x cs) (range_with_len 0 n)) (way x cs n ∷ [])

  pub kept : (n : ℕ) (acts : List Act) (a : Act) → a ≡ way x cs n → acts ≡ tried n → test a ≡ true → acts ++ a ∷ [] ≡ tried (n + 1)
  kept n acts a is so_far holds =
      let passes : test (way x cs n) ≡ true = ap test (sym is) ∙ holds in
      let last : filter test (way x cs n ∷ []) ≡ way x cs n ∷ [] = ap (λ b. cond b (way x cs n ∷ []) []) passes in
      ap (λ bs. bs ++ a ∷ []) so_far ∙ ap (λ b. tried n ++ b ∷ []) is ∙ ap (λ bs. tried n ++ bs) (sym last) ∙ sym (next_one n)

  pub left_out : (n : ℕ) (acts : List Act) (a : Act) → a ≡ way x cs n → acts ≡ tried n → test a ≡ false → acts ≡ tried (n + 1)
  left_out n acts a is so_far differs =
      let fails : test (way x cs n) ≡ false = ap test (sym is) ∙ differs in
      let last : filter test (way x cs n ∷ []) ≡ [] = ap (λ b. cond b (way x cs n ∷ []) []) fails in
      so_far ∙ sym (append-nil (tried n)) ∙ ap (λ bs. tried n ++ bs) (sym last) ∙ sym (next_one n)

  -- all of them, where there are no more
  pub all_tried : (n most : ℕ) (acts : List Act) → acts ≡ tried n → n ≤ total cs → total cs ≤ n → n ≤ most → acts ≡ tried (min (total cs) most)
  all_tried n most acts so_far within last less =
      let all : n ≡ total cs = omega arith in
      let few : total cs ≤ most = omega arith in
      so_far ∙ ap tried (all ∙ sym (min-eq_left few))

  pub most_tried : (n most : ℕ) (acts : List Act) → acts ≡ tried n → n ≤ total cs → n ≡ most → acts ≡ tried (min (total cs) most)
  most_tried n most acts so_far within last =
      let many : most ≤ total cs = omega arith in
      so_far ∙ ap tried (last ∙ sym (min-eq_right many))

-- there are no more than are tried
pub no_more : (most n count : ℕ) → count ≤ n → n ≤ most → false ≡ nat_lt most count
no_more most n count last less = go (nat_lt most count) refl
  where
    go : (b : Bool) → nat_lt most count ≡ b → false ≡ b
    go true e = let l = below_test most count e in absurd (omega (arith, l, last, less))
    go false e = refl
