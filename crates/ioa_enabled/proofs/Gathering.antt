-- The values of the places of an entry's action, one place after another.
use Rattle.std.proofs.Common.{◌≡◌, ℕ, zero, suc, ◌+◌, ◌<◌, ◌≤◌, ◌%◌, List, [], ◌∷◌, ◌++◌, All, length, map, take, Option, Some, None, refl, sym, ap, subst, ◌∙◌, arith}
use Rattle.std.specs.Prelude.{slice_get}
use Rattle.std.proofs.lemmas.List.{map-append, take_all}
use Rattle.std.proofs.lemmas.List.Elements.{All-head, All-tail}
use Rattle.ioa_value.specs.Actions.{Act}
use Rattle.ioa_value.specs.Plain.{Val}
use Rattle.ioa_value.proofs.ItemLemmas.{item_there}
use Rattle.ioa_compile.specs.Programs.{EntryCode}
use Rattle.ioa_enabled.specs.Sampled.{NeverAgain, HasWays, sampled, sampled_at, shown}
use Rattle.ioa_enabled.specs.Ways.{Values}
use Rattle.ioa_enabled.proofs.Giving.{IsSome, long_ways, some_ways, way_at}

-- what holds of all items holds of the one in a place
pub all_there : {X : Type 0} (P : X → Type 0) (cs : List X) (i : ℕ) (c : X) → All P cs → slice_get cs i ≡ Some c → P c
all_there P [] i c h e = absurd (cc)
all_there P (x ∷ xs) zero c h e = let q : x ≡ c = cc in subst P q (All-head P x xs h)
all_there P (x ∷ xs) (suc i) c h e = all_there P xs i c (All-tail P x xs h) e

take_suc : {X : Type 0} (xs : List X) (i : ℕ) (x : X) → slice_get xs i ≡ Some x → take (suc i) xs ≡ take i xs ++ x ∷ []
take_suc [] i x e = absurd (cc)
take_suc (y ∷ ys) zero x e = let q : y ≡ x = cc in ap (λ z. z ∷ []) q
take_suc (y ∷ ys) (suc i) x e = ap (λ zs. y ∷ zs) (take_suc ys i x e)

-- one item more, that stands in this place
pub take_there : {X : Type 0} (xs : List X) (i : ℕ) (x : X) → slice_get xs i ≡ Some x → take (i + 1) xs ≡ take i xs ++ x ∷ []
take_there xs i x e = let next : i + 1 ≡ suc i = omega arith in ap (λ n. take n xs) next ∙ take_suc xs i x e

-- the values of one place more
pub place_more : (most : ℕ) (cs : List Values) (place : ℕ) (c : Values) (vss : List (List Val)) (vs : List Val) → slice_get cs place ≡ Some c → vss ≡ map (shown most) (take place cs) → vs ≡ shown most c
    → vss ++ vs ∷ [] ≡ map (shown most) (take (place + 1) cs)
place_more most cs place c vss vs at so_far is =
    ap (λ us. us ++ vs ∷ []) so_far ∙ ap (λ u. map (shown most) (take place cs) ++ u ∷ []) is ∙ sym (map-append (shown most) (take place cs) (c ∷ []))
    ∙ ap (map (shown most)) (sym (take_there cs place c at))

-- what a place has, where the word 0 gives an action
pub record HasPlace (e : EntryCode) (s : List Val) (cs : List Values) (place : ℕ) : Type 0 where
  pub values : Values
  pub at : slice_get cs place ≡ Some values
  pub some : 0 < values.count
  pub apart : NeverAgain values
  pub gives : (word : ℕ) → sampled_at e s place word ≡ Some (values.value (word % values.count))

module _ (e : EntryCode) (s : List Val) (cs : List Values) (has : HasWays e s cs) (a : Act) (is : sampled e s 0 ≡ Some a) where
  pub place_has : (place : ℕ) → place < length a.vals → HasPlace e s cs place
  place_has place less =
      let long : length a.vals ≡ length cs = long_ways e s cs has 0 a is in
      let some = some_ways e s cs has 0 a is in
      let there = item_there cs place (omega (arith, long, less)) in
      record {
        values = there.0;
        at = there.1;
        some = all_there IsSome cs place there.0 some there.1;
        apart = all_there NeverAgain cs place there.0 has.apart there.1;
        gives = way_at e s cs has some place there.0 there.1;
      }

  -- those of all places
  pub all_places : (most place : ℕ) (vss : List (List Val)) → length a.vals ≤ place → vss ≡ map (shown most) (take place cs) → vss ≡ map (shown most) cs
  all_places most place vss last so_far =
      let long : length a.vals ≡ length cs = long_ways e s cs has 0 a is in
      let whole : length cs ≤ place = omega (arith, long, last) in
      so_far ∙ ap (map (shown most)) (take_all place cs whole)
