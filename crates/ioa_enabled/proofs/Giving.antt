-- What code gives by equal words, and its values.
use Rattle.std.proofs.Common.{◌≡◌, ◌≢◌, ℕ, zero, suc, ◌*◌, ◌<◌, ◌≤◌, ◌%◌, List, [], ◌∷◌, All, length, map, take, Option, Some, None, refl, sym, ap, ap₂, subst, ◌∙◌, arith}
use Rattle.std.specs.Prelude.{slice_get}
use Rattle.std.specs.Option.{option_and_then, option_map}
use Rattle.std.proofs.lemmas.List.{length-map}
use Rattle.std.proofs.lemmas.List.Elements.{All-cons, All-head, All-nil, All-tail}
use Rattle.ioa_value.specs.Actions.{Act, Name}
use Rattle.ioa_value.specs.Plain.{Val}
use Rattle.ioa_value.proofs.ItemLemmas.{image_at}
use Rattle.ioa_code.specs.Valid.{Part}
use Rattle.ioa_parts.specs.Proposals.{proposal_of}
use Rattle.ioa_compile.specs.Programs.{EntryCode}
use Rattle.ioa_run.specs.Proposers.{action_with}
use Rattle.ioa_enabled.specs.Sampled.{NeverAgain, HasWays, all_by_word, both, by_count, by_word, each_word, named, sampled, sampled_at, sampled_by}
use Rattle.ioa_enabled.specs.Ways.{Values, total}

pub sampled_is : (e : EntryCode) (part : Part) (s : List Val) (word : ℕ) (r : Option (List Val)) → e.propose ≡ Some part → r ≡ proposal_of part s (each_word word)
    → option_map (action_with e) r ≡ sampled e s word
sampled_is e part s word r p g = ap (option_map (action_with e)) g ∙ sym (ap (λ o. option_map (action_with e) (sampled_by o s word)) p)

-- ---- how many values there are, where a word gives some

abbrev pub IsSome : Values → Type 0
IsSome c = 0 < c.count

-- the values that the word gives
abbrev pub given : ℕ → List Values → List Val
given word cs = map (λ (c : Values). c.value (word % c.count)) cs

by_some : (n : ℕ) (v : Val) → 0 < n → by_count n v ≡ Some v
by_some zero v some = absurd (omega (arith, some))
by_some (suc n) v some = refl

counted : (n : ℕ) (v w : Val) → by_count n v ≡ Some w → 0 < n
counted zero v w e = absurd (cc)
counted (suc n) v w e = omega arith

both_some : (o : Option Val) (q : Option (List Val)) (vs : List Val) → both o q ≡ Some vs → (v : Val) × (us : List Val) × (o ≡ Some v) × (q ≡ Some us)
both_some None q vs e = absurd (cc)
both_some (Some v) None vs e = absurd (cc)
both_some (Some v) (Some us) vs e = (v, us, refl, refl)

pub all_some : (word : ℕ) (cs : List Values) (vs : List Val) → all_by_word word cs ≡ Some vs → All IsSome cs
all_some word [] vs e = All-nil IsSome
all_some word (c ∷ cs) vs e =
    let q = both_some (by_word word c) (all_by_word word cs) vs e in
    All-cons IsSome c cs (counted c.count (c.value (word % c.count)) q.0 q.2) (all_some word cs q.1 q.3)

pub all_given : (word : ℕ) (cs : List Values) → All IsSome cs → all_by_word word cs ≡ Some (given word cs)
all_given word [] some = refl
all_given word (c ∷ cs) some =
    ap₂ both (by_some c.count (c.value (word % c.count)) (All-head IsSome c cs some)) (all_given word cs (All-tail IsSome c cs some))

no_times : (n : ℕ) → 0 * n ≡ 0
no_times n = omega arith

no_product : (n : ℕ) → n * 0 ≡ 0
no_product n = omega arith

-- where a word gives none, there are none
pub none_given : (word : ℕ) (cs : List Values) → all_by_word word cs ≡ None → total cs ≡ 0
none_given word [] e = absurd (cc)
none_given word (c ∷ cs) e = go (λ g. none_given word cs g) (by_word word c) refl (all_by_word word cs) refl
  where
    no_count : (n : ℕ) (v : Val) → by_count n v ≡ None → n ≡ 0
    no_count zero v e = refl
    no_count (suc n) v e = absurd (cc)

    go : (all_by_word word cs ≡ None → total cs ≡ 0) → (o : Option Val) → by_word word c ≡ o → (q : Option (List Val)) → all_by_word word cs ≡ q → c.count * total cs ≡ 0
    go rest None f q g = ap (λ n. n * total cs) (no_count c.count (c.value (word % c.count)) f) ∙ no_times (total cs)
    go rest (Some v) f None g = ap (λ n. c.count * n) (rest g) ∙ no_product c.count
    go rest (Some v) f (Some vs) g =
        let z : None ≡ Some (v ∷ vs) = sym e ∙ ap₂ both f g in absurd (cc)

-- ---- the entry's ways

no_action : (x : Name) (o : Option (List Val)) → option_map (named x) o ≡ None → o ≡ None
no_action x None e = refl
no_action x (Some vs) e = absurd (cc)

an_action : (x : Name) (o : Option (List Val)) (a : Act) → option_map (named x) o ≡ Some a → o ≡ Some a.vals
an_action x None a e = absurd (cc)
an_action x (Some vs) a e = let q : named x vs ≡ a = cc in ap Some (ap (λ (b : Act). b.vals) q)

module _ (e : EntryCode) (s : List Val) (cs : List Values) (has : HasWays e s cs) where
  pub no_ways : (word : ℕ) → sampled e s word ≡ None → total cs ≡ 0
  no_ways word none = none_given word cs (no_action e.name (all_by_word word cs) (sym (has.gives word) ∙ none))

  pub some_ways : (word : ℕ) (a : Act) → sampled e s word ≡ Some a → All IsSome cs
  some_ways word a is = all_some word cs a.vals (an_action e.name (all_by_word word cs) a (sym (has.gives word) ∙ is))

  pub long_ways : (word : ℕ) (a : Act) → sampled e s word ≡ Some a → length a.vals ≡ length cs
  long_ways word a is =
      let some = some_ways word a is in
      let vals : Some (given word cs) ≡ Some a.vals = sym (all_given word cs some) ∙ an_action e.name (all_by_word word cs) a (sym (has.gives word) ∙ is) in
      let same : given word cs ≡ a.vals = cc in
      ap length (sym same) ∙ length-map cs (λ (c : Values). c.value (word % c.count))

  -- the value in a place
  pub way_at : All IsSome cs → (place : ℕ) (c : Values) → slice_get cs place ≡ Some c → (word : ℕ) → sampled_at e s place word ≡ Some (c.value (word % c.count))
  way_at some place c at word =
      ap (option_and_then (λ (a : Act). slice_get a.vals place)) (has.gives word ∙ ap (option_map (named e.name)) (all_given word cs some))
      ∙ image_at (λ (x : Values). x.value (word % x.count)) cs place c at
