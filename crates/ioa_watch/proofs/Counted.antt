-- Actions that are counted one after another are as many as the whole list has.
use Rattle.std.proofs.Common.{◌≡◌, ◌≤◌, ◌<◌, ℕ, suc, ◌+◌, ◌==◌, Bool, true, false, not, ◌||◌, cond, List, [], ◌∷◌, Option, None, Some, length, take, get_or, count_by, slice_get, refl, sym, ap, subst, ◌∙◌, arith, length-set}
use Rattle.std.specs.Str.{bytes_eq}
use Rattle.std.proofs.lemmas.Bool.{eq-eqb, eqb-true, eqb-false, false≢true}
use Rattle.std.proofs.lemmas.Grind.{get_or-set_at}
use Rattle.std.proofs.lemmas.List.{get_or-set_other, get_or-replicate, length-replicate}
use Rattle.std.proofs.lemmas.List.Sums.{sum_by-cons}
use Rattle.std.proofs.lemmas.Option.{same_Some, slice_get-get_or, slice_get_within}
use Rattle.ioa_value.specs.Actions.{Name, Act}
use Rattle.ioa_value.specs.Table.{contains, distinct, place_from}
use Rattle.ioa_value.proofs.NameLemmas.{first_there, own_name, place_inside, place_is, same_name}
use Rattle.ioa_value.proofs.PlaceLemmas.{place_from_below}
use Rattle.ioa_tree.specs.Components.{Component}
use Rattle.ioa_tree.specs.Steps.{Moved, next, not_an_action, not_enabled, fault, step}
use Rattle.ioa_tree.specs.Runs.{Ending}
use Rattle.ioa_watch.specs.Counted.{CountsOf, is_of}
use Rattle.ioa_watch.specs.Watched.{Watching, answered, hearing_all, one_more, starting, tried}
use Rattle.ioa_watch.proofs.Hearing.{hearing_still_all, hearing_tried}

abbrev is_place : ℕ → Option ℕ → Bool
is_place i None = false
is_place i (Some j) = j == i

abbrev one_if : Bool → ℕ
one_if b = cond b 1 0

-- a name without a place is none of these
pub no_place : (i : ℕ) (ns : List Name) (x : Name) → place_from i ns x ≡ None → contains ns x ≡ false
no_place i [] x e = refl
no_place i (n ∷ ns) x e = go (bytes_eq n x) e (no_place (i + 1) ns x)
  where
    go : (b : Bool) → cond b (Some i) (place_from (i + 1) ns x) ≡ None → (place_from (i + 1) ns x ≡ None → contains ns x ≡ false) → (b || contains ns x) ≡ false
    go true e r = absurd (cc)
    go false e r = r e

one_more_at : (i j : ℕ) (ks : List ℕ) → j < length ks → get_or (one_more j ks) i 0 ≡ get_or ks i 0 + one_if (j == i)
one_more_at i j ks l = go (j == i) refl
  where
    go : (b : Bool) → (j == i) ≡ b → get_or (one_more j ks) i 0 ≡ get_or ks i 0 + one_if b
    go true e =
        let same : i ≡ j = sym (eqb-true j i e) in
        get_or-set_at ks j i (get_or ks j 0 + 1) 0 same l ∙ ap (λ k. get_or ks k 0 + 1) (sym same)
    go false e = get_or-set_other ks j i (get_or ks j 0 + 1) 0 (λ s. eqb-false j i e (sym s)) ∙ omega arith

module _ (names : List Name) where
  abbrev is_at : ℕ → Act → Bool
  is_at i a = is_place i (place_from 0 names a.name)

  abbrev is_other : Act → Bool
  is_other a = not (contains names a.name)

  -- from here to there, so many of these actions came
  record Counts {S : Type 0} (acts : List Act) (w v : Watching S) : Type 0 where
    n : ℕ
    within : n ≤ length acts
    heard : v.heard ≡ w.heard + n
    places : length v.counts ≡ length w.counts
    counts : (i : ℕ) → get_or v.counts i 0 ≡ get_or w.counts i 0 + count_by (is_at i) (take n acts)
    others : v.others ≡ w.others + count_by is_other (take n acts)
    whole : v.refusal ≡ None → n ≡ length acts

  counts_more : {S : Type 0} (a : Act) (acts : List Act) (w u v : Watching S) → Counts acts u v → u.heard ≡ w.heard + 1 → length u.counts ≡ length w.counts
      → ((i : ℕ) → get_or u.counts i 0 ≡ get_or w.counts i 0 + one_if (is_at i a)) → u.others ≡ w.others + one_if (is_other a) → Counts (a ∷ acts) w v
  counts_more a acts w u v h heard places counts others = record {
    n = suc h.n;
    within = omega (arith, h.within);
    heard = omega (arith, h.heard, heard);
    places = h.places ∙ places;
    counts = λ i. omega (arith, h.counts i, counts i, sum_by-cons (λ b. cond (is_at i b) 1 0) a (take h.n acts));
    others = omega (arith, h.others, others, sum_by-cons (λ b. cond (is_other b) 1 0) a (take h.n acts));
    whole = λ k. omega (arith, h.whole k);
  }

  -- none came
  counts_none : {S : Type 0} (acts : List Act) (w v : Watching S) → v.heard ≡ w.heard → v.counts ≡ w.counts → v.others ≡ w.others
      → (v.refusal ≡ None → length acts ≡ 0) → Counts acts w v
  counts_none acts w v heard counts others whole = record {
    n = 0;
    within = omega arith;
    heard = omega (arith, heard);
    places = ap length counts;
    counts = λ i. ap (λ ks. get_or ks i 0) counts ∙ omega arith;
    others = omega (arith, others);
    whole = λ k. sym (whole k);
  }

  module _ {S : Type 0} (ps : List (Component S)) where
    counts_all : (acts : List Act) (w : Watching S) → w.refusal ≡ None → length w.counts ≡ length names → Counts acts w (hearing_all names ps acts w)
    counts_all [] w k long = counts_none [] w w refl refl refl (λ _. refl)
    counts_all (a ∷ acts) w k long =
        subst (λ u. Counts (a ∷ acts) w (hearing_all names ps acts u)) (sym (hearing_tried names ps a w k))
        (by_place (place_from 0 names a.name) refl (λ u. counts_all acts u))
      where
        refused : (u : Watching S) (e : Ending) → u.refusal ≡ Some e → u.heard ≡ w.heard → u.counts ≡ w.counts → u.others ≡ w.others
            → Counts (a ∷ acts) w (hearing_all names ps acts u)
        refused u e r heard counts others =
            subst (λ v. Counts (a ∷ acts) w v) (sym (hearing_still_all names ps acts u e r))
            (counts_none (a ∷ acts) w u heard counts others (λ none. absurd (cc)))

        by_step : (i : ℕ) → place_from 0 names a.name ≡ Some i → (m : Moved S)
            → ((u : Watching S) → u.refusal ≡ None → length u.counts ≡ length names → Counts acts u (hearing_all names ps acts u))
            → Counts (a ∷ acts) w (hearing_all names ps acts (answered i m w))
        by_step i e (next ss) more =
            let below = place_from_below 0 names a.name i e in
            let there : contains names a.name ≡ true = place_inside 0 names a.name i e in
            let places : length (one_more i w.counts) ≡ length w.counts = length-set w.counts i (get_or w.counts i 0 + 1) in
            counts_more a acts w (answered i (next ss) w) (hearing_all names ps acts (answered i (next ss) w)) (more (answered i (next ss) w) k (places ∙ long)) refl places
            (λ j. one_more_at j i w.counts (omega (arith, below.1, long)) ∙ ap (λ o. get_or w.counts j 0 + one_if (is_place j o)) (sym e))
            (let none : one_if (is_other a) ≡ 0 = ap (λ b. one_if (not b)) there in omega (arith, none))
        by_step i e not_an_action more = refused (answered i not_an_action w) _ refl refl refl refl
        by_step i e not_enabled more = refused (answered i not_enabled w) _ refl refl refl refl
        by_step i e (fault c f) more = refused (answered i (fault c f) w) _ refl refl refl refl

        by_place : (o : Option ℕ) → place_from 0 names a.name ≡ o
            → ((u : Watching S) → u.refusal ≡ None → length u.counts ≡ length names → Counts acts u (hearing_all names ps acts u))
            → Counts (a ∷ acts) w (hearing_all names ps acts (tried names ps o a w))
        by_place (Some i) e more = by_step i e (step ps a w.states) more
        by_place None e more =
            let u : Watching S = tried names ps None a w in
            let absent : contains names a.name ≡ false = no_place 0 names a.name e in
            counts_more a acts w u (hearing_all names ps acts u) (more u k long) refl refl
            (λ j. let none : one_if (is_at j a) ≡ 0 = ap (λ o. one_if (is_place j o)) e in omega (arith, none))
            (let other : one_if (is_other a) ≡ 1 = ap (λ b. one_if (not b)) absent in omega (arith, other))

-- ---- by names

same_counts : (p q : Act → Bool) → ((a : Act) → p a ≡ q a) → (acts : List Act) → count_by p acts ≡ count_by q acts
same_counts p q h [] = refl
same_counts p q h (a ∷ acts) =
    sum_by-cons (λ b. cond (p b) 1 0) a acts ∙ ap (λ b. one_if b + count_by p acts) (h a) ∙ ap (λ n. one_if (q a) + n) (same_counts p q h acts)
    ∙ sym (sum_by-cons (λ b. cond (q b) 1 0) a acts)

-- an action has the name that stands in a place exactly where its own is found there
place_of_name : (names : List Name) (i : ℕ) (x : Name) → distinct names ≡ true → slice_get names i ≡ Some x → (a : Act) → is_at names i a ≡ is_of x a
place_of_name names i x d e a = by (bytes_eq x a.name) refl
  where
    here : (o : Option ℕ) → place_from 0 names a.name ≡ o → bytes_eq x a.name ≡ false → is_place i o ≡ false
    here None k f = refl
    here (Some j) k f = go (j == i) refl
      where
        go : (b : Bool) → (j == i) ≡ b → b ≡ false
        go false t = refl
        go true t =
            let p = place_is 0 names a.name j k in
            let same : p.0 ≡ i = omega (arith, p.1, eqb-true j i t) in
            let found : Some x ≡ Some a.name = sym e ∙ ap (slice_get names) (sym same) ∙ p.2 in
            let named : x ≡ a.name = same_Some x a.name found in
            absurd (false≢true (sym f ∙ ap (bytes_eq x) (sym named) ∙ own_name x))

    by : (b : Bool) → bytes_eq x a.name ≡ b → is_at names i a ≡ b
    by true t =
        ap (λ y. is_place i (place_from 0 names y)) (sym (same_name x a.name t)) ∙ ap (is_place i) (first_there names i x d e) ∙ eq-eqb i i refl
    by false f = here (place_from 0 names a.name) refl f

module _ {S : Type 0} (names : List Name) (ps : List (Component S)) where
  pub counts_of : distinct names ≡ true → (acts : List Act) (ss : List S) → CountsOf names acts (hearing_all names ps acts (starting names ss))
  counts_of d acts ss =
      let w : Watching S = starting names ss in
      let v : Watching S = hearing_all names ps acts w in
      let h = counts_all names ps acts w refl (length-replicate (length names) 0) in
      let n : h.n ≡ v.heard = omega (arith, h.heard) in
      let places : length v.counts ≡ length names = h.places ∙ length-replicate (length names) 0 in
      record {
        within = omega (arith, h.within, n);
        places = places;
        counts = λ i x e.
            let below : i < length names = slice_get_within names i x e in
            let zeros : get_or w.counts i 0 ≡ 0 = get_or-replicate (length names) i 0 0 below in
            let got : get_or v.counts i 0 ≡ count_by (is_at names i) (take h.n acts) = omega (arith, h.counts i, zeros) in
            slice_get-get_or v.counts i 0 (omega (arith, below, places))
            ∙ ap Some (got ∙ same_counts (is_at names i) (is_of x) (place_of_name names i x d e) (take h.n acts) ∙ ap (λ m. count_by (is_of x) (take m acts)) n);
        others = omega (arith, h.others) ∙ ap (λ m. count_by (is_other names) (take m acts)) n;
        whole = λ k. sym n ∙ h.whole k;
      }
