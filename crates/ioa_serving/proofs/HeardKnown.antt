-- A specification that hears those of some actions that its components have.
use Rattle.std.proofs.Common.{◌≡◌, ◌≤◌, ◌∙◌, ◌++◌, ◌∷◌, [], ◌+◌, ℕ, Bool, true, false, not, cond, List, ap, arith, filter, length, length-append, append-nil}
use Rattle.std.specs.List.{list_any}
use Rattle.std.proofs.lemmas.List.Elements.{filter-append}
use Rattle.std.proofs.lemmas.List.Sums.{count_by-le-length, length-filter}
use Rattle.ioa_value.specs.Actions.{Act}
use Rattle.ioa_value.specs.Plain.{Val}
use Rattle.ioa_tree.specs.Components.{has}
use Rattle.ioa_compile.specs.Programs.{Prog}
use Rattle.ioa_compile.specs.Tables.{tabled}
use Rattle.ioa_watch.specs.Names.{names_of}
use Rattle.ioa_watch.specs.Watched.{Watching}
use Rattle.ioa_watch.specs.Watchers.{heard_by, names_in, watching_of}
use Rattle.ioa_watch.proofs.Watchers.{heard_few}
use Rattle.ioa_serving.specs.declared.log_counts.Known.{Known}
use Rattle.ioa_serving.specs.Counting.{taken_text}
use Rattle.ioa_serving.specs.LogCounts.{HasHeardKnown, counts_line, known_among, monitor_counts, passed_among}

-- one more, by whether it passes a test
filtered : {A : Type 0} (f : A → Bool) (xs : List A) (x : A) (b : Bool) → f x ≡ b → filter f (xs ++ x ∷ []) ≡ filter f xs ++ cond b (x ∷ []) []
filtered f xs x b e = filter-append f xs (x ∷ []) ∙ ap (λ t. filter f xs ++ cond t (x ∷ []) []) e

few : {A : Type 0} (f : A → Bool) (xs : List A) → length (filter f xs) ≤ length xs
few f xs = omega (arith, length-filter f xs, count_by-le-length f xs)

module _ (p : Prog) (acts : List Act) (a : Act) where
  pub known_more : list_any (has a) (tabled p) ≡ true → known_among p (acts ++ a ∷ []) ≡ known_among p acts ++ a ∷ []
  known_more e = filtered (λ b. list_any (has b) (tabled p)) acts a true e

  pub known_kept : list_any (has a) (tabled p) ≡ false → known_among p (acts ++ a ∷ []) ≡ known_among p acts
  known_kept e = filtered (λ b. list_any (has b) (tabled p)) acts a false e ∙ append-nil (known_among p acts)

  pub passed_more : list_any (has a) (tabled p) ≡ false → length (passed_among p (acts ++ a ∷ [])) ≡ length (passed_among p acts) + 1
  passed_more e =
      ap length (filtered (λ b. not (list_any (has b) (tabled p))) acts a true (ap not e)) ∙ length-append (passed_among p acts) (a ∷ [])

  pub passed_kept : list_any (has a) (tabled p) ≡ true → passed_among p (acts ++ a ∷ []) ≡ passed_among p acts
  passed_kept e = filtered (λ b. not (list_any (has b) (tabled p))) acts a false (ap not e) ∙ append-nil (passed_among p acts)

-- it counts no more than came
module _ (p : Prog) (acts : List Act) (k : Known) (h : HasHeardKnown p acts k) where
  pub heard_within : k.watcher.heard ≤ length acts
  heard_within =
      let one = heard_few p (known_among p acts) k.watcher h.heard in
      let all = few (λ b. list_any (has b) (tabled p)) acts in omega (arith, one, all)

  pub passed_within : k.passed ≤ length acts
  passed_within = let all = few (λ b. not (list_any (has b) (tabled p))) acts in omega (arith, h.passed, all)

  -- as it is told
  pub told : (x : List ℕ) (names : List (List ℕ)) (counts : List ℕ) → x ≡ p.name → names ≡ names_in k.watcher → counts ≡ (watching_of k.watcher).counts
      → counts_line x (taken_text names counts) k.passed ≡ monitor_counts p acts
  told x names counts named are is =
      ap (λ y. counts_line y (taken_text names counts) k.passed) named
      ∙ ap (λ ns. counts_line p.name (taken_text ns counts) k.passed) (are ∙ h.heard.names)
      ∙ ap (λ ks. counts_line p.name (taken_text (names_of p.members) ks) k.passed) (is ∙ ap (λ (w : Watching (List Val)). w.counts) h.heard.kept)
      ∙ ap (λ n. counts_line p.name (taken_text (names_of p.members) (heard_by p (known_among p acts)).counts) n) h.passed
