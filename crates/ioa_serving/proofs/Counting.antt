-- What watchers counted, in lines.
use Rattle.std.proofs.Common.{◌≡◌, ◌≤◌, ◌∙◌, ◌++◌, ◌∷◌, [], ℕ, zero, suc, Bool, true, false, List, Option, None, Some, IfSome, ap, arith, inl, inr, length, refl, slice_get}
use Rattle.std.proofs.lemmas.Bool.{false≢true}
use Rattle.std.specs.Borrow.{Bor}
use Rattle.std.specs.List.{zip}
use Rattle.std.specs.Option.{option_map}
use Rattle.ioa_value.specs.Actions.{Act, Name}
use Rattle.ioa_value.specs.Plain.{Val}
use Rattle.ioa_tree.specs.Runs.{Ending}
use Rattle.ioa_compile.specs.Programs.{Prog}
use Rattle.ioa_system.specs.Outcomes.{ending_of}
use Rattle.ioa_watch.specs.declared.watcher.Watcher.{Watcher}
use Rattle.ioa_watch.specs.Names.{names_of, shown}
use Rattle.ioa_watch.specs.Streaming.{HaveHeard}
use Rattle.ioa_watch.specs.Watched.{Watching}
use Rattle.ioa_watch.specs.Watchers.{HasHeard, heard_by, names_in, watching_of}
use Rattle.ioa_watch.proofs.Watchers.{refusal_is}
use Rattle.ioa_serving.specs.Counting.{MayTell, counted_lines, counted_text, counts_line, full_line, is_full, taken_text}

-- ---- a name with its count

pub zipped_at : {K : Type 0} (ns : List (Bor Name)) (ks : List K) (i : ℕ) (n : Bor Name) (k : K) → slice_get ns i ≡ Some n → slice_get ks i ≡ Some k → slice_get (zip (shown ns) ks) i ≡ Some (n.now, k)
zipped_at [] ks i n k d e = absurd (cc)
zipped_at (m ∷ ns) [] i n k d e = absurd (cc)
zipped_at (m ∷ ns) (j ∷ ks) zero n k d e = let a : m ≡ n = cc in let b : j ≡ k = cc in rw a (rw b refl)
zipped_at (m ∷ ns) (j ∷ ks) (suc i) n k d e = zipped_at ns ks i n k d e

pub zipped_few : {K : Type 0} (ns : List (Bor Name)) (ks : List K) → length (zip (shown ns) ks) ≤ length ns
zipped_few [] ks = omega arith
zipped_few (m ∷ ns) [] = omega arith
zipped_few (m ∷ ns) (j ∷ ks) = omega (arith, zipped_few ns ks)

-- ---- what one counted

module _ (p : Prog) (acts : List Act) (w : Watcher) (h : HasHeard p acts w) (x : Name) (ns : List Name) (ks : List ℕ) (k : ℕ) (o : Option Ending) where
  pub lines_are : x ≡ p.name → ns ≡ names_in w → ks ≡ (watching_of w).counts → k ≡ (watching_of w).others → o ≡ option_map ending_of w.refusal
      → counts_line x (taken_text ns ks) k ++ full_line x (is_full o) ≡ counted_lines acts p
  lines_are named names counts others refused =
      ap (λ y. counts_line y (taken_text ns ks) k ++ full_line y (is_full o)) named
      ∙ ap (λ ys. counts_line p.name (taken_text ys ks) k ++ full_line p.name (is_full o)) (names ∙ h.names)
      ∙ ap (λ js. counts_line p.name (taken_text (names_of p.members) js) k ++ full_line p.name (is_full o)) (counts ∙ ap (λ (v : Watching (List Val)). v.counts) h.kept)
      ∙ ap (λ j. counts_line p.name (taken_text (names_of p.members) (heard_by p acts).counts) j ++ full_line p.name (is_full o))
      (others ∙ ap (λ (v : Watching (List Val)). v.others) h.kept)
      ∙ ap (λ e. counts_line p.name (taken_text (names_of p.members) (heard_by p acts).counts) (heard_by p acts).others ++ full_line p.name (is_full e))
      (refused ∙ refusal_is p acts w h)

-- ---- whether it is told

pub told_none : (counts : Bool) (text : List ℕ) → MayTell counts text None
told_none true text = inl refl
told_none false text = refl

pub may_tell : {A : Type 0} (f : A → List ℕ) (counts : Bool) (ws : List Watcher) (o : Option A) → counts ≡ true
    → IfSome o (λ s. (ps : List Prog) (acts : List Act) → HaveHeard ps acts ws → f s ≡ counted_text ps acts)
    → (ps : List Prog) (acts : List Act) → HaveHeard ps acts ws → MayTell counts (counted_text ps acts) (option_map f o)
may_tell f true ws None asked told ps acts h = inl refl
may_tell f true ws (Some s) asked told ps acts h = inr (ap Some (told ps acts h))
may_tell f false ws o asked told ps acts h = absurd (false≢true asked)
