-- Lines by their numbers, and the lines that hold actions.
use Rattle.std.proofs.Common.{◌≡◌, ℕ, zero, suc, ◌+◌, ◌<◌, Bool, true, false, List, [], ◌∷◌, length, Option, Some, None, refl, sym, ap, subst, ◌∙◌, arith, inl, inr}
use Rattle.std.specs.Prelude.{◌-◌, ◌≤◌, drop, slice_get}
use Rattle.std.proofs.lemmas.List.{drop-drop}
use Rattle.ioa_value.specs.Actions.{Act}
use Rattle.ioa_value.specs.Lists.{ReadsLines, after_line, first_line, is_skipped, lines}
use Rattle.ioa_value.specs.Reads.{Reads}
use Rattle.ioa_value.specs.Table.{Table}
use Rattle.ioa_value.proofs.ListLemmas.{cut_lines}
use Rattle.ioa_value.proofs.SkippedLemmas.{unread}
use Rattle.ioa_account.specs.Lines.{ActionsHaveLines, line_holding}

-- ---- past the first line

-- behind the first of the lines that are left, there is one less
pub behind_more : (ls : List (List ℕ)) (rest after : List ℕ) (n : ℕ) → 0 < length rest → after ≡ after_line rest → lines rest ≡ drop n ls → lines after ≡ drop (n + 1) ls
behind_more ls rest after n long e behind = ap lines e ∙ ap (drop 1) (sym (cut_lines rest long) ∙ behind) ∙ drop-drop 1 n ls

drop-nil : (n : ℕ) → drop {A = List ℕ} n [] ≡ []
drop-nil zero = refl
drop-nil (suc n) = refl

-- where none is left, none stands behind more
pub behind_all : (ls : List (List ℕ)) (rest : List ℕ) (n m : ℕ) → n ≤ m → rest ≡ [] → lines rest ≡ drop n ls → lines rest ≡ drop m ls
behind_all ls rest n m few e behind =
    let none : drop n ls ≡ [] = sym behind ∙ ap lines e in
    let sum : n + (m - n) ≡ m = omega arith in
    ap lines e ∙ sym (ap (drop (m - n)) none ∙ drop-nil (m - n)) ∙ drop-drop (m - n) n ls ∙ ap (λ k. drop k ls) sum

-- the line behind so many is the first of those that are left, or there is none
first_left : (ls : List (List ℕ)) (n : ℕ) → slice_get (drop n ls) 0 ≡ slice_get ls n
first_left ls zero = refl
first_left [] (suc n) = refl
first_left (l ∷ ls) (suc n) = first_left ls n

pub line_left : (ls : List (List ℕ)) (rest line : List ℕ) (n : ℕ) → 0 < length rest → line ≡ first_line rest → lines rest ≡ drop n ls → Some line ≡ slice_get ls n
line_left ls rest line n long e behind =
    ap Some e ∙ ap (λ xs. slice_get xs 0) (sym (cut_lines rest long)) ∙ ap (λ xs. slice_get xs 0) behind ∙ first_left ls n

pub none_left : (ls : List (List ℕ)) (rest : List ℕ) (n : ℕ) → rest ≡ [] → lines rest ≡ drop n ls → None ≡ slice_get ls n
none_left ls rest n e behind = ap (λ r. slice_get (lines r) 0) (sym e) ∙ ap (λ xs. slice_get xs 0) behind ∙ first_left ls n

-- ---- the line that holds an action

holding_skipped : (n : ℕ) (l : List ℕ) (ls : List (List ℕ)) (i : ℕ) → is_skipped l ≡ true → line_holding n (l ∷ ls) i ≡ line_holding (n + 1) ls i
holding_skipped n l ls zero e = rw e refl
holding_skipped n l ls (suc i) e = rw e refl

holding_here : (n : ℕ) (l : List ℕ) (ls : List (List ℕ)) → is_skipped l ≡ false → line_holding n (l ∷ ls) zero ≡ Some n
holding_here n l ls e = rw e refl

holding_later : (n : ℕ) (l : List ℕ) (ls : List (List ℕ)) (i : ℕ) → is_skipped l ≡ false → line_holding n (l ∷ ls) (suc i) ≡ line_holding (n + 1) ls i
holding_later n l ls i e = rw e refl

module _ (rest : List ℕ) (n i : ℕ) (long : 0 < length rest) (o : Option ℕ) (so_far : o ≡ line_holding (n + 1) (lines rest) i) where
  cut : o ≡ line_holding (n + 1) (first_line rest ∷ lines (after_line rest)) i
  cut = so_far ∙ ap (λ ls. line_holding (n + 1) ls i) (cut_lines rest long)

  pub past_skipped : is_skipped (first_line rest) ≡ true → o ≡ line_holding (n + 1 + 1) (lines (after_line rest)) i
  past_skipped e = cut ∙ holding_skipped (n + 1) (first_line rest) (lines (after_line rest)) i e

  pub found_here : is_skipped (first_line rest) ≡ false → i ≡ 0 → Some (n + 1) ≡ o
  found_here e none =
      sym (cut ∙ ap (line_holding (n + 1) (first_line rest ∷ lines (after_line rest))) none ∙ holding_here (n + 1) (first_line rest) (lines (after_line rest)) e)

  pub past_action : is_skipped (first_line rest) ≡ false → (j : ℕ) → i ≡ suc j → o ≡ line_holding (n + 1 + 1) (lines (after_line rest)) j
  past_action e j one =
      cut ∙ ap (line_holding (n + 1) (first_line rest ∷ lines (after_line rest))) one ∙ holding_later (n + 1) (first_line rest) (lines (after_line rest)) j e

-- ---- it is the text of the action

not_skipped : (types : Table) (l : List ℕ) (a : Act) (b : Bool) → is_skipped l ≡ b → Reads types l a → b ≡ false
not_skipped types l a true e r = absurd (unread types l a e r)
not_skipped types l a false e r = refl

-- the line that holds the action of this index among these, from the number n on
abbrev Holds : Table → ℕ → List (List ℕ) → ℕ → Act → Type 0
Holds types n ls i a = (k : ℕ) × (l : List ℕ) × (line_holding n ls i ≡ Some (n + k)) × (slice_get ls k ≡ Some l) × Reads types l a

further : (types : Table) (n : ℕ) (l : List ℕ) (ls : List (List ℕ)) (i j : ℕ) (a : Act) → line_holding n (l ∷ ls) i ≡ line_holding (n + 1) ls j → Holds types (n + 1) ls j a
    → Holds types n (l ∷ ls) i a
further types n l ls i j a e (k, line, at, there, reads) =
    let next : n + 1 + k ≡ n + suc k = omega arith in
    (suc k, line, e ∙ at ∙ ap Some next, there, reads)

held : (types : Table) (n : ℕ) (ls : List (List ℕ)) (acts : List Act) (i : ℕ) (a : Act) → ReadsLines types ls acts → slice_get acts i ≡ Some a → Holds types n ls i a
held types n [] acts i a none at = let no : slice_get [] i ≡ Some a = ap (λ xs. slice_get xs i) (sym none) ∙ at in absurd (cc)
held types n (l ∷ ls) acts i a (inl r) at = further types n l ls i i a (holding_skipped n l ls i r.0) (held types (n + 1) ls acts i a r.1 at)
held types n (l ∷ ls) acts zero a (inr (b, rest, reads, r, e)) at =
    let first : Some b ≡ Some a = ap (λ xs. slice_get xs 0) (sym e) ∙ at in
    let same : b ≡ a = cc in
    let here : n ≡ n + 0 = omega arith in
    (0, l, holding_here n l ls (not_skipped types l b (is_skipped l) refl reads) ∙ ap Some here, refl, subst (Reads types l) same reads)
held types n (l ∷ ls) acts (suc i) a (inr (b, rest, reads, r, e)) at =
    further types n l ls (suc i) i a (holding_later n l ls i (not_skipped types l b (is_skipped l) refl reads))
    (held types (n + 1) ls rest i a r (ap (λ xs. slice_get xs (suc i)) (sym e) ∙ at))

pub actions_have_lines : ActionsHaveLines
actions_have_lines types text acts i a reads at =
    let w = held types 1 (lines text) acts i a reads at in
    let number : 1 + w.0 ≡ suc w.0 = omega arith in
    (suc w.0, w.1, w.2 ∙ ap Some number, w.3, w.4)
