-- Each text is an action's or no action's, and each list text is one list or has a bad line.
use Rattle.std.proofs.Common.{◌≡◌, ◌⊎◌, ℕ, zero, suc, ◌+◌, ◌<◌, ◌≤◌, Bool, true, false, ◌==◌, List, [], ◌∷◌, ◌++◌, length, Option, Some, None, All, refl, sym, ap, subst, ◌∙◌, arith, inl, inr}
use Rattle.std.specs.List.{list_all}
use Rattle.std.proofs.lemmas.Bool.{cases_Bool, false≢true}
use Rattle.std.proofs.lemmas.List.Elements.{All-nil, All-cons}
use Rattle.ioa_value.specs.Plain.{Val}
use Rattle.ioa_value.specs.Table.{Table, AreTypes}
use Rattle.ioa_value.specs.Actions.{Act}
use Rattle.ioa_value.specs.Names.{is_name}
use Rattle.ioa_value.specs.Reads.{is_blank, ReadsArguments, ReadsValues, Reads}
use Rattle.ioa_value.specs.Tokens.{first_word, after_first}
use Rattle.ioa_value.specs.Scanning.{scan_value}
use Rattle.ioa_value.specs.Lists.{lines, is_skipped, ReadsLines, ReadsList, IsLine, BadLine}
use Rattle.ioa_value.proofs.SameLemmas.{equal, equal_numbers}
use Rattle.ioa_value.proofs.ReadLemmas.{at_start, stops, no_value, no_mark, no_end, last_value, next_value, shorter}
use Rattle.ioa_value.proofs.ActionLemmas.{named, reads}

-- there is one, or none
abbrev Settled : {X : Type 0} → (X → Type 0) → Type 0
Settled {X} P = ((x : X) × P x) ⊎ ((x : X) → P x → ⊥)

module _ (types : Table) (declared : AreTypes types) where
  -- ---- values

  -- the values of a text, where those of shorter ones are settled
  more_values : (text : List ℕ) → ((after : List ℕ) → length after < length text → Settled (ReadsValues types after)) → Settled (ReadsValues types text)
  more_values text later = by_first (scan_value types text) refl
    where
      by_blank : (v : Val) (rest after : List ℕ) → scan_value types text ≡ Some (v, rest) → rest ≡ 41 ∷ after → (list_all is_blank after ≡ true) ⊎ (list_all is_blank after ≡ false) → Settled (ReadsValues types text)
      by_blank v rest after s e (inl b) =
          inl (v ∷ [], last_value types declared text text [] v rest after (at_start types text) s e b)
      by_blank v rest after s e (inr full) =
          inr (no_end types declared text v rest after s e (λ b. false≢true (sym full ∙ b)))

      by_rest : (v : Val) (rest after : List ℕ) → scan_value types text ≡ Some (v, rest) → rest ≡ 44 ∷ after → Settled (ReadsValues types after) → Settled (ReadsValues types text)
      by_rest v rest after s e (inl r) =
          let h = next_value types declared text text [] v rest after (at_start types text) s e in
          inl (v ∷ r.0, h.sound r.0 r.1)
      by_rest v rest after s e (inr none) =
          inr (stops types text after (v ∷ []) (next_value types declared text text [] v rest after (at_start types text) s e) none)

      by_mark : (v : Val) (rest : List ℕ) → scan_value types text ≡ Some (v, rest) → (b : ℕ) (after : List ℕ) → rest ≡ b ∷ after → (close comma : Bool) → (b == 41) ≡ close → (b == 44) ≡ comma → Settled (ReadsValues types text)
      by_mark v rest s b after e true comma f g =
          by_blank v rest after s (e ∙ ap (λ x. x ∷ after) (equal_numbers b 41 f)) (cases_Bool (list_all is_blank after))
      by_mark v rest s b after e false true f g =
          let is : rest ≡ 44 ∷ after = e ∙ ap (λ x. x ∷ after) (equal_numbers b 44 g) in
          by_rest v rest after s is (later after (shorter types declared text v rest 44 after s is))
      by_mark v rest s b after e false false f g =
          inr (no_mark types declared text v rest s (λ rest k. differs 41 f (sym e ∙ k)) (λ rest k. differs 44 g (sym e ∙ k)))
        where
          differs : (m : ℕ) {rest : List ℕ} → (b == m) ≡ false → b ∷ after ≡ m ∷ rest → ⊥
          differs m h k = let same : b ≡ m = cc in false≢true (sym h ∙ equal b m same)

      by_word : (v : Val) (rest : List ℕ) → scan_value types text ≡ Some (v, rest) → (r : List ℕ) → rest ≡ r → Settled (ReadsValues types text)
      by_word v rest s [] e =
          inr (no_mark types declared text v rest s (λ after k. nothing (sym e ∙ k)) (λ after k. nothing (sym e ∙ k)))
        where
          nothing : {b : ℕ} {after : List ℕ} → [] ≡ b ∷ after → ⊥
          nothing k = cc
      by_word v rest s (b ∷ after) e = by_mark v rest s b after e (b == 41) (b == 44) refl refl

      by_first : (o : Option (Val × List ℕ)) → scan_value types text ≡ o → Settled (ReadsValues types text)
      by_first (Some p) s = by_word p.0 p.1 s p.1 refl
      by_first None s = inr (no_value types declared text s)

  values_up_to : (n : ℕ) (text : List ℕ) → length text ≤ n → Settled (ReadsValues types text)
  values_up_to zero text le = more_values text (λ after lt. absurd (omega arith))
  values_up_to (suc n) text le = more_values text (λ after lt. values_up_to n after (omega arith))

  spelled_values : (text : List ℕ) → Settled (ReadsValues types text)
  spelled_values text = values_up_to (length text) text (omega arith)

  -- ---- actions

  spelled_arguments : (text : List ℕ) → Settled (ReadsArguments types text)
  spelled_arguments [] = inl ([], refl)
  spelled_arguments (b ∷ rest) = go (b == 40) refl (spelled_values rest)
    where
      none : (b ≡ 40 → (vs : List Val) → ReadsValues types rest vs → ⊥) → (vs : List Val) → ReadsArguments types (b ∷ rest) vs → ⊥
      none h [] r = cc
      none h (v ∷ vs) (inside, r, e) =
          let first : b ≡ 40 = cc in
          let same : inside ≡ rest = cc in
          h first (v ∷ vs) (subst (λ x. ReadsValues types x (v ∷ vs)) same r)

      go : (t : Bool) → (b == 40) ≡ t → Settled (ReadsValues types rest) → Settled (ReadsArguments types (b ∷ rest))
      go true e (inl ([], r)) = absurd r
      go true e (inl (v ∷ vs, r)) = inl (v ∷ vs, (rest, r, ap (λ x. x ∷ rest) (equal_numbers b 40 e)))
      go true e (inr h) = inr (none (λ first. h))
      go false e d = inr (none (λ first. absurd (false≢true (sym e ∙ equal b 40 first))))

  spelled_action : (text : List ℕ) → Settled (Reads types text)
  spelled_action text = go (cases_Bool (is_name (first_word text))) (spelled_arguments (after_first text))
    where
      go : (is_name (first_word text) ≡ true) ⊎ (is_name (first_word text) ≡ false) → Settled (ReadsArguments types (after_first text)) → Settled (Reads types text)
      go (inl n) (inl r) =
          let a : Act = record { name = first_word text; vals = r.0 } in
          inl (a, reads types text a n refl r.1)
      go (inl n) (inr none) = inr (λ a r. none a.vals (named types text a r).arguments)
      go (inr no_name) d =
          inr (λ a r. let n = named types text a r in false≢true (sym no_name ∙ ap is_name n.name ∙ n.legal))

  -- ---- lists

  line : (l : List ℕ) → IsLine types l ⊎ (IsLine types l → ⊥)
  line l = go (cases_Bool (is_skipped l)) (spelled_action l)
    where
      none : is_skipped l ≡ false → ((a : Act) → Reads types l a → ⊥) → IsLine types l → ⊥
      none s h (inl k) = false≢true (sym s ∙ k)
      none s h (inr (a, r)) = h a r

      go : (is_skipped l ≡ true) ⊎ (is_skipped l ≡ false) → Settled (Reads types l) → IsLine types l ⊎ (IsLine types l → ⊥)
      go (inl s) d = inl (inl s)
      go (inr s) (inl r) = inl (inr r)
      go (inr s) (inr h) = inr (none s h)

  -- some line is the first that is neither skipped nor an action's text
  abbrev HasBad : List (List ℕ) → Type 0
  HasBad ls =
      (before : List (List ℕ)) × (bad : List ℕ) × (after : List (List ℕ)) × All (IsLine types) before × (IsLine types bad → ⊥) × (ls ≡ before ++ bad ∷ after)

  all_lines : (ls : List (List ℕ)) → ((acts : List Act) × ReadsLines types ls acts) ⊎ HasBad ls
  all_lines [] = inl ([], refl)
  all_lines (l ∷ ls) = go (line l) (all_lines ls)
    where
      go : IsLine types l ⊎ (IsLine types l → ⊥) → ((acts : List Act) × ReadsLines types ls acts) ⊎ HasBad ls → ((acts : List Act) × ReadsLines types (l ∷ ls) acts) ⊎ HasBad (l ∷ ls)
      go (inr bad) d = inr ([], l, ls, All-nil (IsLine types), bad, refl)
      go (inl (inl s)) (inl (acts, r)) = inl (acts, inl (s, r))
      go (inl (inr (a, r))) (inl (acts, rs)) = inl (a ∷ acts, inr (a, acts, r, rs, refl))
      go (inl here) (inr (before, bad, after, h, none, e)) =
          inr (l ∷ before, bad, after, All-cons (IsLine types) l before here h, none, ap (λ x. l ∷ x) e)

  pub list_or_bad_line : (text : List ℕ) → ((acts : List Act) × ReadsList types text acts) ⊎ ((n : ℕ) × BadLine types text n)
  list_or_bad_line text = go (all_lines (lines text))
    where
      go : ((acts : List Act) × ReadsLines types (lines text) acts) ⊎ HasBad (lines text) → ((acts : List Act) × ReadsList types text acts) ⊎ ((n : ℕ) × BadLine types text n)
      go (inl r) = inl r
      go (inr (before, bad, after, h, none, e)) =
          inr (length before + 1, (before, bad, after, h, none, e, refl))
