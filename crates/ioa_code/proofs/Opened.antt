-- The bodies that hold a place, kept from place to place: what the verifier holds in a list, with no search.
use Rattle.std.proofs.Common.{◌≡◌, ℕ, zero, suc, ◌+◌, ◌-◌, ◌<◌, ◌≤◌, Bool, true, false, List, [], ◌∷◌, ◌++◌, length, take, get_or, Some, None, refl, sym, ap, ◌∙◌, subst, arith, if◌then◌else◌}
use Rattle.std.specs.Prelude.{slice_get, nat_lt}
use Rattle.std.proofs.lemmas.List.{append-nil}
use Rattle.std.proofs.lemmas.Option.{slice_get-get_or}
use Rattle.std.proofs.Math.Seq.{take-suc}
use Rattle.std.proofs.lemmas.Bool.Decides.{nat_tests}
use Rattle.ioa_code.specs.declared.instr.Instr.{Instr}
use Rattle.ioa_code.specs.Loops.{past_at, around, bodies, first_of, kept, EndLater}
use Rattle.ioa_code.proofs.Bodies.{around_same, around_none, first_holds, first_last, none_holds, later_of}

module _ (instrs : List Instr) where
  -- at a later place some of them are left
  kept_around : (p q m : ℕ) → p ≤ q → kept instrs q (around instrs p m) ≡ around instrs q m
  kept_around p q zero le = refl
  kept_around p q (suc k) le = go (nat_lt p (past_at instrs k)) (nat_lt q (past_at instrs k)) refl refl (kept_around p q k le)
    where
      go : (a b : Bool) → nat_lt p (past_at instrs k) ≡ a → nat_lt q (past_at instrs k) ≡ b → kept instrs q (around instrs p k) ≡ around instrs q k → kept instrs q (if a then k ∷ around instrs p k else around instrs p k) ≡ (if b then k ∷ around instrs q k else around instrs q k)
      go true b s t e = ap (λ c. if c then k ∷ kept instrs q (around instrs p k) else kept instrs q (around instrs p k)) t ∙ ap (λ l. if b then k ∷ l else l) e
      go false false s t e = e
      go false true s t e = absurd (grind (arith, nat_tests))

  -- from one place to the next: its instruction may open one more, and some end
  pub opened : (p : ℕ) → bodies instrs (p + 1) ≡ kept instrs (p + 1) (p ∷ bodies instrs p)
  opened p =
      let n : p + 1 ≡ suc p = omega arith in
      ap (around instrs (p + 1)) n ∙ ap (λ l. if nat_lt (p + 1) (past_at instrs p) then p ∷ l else l) (sym (kept_around p (p + 1) p (omega arith)))

  -- the same with a list that has more, as one from which ended bodies are taken only as they come to the top
  pub opened_lazily : (p : ℕ) (ks : List ℕ) → kept instrs p ks ≡ bodies instrs p → kept instrs (p + 1) (p ∷ ks) ≡ bodies instrs (p + 1)
  opened_lazily p ks e =
      ap (λ l. if nat_lt (p + 1) (past_at instrs p) then p ∷ l else l) (sym (twice ks) ∙ ap (kept instrs (p + 1)) e) ∙ sym (opened p)
    where
      twice : (ks : List ℕ) → kept instrs (p + 1) (kept instrs p ks) ≡ kept instrs (p + 1) ks
      twice [] = refl
      twice (k ∷ ks) = go (nat_lt p (past_at instrs k)) (nat_lt (p + 1) (past_at instrs k)) refl refl (twice ks)
        where
          go : (a b : Bool) → nat_lt p (past_at instrs k) ≡ a → nat_lt (p + 1) (past_at instrs k) ≡ b → kept instrs (p + 1) (kept instrs p ks) ≡ kept instrs (p + 1) ks → kept instrs (p + 1) (if a then k ∷ kept instrs p ks else kept instrs p ks) ≡ (if b then k ∷ kept instrs (p + 1) ks else kept instrs (p + 1) ks)
          go true b s t e = ap (λ c. if c then k ∷ kept instrs (p + 1) (kept instrs p ks) else kept instrs (p + 1) (kept instrs p ks)) t ∙ ap (λ l. if b then k ∷ l else l) e
          go false false s t e = e
          go false true s t e = absurd (grind (arith, nat_tests))

  -- an ended body on top of such a list is of no use any more
  pub popped_lazily : (q k : ℕ) (ks : List ℕ) → past_at instrs k ≤ q → kept instrs q (k ∷ ks) ≡ kept instrs q ks
  popped_lazily q k ks le = let t : nat_lt q (past_at instrs k) ≡ false = grind (arith, nat_tests) in ap (λ b. if b then k ∷ kept instrs q ks else kept instrs q ks) t

  -- a later place is in the same bodies where these end later, and where the innermost one round it stands before the first place
  pub same_bodies : (p t : ℕ) → p ≤ t → EndLater instrs t (bodies instrs p) → ((k : ℕ) → first_of (bodies instrs t) ≡ Some k → k < p) → bodies instrs t ≡ bodies instrs p
  same_bodies p t le later first =
      let n : p + (t - p) ≡ t = omega arith in
      ap (around instrs t) (sym n)
      ∙ around_none instrs t p (t - p) (λ k a b h. no_inner k a (omega arith) h (bodies instrs t) refl)
      ∙ around_same instrs t p p (λ k lt h. omega arith) (λ k lt h. later_of instrs t p p later k lt h)
    where
      no_inner : (k : ℕ) → p ≤ k → k < t → t < past_at instrs k → (bs : List ℕ) → bodies instrs t ≡ bs → ⊥
      no_inner k a b h [] e = none_holds instrs t t e k b h
      no_inner k a b h (j ∷ js) e =
          let le = first_last instrs t t j js e k b h in
          let lt = first j (ap first_of e) in omega arith

  end_later_here : (p m : ℕ) → EndLater instrs p (around instrs p m)
  end_later_here p zero = tt
  end_later_here p (suc k) = go (nat_lt p (past_at instrs k)) refl (end_later_here p k)
    where
      go : (b : Bool) → nat_lt p (past_at instrs k) ≡ b → EndLater instrs p (around instrs p k) → EndLater instrs p (if b then k ∷ around instrs p k else around instrs p k)
      go true t h = (grind (arith, nat_tests), h)
      go false t h = h

  -- and only there
  pub bodies_same : (p t : ℕ) → bodies instrs t ≡ bodies instrs p → EndLater instrs t (bodies instrs p) × ((k : ℕ) → first_of (bodies instrs t) ≡ Some k → k < p)
  bodies_same p t e = (subst (EndLater instrs t) e (end_later_here t t), λ k h. before k (bodies instrs p) refl (ap first_of (sym e) ∙ h))
    where
      before : (k : ℕ) (bs : List ℕ) → bodies instrs p ≡ bs → first_of (bodies instrs p) ≡ Some k → k < p
      before k [] f h = let x : None ≡ Some k = ap first_of (sym f) ∙ h in absurd (cc)
      before k (j ∷ js) f h =
          let x : Some j ≡ Some k = ap first_of (sym f) ∙ h in
          let same : j ≡ k = cc in
          let lt = first_holds instrs p p j js f in
          let l = lt.0 in omega arith

-- ---- list by list

members : (instrs : List Instr) (p m i k : ℕ) → slice_get (around instrs p m) i ≡ Some k → k < m
members instrs p zero i k e = absurd (cc)
members instrs p (suc j) i k e = go (nat_lt p (past_at instrs j)) i e (λ n h. members instrs p j n k h)
  where
    go : (b : Bool) (i : ℕ) → slice_get (if b then j ∷ around instrs p j else around instrs p j) i ≡ Some k → ((n : ℕ) → slice_get (around instrs p j) n ≡ Some k → k < j) → k < suc j
    go true zero h more = let same : j ≡ k = cc in omega arith
    go true (suc n) h more = let lt = more n h in omega arith
    go false n h more = let lt = more n h in omega arith

-- each of them stands before the place
pub stands_before : (instrs : List Instr) (p i d : ℕ) (round : List ℕ) → round ≡ bodies instrs p → i < length round → get_or round i d < p
stands_before instrs p i d round e lt =
    members instrs p p i (get_or round i d) (ap (λ l. slice_get l i) (sym e) ∙ slice_get-get_or round i d lt)

kept_more : (instrs : List Instr) (q k : ℕ) (xs : List ℕ) → kept instrs q (xs ++ k ∷ []) ≡ kept instrs q xs ++ kept instrs q (k ∷ [])
kept_more instrs q k [] = refl
kept_more instrs q k (x ∷ xs) = go (nat_lt q (past_at instrs x)) (kept_more instrs q k xs)
  where
    go : (b : Bool) → kept instrs q (xs ++ k ∷ []) ≡ kept instrs q xs ++ kept instrs q (k ∷ []) → (if b then x ∷ kept instrs q (xs ++ k ∷ []) else kept instrs q (xs ++ k ∷ [])) ≡ (if b then x ∷ kept instrs q xs else kept instrs q xs) ++ kept instrs q (k ∷ [])
    go true e = ap (λ l. x ∷ l) e
    go false e = e

kept_one : (instrs : List Instr) (q k : ℕ) → q < past_at instrs k → kept instrs q (k ∷ []) ≡ k ∷ []
kept_one instrs q k lt = let t : nat_lt q (past_at instrs k) ≡ true = grind (arith, nat_tests) in ap (λ b. if b then k ∷ [] else []) t

kept_none : (instrs : List Instr) (q k : ℕ) → past_at instrs k ≤ q → kept instrs q (k ∷ []) ≡ []
kept_none instrs q k le = let t : nat_lt q (past_at instrs k) ≡ false = grind (arith, nat_tests) in ap (λ b. if b then k ∷ [] else []) t

-- one more of them
pub takes_one : (instrs : List Instr) (q p i d : ℕ) (round next : List ℕ) → next ≡ kept instrs q (p ∷ take i round) → i < length round → q < past_at instrs (get_or round i d) → next ++ get_or round i d ∷ [] ≡ kept instrs q (p ∷ take (i + 1) round)
takes_one instrs q p i d round next e lt at =
    let n : i + 1 ≡ suc i = omega arith in
    ap (λ l. l ++ get_or round i d ∷ []) e ∙ ap (λ l. kept instrs q (p ∷ take i round) ++ l) (sym (kept_one instrs q (get_or round i d) at))
    ∙ sym (kept_more instrs q (get_or round i d) (p ∷ take i round))
    ∙ ap (λ l. kept instrs q (p ∷ l)) (sym (take-suc round i d lt)) ∙ ap (λ m. kept instrs q (p ∷ take m round)) (sym n)

pub skips_one : (instrs : List Instr) (q p i d : ℕ) (round next : List ℕ) → next ≡ kept instrs q (p ∷ take i round) → i < length round → past_at instrs (get_or round i d) ≤ q → next ≡ kept instrs q (p ∷ take (i + 1) round)
skips_one instrs q p i d round next e lt le =
    let n : i + 1 ≡ suc i = omega arith in
    e ∙ sym (append-nil (kept instrs q (p ∷ take i round))) ∙ ap (λ l. kept instrs q (p ∷ take i round) ++ l) (sym (kept_none instrs q (get_or round i d) le))
    ∙ sym (kept_more instrs q (get_or round i d) (p ∷ take i round))
    ∙ ap (λ l. kept instrs q (p ∷ l)) (sym (take-suc round i d lt)) ∙ ap (λ m. kept instrs q (p ∷ take m round)) (sym n)

pub ends_open : (instrs : List Instr) (p : ℕ) (round : List ℕ) → round ≡ bodies instrs p → kept instrs (p + 1) (p ∷ round) ≡ bodies instrs (p + 1)
ends_open instrs p round e = ap (λ l. kept instrs (p + 1) (p ∷ l)) e ∙ sym (opened instrs p)

pub stands_at : (instrs : List Instr) (p i k : ℕ) (round : List ℕ) → round ≡ bodies instrs p → slice_get round i ≡ Some k → k < p
stands_at instrs p i k round e at = members instrs p p i k (ap (λ l. slice_get l i) (sym e) ∙ at)
