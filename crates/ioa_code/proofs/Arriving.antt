-- What is pending at each place is what the scan has brought there.
use Rattle.std.proofs.Common.{◌≡◌, ◌≢◌, ℕ, zero, suc, ◌+◌, ◌<◌, ◌≤◌, ◌==◌, ◌⊎◌, inl, inr, ⊎_elim, Bool, true, false, List, [], ◌∷◌, ◌++◌, length, length-set, get_or, drop, map, Option, Some, None, Result, Ok, Err, refl, sym, ap, ◌∙◌, subst, arith, if◌then◌else◌}
use Rattle.std.specs.Prelude.{slice_get, slice_set, ◌&&◌, nat_lt, nat_le}
use Rattle.std.proofs.lemmas.Bool.{cases_lt}
use Rattle.std.proofs.lemmas.Bool.Decides.{nat_tests}
use Rattle.std.proofs.lemmas.List.{length-append}
use Rattle.std.proofs.lemmas.Option.{slice_get_past, slice_get_read}
use Rattle.ioa_code.specs.declared.instr.Instr.{Instr}
use Rattle.ioa_code.specs.declared.pending.Pending.{Pending}
use Rattle.ioa_code.specs.declared.pending.Pending.TheVariants.{Nothing, Stack, Clash}
use Rattle.ioa_code.specs.declared.reason.Reason.{Reason}
use Rattle.ioa_code.specs.declared.reason.Reason.TheVariants.{NotForward, NotOne, WrongResult, BadLoop}
use Rattle.ioa_code.specs.declared.exits.Exit.{Exit}
use Rattle.ioa_code.specs.declared.exits.Exits.{Exits}
use Rattle.ioa_code.specs.Valid.{Part, Way, after, fast_at, IsAhead}
use Rattle.ioa_code.specs.Scan.{Brought, none, some, clash, good, bad, same_types, joined, types_in, came, bring, targets, all_forward, onward, loops, looped, at_end, arrived, passed, scan_from, at_first, scan}
use Rattle.ioa_code.specs.Bound.{brought_on, traced}
use Rattle.ioa_code.specs.Stacks.{Numbering, IsStack, IsNumber, Grows, listed, AreWays, AgreeOn, LeadsOn}
use Rattle.ioa_code.specs.Pending.{Meets, Represents, RepresentAll, AreBelow, Brings, IsFirst, Reached}
use Rattle.ioa_value.proofs.ItemLemmas.{get_last}
use Rattle.ioa_value.proofs.RowLemmas.{drop_there}
use Rattle.ioa_code.proofs.Lists.{get_before, slice_get-set_same, slice_get-set_other}
use Rattle.ioa_code.proofs.Numbered.{stack_kept, is_number}
use Rattle.ioa_code.proofs.Ahead.{ahead}
use Rattle.ioa_code.proofs.Ways.{forward_is}
use Rattle.ioa_code.proofs.Judged.{led, rest, scan_at, scan_end, unclear_bad}

-- ---- one place

-- where a stack was pending already, they are compared
pub meets_other : (s : Numbering) (j k : ℕ) (b : Bool) → ((us ts : List ℕ) → IsStack s.nodes j us → IsStack s.nodes k ts → b ≡ same_types us ts) → Meets s (Stack j) k (if b then Stack j else Clash)
meets_other s j k b same c ts m h =
    subst (λ y. Represents s.nodes (Some (if b then Stack j else Clash)) (joined y ts)) (sym m.1) (go b (same_types m.0 ts) (same m.0 ts m.2 h))
  where
    go : (b c : Bool) → b ≡ c → Represents s.nodes (Some (if b then Stack j else Clash)) (if c then some m.0 else clash)
    go true true e = (m.0, refl, m.2)
    go false false e = refl
    go true false e = absurd (cc)
    go false true e = absurd (cc)

pub brings_one : (s : Numbering) (pending : List Pending) (e : Exit) (x y : Pending) → e.to < length pending → slice_get pending e.to ≡ Some x → Meets s x e.stack y → Brings s pending (slice_set pending e.to y) (e ∷ [])
brings_one s pending e x y lt at meets = record { long = simp length-set; holds = λ brought ways h i. all brought ways h i }
  where
    go : (brought : ℕ → Brought) (w : Way) → RepresentAll s pending brought → e.to ≡ w.to → IsStack s.nodes e.stack w.types → (q : ℕ) (c : Bool) → (q == w.to) ≡ c → Represents s.nodes (slice_get (slice_set pending e.to y) q) (if c then joined (brought q) w.types else brought q)
    go brought w h j i q true t =
        let same : e.to ≡ q = grind (arith, nat_tests) in
        let m : Represents s.nodes (Some x) (brought e.to) = subst (λ o. Represents s.nodes o (brought e.to)) at (h e.to) in
        subst (λ r. Represents s.nodes (slice_get (slice_set pending e.to y) r) (joined (brought r) w.types)) same
        (subst (λ o. Represents s.nodes o (joined (brought e.to) w.types)) (sym (slice_get-set_same pending e.to y lt)) (meets (brought e.to) w.types m i))
    go brought w h j i q false t =
        let apart : q ≢ e.to = grind (arith, nat_tests) in
        subst (λ o. Represents s.nodes o (brought q)) (sym (slice_get-set_other pending e.to q y apart)) (h q)

    all : (brought : ℕ → Brought) (ways : List Way) → RepresentAll s pending brought → AreWays s.nodes (e ∷ []) ways → RepresentAll s (slice_set pending e.to y) (bring ways brought)
    all brought [] h i = absurd i
    all brought (w ∷ v ∷ vs) h i = absurd i.2
    all brought (w ∷ []) h i = λ q. go brought w h i.0 i.1 q (q == w.to) refl

pub brings_two : (s : Numbering) (old mid new : List Pending) (a b : Exit) → Brings s old mid (a ∷ []) → Brings s mid new (b ∷ []) → Brings s old new (a ∷ b ∷ [])
brings_two s old mid new a b f g = record { long = g.long ∙ f.long; holds = λ brought ways h i. all brought ways h i }
  where
    all : (brought : ℕ → Brought) (ways : List Way) → RepresentAll s old brought → AreWays s.nodes (a ∷ b ∷ []) ways → RepresentAll s new (bring ways brought)
    all brought [] h i = absurd i
    all brought (w ∷ []) h i = absurd i.2
    all brought (w ∷ v ∷ u ∷ us) h i = absurd i.2.2
    all brought (w ∷ v ∷ []) h i =
        g.holds (bring (w ∷ []) brought) (v ∷ []) (f.holds brought (w ∷ []) h (i.0, i.1, tt)) (i.2.0, i.2.1, tt)

-- ---- the exits of an instruction

pub same_targets : (nodes : List (ℕ × ℕ)) (es : List Exit) (ws : List Way) → AreWays nodes es ws → map (λ e. e.to) es ≡ targets ws
same_targets nodes [] [] h = refl
same_targets nodes [] (w ∷ ws) h = absurd h
same_targets nodes (e ∷ es) [] h = absurd h
same_targets nodes (e ∷ es) (w ∷ ws) h = ap (λ t. t ∷ map (λ e. e.to) es) h.0 ∙ ap (λ l. w.to ∷ l) (same_targets nodes es ws h.2)

pub are_below : (es : List Exit) (end p n : ℕ) → all_forward end p (map (λ e. e.to) es) ≡ true → end < n → AreBelow n es
are_below [] end p n h lt = tt
are_below (e ∷ es) end p n h lt = go (nat_lt p e.to) (nat_le e.to end) refl refl h (λ k. are_below es end p n k lt)
  where
    go : (a b : Bool) → nat_lt p e.to ≡ a → nat_le e.to end ≡ b → ((a && b) && all_forward end p (map (λ e. e.to) es)) ≡ true → (all_forward end p (map (λ e. e.to) es) ≡ true → AreBelow n es) → (e.to < n) × AreBelow n es
    go true true f g h rest = let le : e.to ≤ end = grind (arith, nat_tests) in (omega arith, rest h)
    go true false f g h rest = absurd (cc)
    go false b f g h rest = absurd (cc)

-- ---- the first place

pub first_start : IsFirst (Stack 0 ∷ [])
first_start = record { start = refl; others = λ q. inl refl }

pub first_more : (xs : List Pending) → IsFirst xs → 0 < length xs → IsFirst (xs ++ Nothing ∷ [])
first_more xs f lt = record {
  start = sym (get_before xs (Nothing ∷ []) 0 lt) ∙ f.start;
  others = λ q. ⊎_elim
      (λ less. ⊎_elim (λ e. inl (sym (get_before xs (Nothing ∷ []) (suc q) less) ∙ e)) (λ e. inr (sym (get_before xs (Nothing ∷ []) (suc q) less) ∙ e)) (f.others q))
      (λ (ge : length xs ≤ suc q). ⊎_elim
      (λ (past : length xs < suc q). inl (slice_get_past (xs ++ Nothing ∷ []) (suc q) (simp length-append (omega arith))))
      (λ (le : suc q ≤ length xs).
      let at : length xs ≡ suc q = omega arith in
      inr (subst (λ n. slice_get (xs ++ Nothing ∷ []) n ≡ Some Nothing) at (get_last xs Nothing)))
      (cases_lt (length xs) (suc q)))
      (cases_lt (suc q) (length xs));
}

pub first_reached : (part : Part) (s : Numbering) (pending : List Pending) → length pending ≡ length part.code.instrs + 1 → IsFirst pending → Reached part s pending 0
first_reached part s pending long f = record { long = long; brought = at_first; holds = holds; is = refl; trace = refl }
  where
    holds : RepresentAll s pending at_first
    holds zero = subst (λ o. Represents s.nodes o (some [])) (sym f.start) ([], refl, refl)
    holds (suc q) = ⊎_elim
        (λ e. subst (λ o. Represents s.nodes o none) (sym e) refl)
        (λ e. subst (λ o. Represents s.nodes o none) (sym e) refl)
        (f.others q)

-- ---- one place more

means_kept : (old new : Numbering) → Grows old new → (o : Option Pending) (b : Brought) → Represents old.nodes o b → Represents new.nodes o b
means_kept old new keeps (Some (Stack k)) b m = (m.0, m.1, stack_kept old new keeps k m.0 m.2)
means_kept old new keeps (Some Clash) b m = m
means_kept old new keeps (Some Nothing) b m = m
means_kept old new keeps None b m = m

-- the same place, with more stacks
pub reached_kept : (part : Part) (old new : Numbering) (pending : List Pending) (p : ℕ) → Reached part old pending p → Grows old new → Reached part new pending p
reached_kept part old new pending p r g = record {
  long = r.long;
  brought = r.brought;
  holds = λ q. means_kept old new g (slice_get pending q) (r.brought q) (r.holds q);
  is = r.is;
  trace = r.trace;
}

module _ (part : Part) (old : Numbering) (pending : List Pending) (p : ℕ) (reached : Reached part old pending p) where
  abbrev fast : ℕ
  fast = fast_at part (came reached.brought) p

  -- what was read of the place
  pub pending_at : (x : Pending) → p < length part.code.instrs → x ≡ get_or pending p x → slice_get pending p ≡ Some x
  pending_at x lt is =
      let long = reached.long in
      let within : p < length pending = omega arith in slice_get_read pending _ p x refl within is

  -- where no stack is pending
  pub none_pending : (x : Pending) → slice_get pending p ≡ Some x → (x ≡ Nothing) ⊎ (x ≡ Clash) → scan part ≡ bad p NotOne
  none_pending x e (inl f) =
      let m : reached.brought p ≡ none = subst (λ o. Represents old.nodes o (reached.brought p)) (e ∙ ap Some f) (reached.holds p) in
      reached.is ∙ unclear_bad part (drop p part.code.instrs) p reached.brought none m (λ ts x. cc)
  none_pending x e (inr f) =
      let m : reached.brought p ≡ clash = subst (λ o. Represents old.nodes o (reached.brought p)) (e ∙ ap Some f) (reached.holds p) in
      reached.is ∙ unclear_bad part (drop p part.code.instrs) p reached.brought clash m (λ ts x. cc)

  module _ (k : ℕ) (e : slice_get pending p ≡ Some (Stack k)) where
    here : (ts : List ℕ) × (reached.brought p ≡ some ts) × IsStack old.nodes k ts
    here = subst (λ o. Represents old.nodes o (reached.brought p)) e (reached.holds p)

    pub number_here : IsNumber old k
    number_here = is_number old k here.0 here.2

    module _ (new : Numbering) (i : Instr) (at : slice_get part.code.instrs p ≡ Some i) where
      come : scan part ≡ rest part i p reached.brought here.0
      come = reached.is ∙ scan_at part p i reached.brought at ∙ ap (λ b. arrived p b (rest part i p reached.brought)) here.1

      -- where the instruction lacks something
      pub lacks_found : (why : Reason) → LeadsOn old new k (Err why) (after part (fast_at part (came reached.brought) p) p i) → scan part ≡ bad p why
      lacks_found why leads = come ∙ go (after part fast p i here.0) (leads.1 here.0 here.2)
        where
          go : (r : Result (List Way) Reason) → AgreeOn new.nodes (Err why) r → passed p r (led part i p reached.brought here.0) ≡ bad p why
          go (Ok ways) x = absurd x
          go (Err reason) x = ap (bad p) (sym x)

      module _ (exits : Exits) (leads : LeadsOn old new k (Ok exits) (after part (fast_at part (came reached.brought) p) p i)) where
        after_is : (ways : List Way) × (after part fast p i here.0 ≡ Ok ways) × AreWays new.nodes (listed exits) ways
        after_is = go (after part fast p i here.0) refl (leads.1 here.0 here.2)
          where
            go : (r : Result (List Way) Reason) → after part fast p i here.0 ≡ r → AgreeOn new.nodes (Ok exits) r → (ways : List Way) × (after part fast p i here.0 ≡ Ok ways) × AreWays new.nodes (listed exits) ways
            go (Ok ways) f x = (ways, f, x)
            go (Err reason) f x = absurd x

        forward_same : (c : Bool) → all_forward (length part.code.instrs) p (map (λ e. e.to) (listed exits)) ≡ c → all_forward (length part.code.instrs) p (targets after_is.0) ≡ c
        forward_same c t = ap (all_forward (length part.code.instrs) p) (sym (same_targets new.nodes (listed exits) after_is.0 after_is.2)) ∙ t

        led_on : (c : Bool) → all_forward (length part.code.instrs) p (map (λ e. e.to) (listed exits)) ≡ c → scan part ≡ onward p c (looped p (loops part (came reached.brought) p i here.0) (scan_from part (drop (p + 1) part.code.instrs) (p + 1) (bring after_is.0 reached.brought)))
        led_on c t =
            come ∙ ap (λ r. passed p r (led part i p reached.brought here.0)) after_is.1 ∙ ap (λ c. onward p c (looped p (loops part (came reached.brought) p i here.0) (scan_from part (drop (p + 1) part.code.instrs) (p + 1) (bring after_is.0 reached.brought)))) (forward_same c t)

        traced_on : traced part (drop p part.code.instrs) p reached.brought ≡ traced part (drop (p + 1) part.code.instrs) (p + 1) (bring after_is.0 reached.brought)
        traced_on =
            ap (λ l. traced part l p reached.brought) (drop_there part.code.instrs p i at)
            ∙ ap (λ r. traced part (drop (p + 1) part.code.instrs) (p + 1) (brought_on r reached.brought)) (ap (λ b. after part fast p i (types_in b)) here.1 ∙ after_is.1)

        -- where it leads back, or past the end
        pub back_found : all_forward (length part.code.instrs) p (map (λ e. e.to) (listed exits)) ≡ false → scan part ≡ bad p NotForward
        back_found t = led_on false t

        -- where it leads forward
        pub is_ahead : all_forward (length part.code.instrs) p (map (λ e. e.to) (listed exits)) ≡ true → IsAhead (length part.code.instrs) p i
        is_ahead t = ahead part fast p i here.0 after_is.0 after_is.1 (forward_is (length part.code.instrs) p after_is.0 (forward_same true t))

        -- what is told of loops, of the types that are here
        abbrev Told : Bool → Type 0
        Told c = (brought : ℕ → Brought) (ts : List ℕ) → RepresentAll new pending brought → IsStack new.nodes k ts → c ≡ loops part (came brought) p i ts

        told : (c : Bool) → Told c → c ≡ loops part (came reached.brought) p i here.0
        told c f = f reached.brought here.0 (λ q. means_kept old new leads.0 (slice_get pending q) (reached.brought q) (reached.holds q)) (stack_kept old new leads.0 k here.0 here.2)

        -- where loops are not closed
        pub loop_found : all_forward (length part.code.instrs) p (map (λ e. e.to) (listed exits)) ≡ true → (c : Bool) → c ≡ false → ((brought : ℕ → Brought) (ts : List ℕ) → RepresentAll new pending brought → IsStack new.nodes k ts → c ≡ loops part (came brought) p i ts) → scan part ≡ bad p BadLoop
        loop_found t c e f = led_on true t ∙ ap (λ b. looped p b (scan_from part (drop (p + 1) part.code.instrs) (p + 1) (bring after_is.0 reached.brought))) (sym (told c f) ∙ e)

        pub goes_on : (next : List Pending) → all_forward (length part.code.instrs) p (map (λ e. e.to) (listed exits)) ≡ true → (c : Bool) → c ≡ true → ((brought : ℕ → Brought) (ts : List ℕ) → RepresentAll new pending brought → IsStack new.nodes k ts → c ≡ loops part (came brought) p i ts) → Brings new pending next (listed exits) → Reached part new next (p + 1)
        goes_on next t c e f brings = record {
          long = brings.long ∙ reached.long;
          brought = bring after_is.0 reached.brought;
          holds = brings.holds reached.brought after_is.0 (λ q. means_kept old new leads.0 (slice_get pending q) (reached.brought q) (reached.holds q)) after_is.2;
          trace = reached.trace ∙ traced_on;
          is = led_on true t ∙ ap (λ b. looped p b (scan_from part (drop (p + 1) part.code.instrs) (p + 1) (bring after_is.0 reached.brought))) (sym (told c f) ∙ e);
        }

    -- ---- the end

    module _ (new : Numbering) (grows : Grows old new) (j : ℕ) (result : IsStack new.nodes j part.result) (end : p ≡ length part.code.instrs) where
      at_end_is : scan part ≡ (if same_types here.0 part.result then good else bad p WrongResult)
      at_end_is = reached.is ∙ scan_end part p reached.brought (omega arith) ∙ ap (at_end part p) here.1

      mine : IsStack new.nodes k here.0
      mine = stack_kept old new grows k here.0 here.2

      pub ended : (b : Bool) → ((ts us : List ℕ) → IsStack new.nodes k ts → IsStack new.nodes j us → b ≡ same_types ts us) → scan part ≡ (if b then good else bad p WrongResult)
      ended b same = at_end_is ∙ ap (λ c. if c then good else bad p WrongResult) (sym (same here.0 part.result mine result))
