-- Stretches of code with the types on the stack at each of their places.
use Rattle.std.proofs.Common.{◌≡◌, ℕ, zero, suc, ◌+◌, ◌-◌, ◌<◌, ◌≤◌, ◌⊎◌, inl, inr, ⊎_elim, true, false, cond, List, [], ◌∷◌, ◌++◌, length, Some, Ok, refl, sym, ap, ◌∙◌, subst, arith}
use Rattle.std.specs.Prelude.{slice_get, nat_le, nat_lt, if◌then◌else◌, Bool}
use Rattle.std.specs.Option.{option_map_or}
use Rattle.std.proofs.lemmas.Bool.{cases_lt}
use Rattle.std.proofs.lemmas.Bool.Decides.{nat_tests}
use Rattle.std.proofs.lemmas.Option.{slice_get_within}
use Rattle.ioa_value.specs.Table.{item_type}
use Rattle.ioa_code.specs.declared.instr.Instr.{Instr}
use Rattle.ioa_code.specs.declared.instr.Instr.TheVariants.{Jump, JumpIfFalse, Each, Again}
use Rattle.ioa_code.specs.Loops.{past, past_at, around, bodies, EndLater, held}
use Rattle.ioa_code.specs.Valid.{Part, Way, way, after, fast_at, may_loop, body_start, Closes, Loops, found_in, Leads, Valid}
use Rattle.ioa_code.proofs.Lists.{on_top-append}
use Rattle.ioa_code.proofs.Bodies.{around_same, around_none, around_more}
use Rattle.ioa_emit.specs.Placed.{At}

-- a list from a function of the place
rows : {X : Type 0} → (ℕ → X) → ℕ → ℕ → List X
rows f p zero = []
rows f p (suc n) = f p ∷ rows f (p + 1) n

length-rows : {X : Type 0} (f : ℕ → X) (p n : ℕ) → length (rows f p n) ≡ n
unfolding rows
length-rows f p zero = refl
length-rows f p (suc n) = let e = length-rows f (p + 1) n in omega arith

rows-at : {X : Type 0} (f : ℕ → X) (p n k : ℕ) → k < n → slice_get (rows f p n) k ≡ Some (f (p + k))
unfolding rows
rows-at f p zero k lt = absurd (omega arith)
rows-at f p (suc n) zero lt = let e : p ≡ p + 0 = omega arith in ap (λ i. Some (f i)) e
rows-at f p (suc n) (suc k) lt = let e : p + 1 + k ≡ p + suc k = omega arith in rows-at f (p + 1) n k (omega arith) ∙ ap (λ i. Some (f i)) e

-- what stands round a stretch of code: so many items of the stack are held there, by so many loops
pub record Round : Type 0 where
  pub fast : ℕ
  pub deep : ℕ

module _ (part : Part) where
  -- the instruction at k finds what it needs, closes its loops, and leads forward to at most q, each way with the types there
  pub record Step (found types : ℕ → List ℕ) (q k : ℕ) : Type 0 where
    pub instr : Instr
    pub here : At part.code k instr
    pub ways : List Way
    pub finds : after part (fast_at part found k) k instr (types k) ≡ Ok ways
    pub loops : Loops part found k instr (types k)
    pub leads : (w : ℕ) (us : List ℕ) → Leads ways w us → (k < w) × (w ≤ q) × (types w ≡ us)

  -- an instruction from p on leads to k
  pub record Entered (found types : ℕ → List ℕ) (p k : ℕ) : Type 0 where
    pub from : ℕ
    pub instr : Instr
    pub ways : List Way
    pub brought : List ℕ
    pub after_start : p ≤ from
    pub before : from < k
    pub here : At part.code from instr
    pub finds : after part (fast_at part found from) from instr (types from) ≡ Ok ways
    pub leads : Leads ways k brought

  -- no loop before the stretch from p up to q ends in it, and what is found there has its types
  pub record Stands (r : Round) (found types : ℕ → List ℕ) (p q : ℕ) : Type 0 where
    pub apart : (k : ℕ) → k < p → (past_at part.code.instrs k ≤ p) ⊎ (q < past_at part.code.instrs k)
    pub held_is : held found (bodies part.code.instrs p) ≡ r.fast
    pub deep_is : length (bodies part.code.instrs p) ≡ r.deep
    pub few : r.deep ≤ 3
    pub agrees : (k : ℕ) → p ≤ k → k < q → found k ≡ types k

  -- code from p up to q, that comes with the types ts and ends with us, and whose loops end in it
  pub record Block (r : Round) (p q : ℕ) (ts us : List ℕ) : Type 0 where
    pub types : ℕ → List ℕ
    pub first : types p ≡ ts
    pub last : types q ≡ us
    pub along : p ≤ q
    pub inside : (k : ℕ) → p ≤ k → k < q → past_at part.code.instrs k ≤ q
    pub each : (found : ℕ → List ℕ) → Stands r found types p q → (k : ℕ) → p ≤ k → k < q → Step found types q k
    pub reached : (found : ℕ → List ℕ) → Stands r found types p q → (k : ℕ) → p < k → k ≤ q → Entered found types p k

  past_is : (p : ℕ) (i : Instr) → At part.code p i → past_at part.code.instrs p ≡ past i
  past_is p i h = ap (λ o. option_map_or past o 0) h

  -- two places between which no loop begins or ends that does not do both
  same_bodies : (p q : ℕ) → p ≤ q → ((k : ℕ) → k < p → (past_at part.code.instrs k ≤ p) ⊎ (q < past_at part.code.instrs k)) → ((k : ℕ) → p ≤ k → k < q → past_at part.code.instrs k ≤ q) → bodies part.code.instrs q ≡ bodies part.code.instrs p
  same_bodies p q along apart inside =
      let code = part.code.instrs in
      let n : p + (q - p) ≡ q = omega arith in
      ap (around code q) (sym n)
      ∙ around_none code q p (q - p) (λ k from to h. let x = inside k from (omega arith) in omega (arith, x, h))
      ∙ around_same code q p p (λ k lt h. omega arith) (λ k lt h. ⊎_elim (λ (le : past_at code k ≤ p). absurd (omega (arith, le, h))) (λ (l : q < past_at code k). l) (apart k lt))

  module _ (r : Round) (found : ℕ → List ℕ) where
    -- a stretch within another
    part_of : (f g : ℕ → List ℕ) (p q a b : ℕ) → Stands r found f p q → p ≤ a → a ≤ b → b ≤ q → ((k : ℕ) → p ≤ k → k < a → past_at part.code.instrs k ≤ a) → ((k : ℕ) → a ≤ k → k < b → f k ≡ g k) → Stands r found g a b
    part_of f g p q a b s pa ab bq inside same =
        let code = part.code.instrs in
        let is : bodies code a ≡ bodies code p = same_bodies p a pa (λ k lt. ⊎_elim (λ (le : past_at code k ≤ p). inl le) (λ (l : q < past_at code k). inr (omega (arith, l))) (s.apart k lt)) inside in
        record {
          apart = λ k lt. ⊎_elim
              (λ (less : k < p). ⊎_elim (λ (le : past_at code k ≤ p). inl (omega (arith, le))) (λ (l : q < past_at code k). inr (omega (arith, l))) (s.apart k less))
              (λ (ge : p ≤ k). inl (inside k ge lt))
              (cases_lt k p);
          held_is = ap (held found) is ∙ s.held_is;
          deep_is = ap length is ∙ s.deep_is;
          few = s.few;
          agrees = λ k from to. s.agrees k (omega arith) (omega arith) ∙ same k from to;
        }

    few_first : (f : ℕ → List ℕ) (p q : ℕ) → Stands r found f p q → length (bodies part.code.instrs p) ≤ 3
    few_first f p q s = omega (arith, s.deep_is, s.few)

    step_moved : (f g : ℕ → List ℕ) (q r k : ℕ) → f k ≡ g k → ((w : ℕ) → k < w → w ≤ q → f w ≡ g w) → q ≤ r → Step found f q k → Step found g r k
    step_moved f g q r k here there along s = record {
      instr = s.instr;
      here = s.here;
      ways = s.ways;
      finds = subst (λ l. after part (fast_at part found k) k s.instr l ≡ Ok s.ways) here s.finds;
      loops = subst (Loops part found k s.instr) here s.loops;
      leads = λ w us h. let l = s.leads w us h in (l.0, omega (arith, l.1), sym (there w l.0 l.1) ∙ l.2);
    }

    entered_moved : (f g : ℕ → List ℕ) (o p k : ℕ) → ((j : ℕ) → p ≤ j → j < k → f j ≡ g j) → o ≤ p → Entered found f p k → Entered found g o k
    entered_moved f g o p k same along w = record {
      from = w.from;
      instr = w.instr;
      ways = w.ways;
      brought = w.brought;
      after_start = omega (arith, w.after_start);
      before = w.before;
      here = w.here;
      finds = subst (λ l. after part (fast_at part found w.from) w.from w.instr l ≡ Ok w.ways) (same w.from w.after_start w.before) w.finds;
      leads = w.leads;
    }

  pub none : (r : Round) (p : ℕ) (ts : List ℕ) → Block r p p ts ts
  none r p ts = record {
    types = λ k. ts;
    first = refl;
    last = refl;
    along = omega arith;
    inside = λ k a b. absurd (omega arith);
    each = λ found s k a b. absurd (omega arith);
    reached = λ found s k a b. absurd (omega arith);
  }

  -- the only way of an instruction that leads to the next place
  only_next : (k w : ℕ) (ts us : List ℕ) → Leads (way (k + 1) ts ∷ []) w us → (w ≡ k + 1) × (us ≡ ts)
  only_next k w ts us (inl e) = e
  only_next k w ts us (inr h) = absurd h

  -- an instruction that is no loop's and no jump
  pub one : (r : Round) (p : ℕ) (i : Instr) (ts us : List ℕ) → At part.code p i → past i ≡ 0 → ((found : ℕ → List ℕ) (vs : List ℕ) → Closes part found p i vs) → after part r.fast p i ts ≡ Ok (way (p + 1) us ∷ []) → Block r p (p + 1) ts us
  one r p i ts us here quiet closes finds =
      let f : ℕ → List ℕ = λ k. cond (nat_le k p) ts us in
      let t : nat_le p p ≡ true = grind (arith, nat_tests) in
      let u : nat_le (p + 1) p ≡ false = grind (arith, nat_tests) in
      let at_p : f p ≡ ts = ap (λ b. cond b ts us) t in
      let at_q : f (p + 1) ≡ us = ap (λ b. cond b ts us) u in
      let there : (found : ℕ → List ℕ) → Stands r found f p (p + 1) → after part (fast_at part found p) p i (f p) ≡ Ok (way (p + 1) us ∷ []) =
      λ found s. ap (λ n. after part n p i (f p)) s.held_is ∙ ap (after part r.fast p i) at_p ∙ finds in
      record {
        types = f;
        first = at_p;
        last = at_q;
        along = omega arith;
        inside = λ k a b. let same : p ≡ k = omega arith in let z = past_is p i here ∙ quiet in subst (λ n. past_at part.code.instrs n ≤ p + 1) same (omega (arith, z));
        each = λ found s k a b.
            let same : p ≡ k = omega arith in
            subst (Step found f (p + 1)) same record {
              instr = i;
              here = here;
              ways = way (p + 1) us ∷ [];
              finds = there found s;
              loops = (few_first r found f p (p + 1) s, closes found (f p));
              leads = λ w vs h. let n = only_next p w us vs h in (omega (arith, n.0), omega (arith, n.0), ap f n.0 ∙ at_q ∙ sym n.1);
            };
        reached = λ found s k a b.
            let same : k ≡ p + 1 = omega arith in
            record { from = p; instr = i; ways = way (p + 1) us ∷ []; brought = us; after_start = omega arith; before = a; here = here; finds = there found s; leads = inl (same, refl) };
      }

  pub join : (r : Round) (p m q : ℕ) (ts us vs : List ℕ) → Block r p m ts us → Block r m q us vs → Block r p q ts vs
  join r p m q ts us vs a b =
      let f : ℕ → List ℕ = λ k. cond (nat_le k m) (a.types k) (b.types k) in
      let low : (k : ℕ) → k ≤ m → f k ≡ a.types k = λ k le. let t : nat_le k m ≡ true = grind (arith, nat_tests) in ap (λ c. cond c (a.types k) (b.types k)) t in
      let above : (k : ℕ) → m < k → f k ≡ b.types k = λ k lt. let t : nat_le k m ≡ false = grind (arith, nat_tests) in ap (λ c. cond c (a.types k) (b.types k)) t in
      let at_m : f m ≡ b.types m = low m (omega arith) ∙ a.last ∙ sym b.first in
      let high : (k : ℕ) → m ≤ k → f k ≡ b.types k = λ k le. ⊎_elim (λ lt. above k lt) (λ (ge : k ≤ m). let same : m ≡ k = omega arith in subst (λ n. f n ≡ b.types n) same at_m) (cases_lt m k) in
      let pm = a.along in
      let mq = b.along in
      let one_of : (found : ℕ → List ℕ) → Stands r found f p q → Stands r found a.types p m = λ found s. part_of r found f a.types p q p m s (omega arith) pm mq (λ k x y. absurd (omega arith)) (λ k x y. low k (omega arith)) in
      let other_of : (found : ℕ → List ℕ) → Stands r found f p q → Stands r found b.types m q = λ found s. part_of r found f b.types p q m q s pm mq (omega arith) a.inside (λ k x y. high k x) in
      record {
        types = f;
        first = low p pm ∙ a.first;
        last = high q mq ∙ b.last;
        along = omega arith;
        inside = λ k from to. ⊎_elim (λ (lt : k < m). let x = a.inside k from lt in omega (arith, x)) (λ (ge : m ≤ k). b.inside k ge to) (cases_lt k m);
        each = λ found s k from to. ⊎_elim
            (λ (lt : k < m). step_moved r found a.types f m q k (sym (low k (omega arith))) (λ w x y. sym (low w y)) mq (a.each found (one_of found s) k from lt))
            (λ (ge : m ≤ k). step_moved r found b.types f q q k (sym (high k ge)) (λ w x y. sym (high w (omega arith))) (omega arith) (b.each found (other_of found s) k ge to))
            (cases_lt k m);
        reached = λ found s k from to. ⊎_elim
            (λ (lt : m < k). entered_moved r found b.types f p m k (λ j x y. sym (high j x)) pm (b.reached found (other_of found s) k lt to))
            (λ (ge : k ≤ m). entered_moved r found a.types f p p k (λ j x y. sym (low j (omega arith))) (omega arith) (a.reached found (one_of found s) k from ge))
            (cases_lt m k);
      }

  -- ---- a choice between two blocks that come and end with the same types

  pub high_enough : (r : Round) (ts : List ℕ) → r.fast ≤ length ts → nat_le r.fast (length ts) ≡ true
  high_enough r ts high = grind (arith, nat_tests)

  module _ (r : Round) (p n q : ℕ) (ts us : List ℕ) (high : r.fast ≤ length ts) (branch : At part.code p (JumpIfFalse (n + 1))) (a : Block r (p + 1) n ts us) (jump : At part.code n (Jump q)) (b : Block r (n + 1) q ts us) where
    abbrev either_types : ℕ → List ℕ
    either_types k = cond (nat_le k p) (ts ++ 0 ∷ []) (cond (nat_le k n) (a.types k) (b.types k))

    abbrev branches : List Way
    branches = way (n + 1) ts ∷ way (p + 1) ts ∷ []

    at_branch : either_types p ≡ ts ++ 0 ∷ []
    at_branch =
        let t : nat_le p p ≡ true = grind (arith, nat_tests) in
        ap (λ c. cond c (ts ++ 0 ∷ []) (cond (nat_le p n) (a.types p) (b.types p))) t

    in_first : (k : ℕ) → p < k → k ≤ n → either_types k ≡ a.types k
    in_first k lt le =
        let t : nat_le k p ≡ false = grind (arith, nat_tests) in
        let u : nat_le k n ≡ true = grind (arith, nat_tests) in
        ap (λ c. cond c (ts ++ 0 ∷ []) (cond (nat_le k n) (a.types k) (b.types k))) t ∙ ap (λ c. cond c (a.types k) (b.types k)) u

    in_second : (k : ℕ) → n < k → either_types k ≡ b.types k
    in_second k lt =
        let along = a.along in
        let t : nat_le k p ≡ false = grind (arith, nat_tests) in
        let u : nat_le k n ≡ false = grind (arith, nat_tests) in
        ap (λ c. cond c (ts ++ 0 ∷ []) (cond (nat_le k n) (a.types k) (b.types k))) t ∙ ap (λ c. cond c (a.types k) (b.types k)) u

    first_comes : either_types (p + 1) ≡ ts
    first_comes = let along = a.along in in_first (p + 1) (omega arith) along ∙ a.first

    second_comes : either_types (n + 1) ≡ ts
    second_comes = in_second (n + 1) (omega arith) ∙ b.first

    second_ends : either_types q ≡ us
    second_ends = let along = b.along in in_second q (omega arith) ∙ b.last

    branch_past : past_at part.code.instrs p ≡ 0
    branch_past = past_is p (JumpIfFalse (n + 1)) branch

    jump_past : past_at part.code.instrs n ≡ 0
    jump_past = past_is n (Jump q) jump

    -- the loops of the first block end before the jump
    before_jump : (m k : ℕ) → n ≤ m → p ≤ k → k < n → past_at part.code.instrs k ≤ m
    before_jump m k nm from to = ⊎_elim
        (λ (lt : p < k). let x = a.inside k (omega arith) to in omega (arith, x))
        (λ (ge : k ≤ p). let same : p ≡ k = omega arith in subst (λ i. past_at part.code.instrs i ≤ m) same (omega (arith, branch_past)))
        (cases_lt p k)

    before_second : (k : ℕ) → p ≤ k → k < n + 1 → past_at part.code.instrs k ≤ n + 1
    before_second k from to = ⊎_elim
        (λ (lt : k < n). before_jump (n + 1) k (omega arith) from lt)
        (λ (ge : n ≤ k). let same : n ≡ k = omega arith in subst (λ i. past_at part.code.instrs i ≤ n + 1) same (omega (arith, jump_past)))
        (cases_lt k n)

    either_inside : (k : ℕ) → p ≤ k → k < q → past_at part.code.instrs k ≤ q
    either_inside k from to =
        let nq = b.along in
        ⊎_elim
        (λ (lt : k < n + 1). let x = before_second k from lt in omega (arith, x))
        (λ (ge : n + 1 ≤ k). b.inside k ge to)
        (cases_lt k (n + 1))

    module _ (found : ℕ → List ℕ) (s : Stands r found either_types p q) where
      first_stands : Stands r found a.types (p + 1) n
      first_stands =
          let pn = a.along in
          let nq = b.along in
          part_of r found either_types a.types p q (p + 1) n s (omega arith) pn (omega arith) (λ k x y. let same : p ≡ k = omega arith in subst (λ i. past_at part.code.instrs i ≤ p + 1) same (omega (arith, branch_past))) (λ k x y. in_first k (omega arith) (omega arith))

      second_stands : Stands r found b.types (n + 1) q
      second_stands =
          let pn = a.along in
          let nq = b.along in
          part_of r found either_types b.types p q (n + 1) q s (omega arith) nq (omega arith) before_second (λ k x y. in_second k (omega arith))

      jump_stands : Stands r found either_types n q
      jump_stands =
          let pn = a.along in
          let nq = b.along in
          part_of r found either_types either_types p q n q s (omega arith) (omega arith) (omega arith) (λ k x y. before_jump n k (omega arith) x y) (λ k x y. refl)

      branch_finds : after part (fast_at part found p) p (JumpIfFalse (n + 1)) (either_types p) ≡ Ok branches
      branch_finds =
          let there : after part r.fast p (JumpIfFalse (n + 1)) (ts ++ 0 ∷ []) ≡ Ok branches = rw (on_top-append 1 ts (0 ∷ []) _ _ refl) (rw (high_enough r ts high) refl) in
          ap (λ k. after part k p (JumpIfFalse (n + 1)) (either_types p)) s.held_is ∙ ap (after part r.fast p (JumpIfFalse (n + 1))) at_branch ∙ there

      branch_leads : (w : ℕ) (vs : List ℕ) → Leads branches w vs → (p < w) × (w ≤ q) × (either_types w ≡ vs)
      branch_leads w vs (inl e) =
          let pn = a.along in
          let nq = b.along in
          (omega (arith, e.0), omega (arith, e.0), ap either_types e.0 ∙ second_comes ∙ sym e.1)
      branch_leads w vs (inr (inl e)) =
          let pn = a.along in
          let nq = b.along in
          (omega (arith, e.0), omega (arith, e.0), ap either_types e.0 ∙ first_comes ∙ sym e.1)
      branch_leads w vs (inr (inr h)) = absurd h

      jump_leads : (w : ℕ) (vs : List ℕ) → Leads (way q (either_types n) ∷ []) w vs → (n < w) × (w ≤ q) × (either_types w ≡ vs)
      jump_leads w vs (inl e) =
          let pn = a.along in
          let nq = b.along in
          (omega (arith, e.0), omega (arith, e.0), ap either_types e.0 ∙ second_ends ∙ sym a.last ∙ sym (in_first n (omega arith) (omega arith)) ∙ sym e.1)
      jump_leads w vs (inr h) = absurd h

      -- both jumps stay in the bodies that hold them
      branch_stays : bodies part.code.instrs (n + 1) ≡ bodies part.code.instrs p
      branch_stays =
          let pn = a.along in
          let nq = b.along in
          same_bodies p (n + 1) (omega arith) (λ k lt. ⊎_elim (λ (le : past_at part.code.instrs k ≤ p). inl le) (λ (l : q < past_at part.code.instrs k). inr (omega (arith, l))) (s.apart k lt)) before_second

      jump_stays : bodies part.code.instrs q ≡ bodies part.code.instrs n
      jump_stays =
          let nq = b.along in
          let t = jump_stands in
          same_bodies n q (omega arith) t.apart (λ k from to. let pn = a.along in either_inside k (omega arith) to)

      step_branch : Step found either_types q p
      step_branch = record { instr = JumpIfFalse (n + 1); here = branch; ways = branches; finds = branch_finds; loops = (few_first r found either_types p q s, branch_stays); leads = branch_leads }

      step_jump : Step found either_types q n
      step_jump = record { instr = Jump q; here = jump; ways = way q (either_types n) ∷ []; finds = refl; loops = (few_first r found either_types n q jump_stands, jump_stays); leads = jump_leads }

      step_first : (k : ℕ) → p < k → k < n → Step found either_types q k
      step_first k from to =
          let nq = b.along in
          step_moved r found a.types either_types n q k (sym (in_first k from (omega arith))) (λ w x y. sym (in_first w (omega arith) y)) (omega arith) (a.each found first_stands k (omega arith) to)

      step_second : (k : ℕ) → n < k → k < q → Step found either_types q k
      step_second k from to =
          step_moved r found b.types either_types q q k (sym (in_second k from)) (λ w x y. sym (in_second w (omega arith))) (omega arith) (b.each found second_stands k (omega arith) to)

      either_step : (k : ℕ) → p ≤ k → k < q → Step found either_types q k
      either_step k from to = ⊎_elim
          (λ (lt : p < k). ⊎_elim
          (λ (above : n < k). step_second k above to)
          (λ (le : k ≤ n). ⊎_elim (λ (below : k < n). step_first k lt below) (λ (ge : n ≤ k). let same : n ≡ k = omega arith in subst (Step found either_types q) same step_jump) (cases_lt k n))
          (cases_lt n k))
          (λ (ge : k ≤ p). let same : p ≡ k = omega arith in subst (Step found either_types q) same step_branch)
          (cases_lt p k)

      enter_first : Entered found either_types p (p + 1)
      enter_first = record { from = p; instr = JumpIfFalse (n + 1); ways = branches; brought = ts; after_start = omega arith; before = omega arith; here = branch; finds = branch_finds; leads = inr (inl (refl, refl)) }

      enter_second : Entered found either_types p (n + 1)
      enter_second = let along = a.along in record { from = p; instr = JumpIfFalse (n + 1); ways = branches; brought = ts; after_start = omega arith; before = omega arith; here = branch; finds = branch_finds; leads = inl (refl, refl) }

      within_first : (k : ℕ) → p + 1 < k → k ≤ n → Entered found either_types p k
      within_first k from to =
          entered_moved r found a.types either_types p (p + 1) k (λ j x y. sym (in_first j (omega arith) (omega arith))) (omega arith) (a.reached found first_stands k from to)

      within_second : (k : ℕ) → n + 1 < k → k ≤ q → Entered found either_types p k
      within_second k from to =
          let pn = a.along in
          entered_moved r found b.types either_types p (n + 1) k (λ j x y. sym (in_second j (omega arith))) (omega arith) (b.reached found second_stands k from to)

      either_entered : (k : ℕ) → p < k → k ≤ q → Entered found either_types p k
      either_entered k from to = ⊎_elim
          (λ (above : n + 1 < k). within_second k above to)
          (λ (low : k ≤ n + 1). ⊎_elim
          (λ (lt : k < n + 1). ⊎_elim (λ (inner : p + 1 < k). within_first k inner (omega arith)) (λ (le : k ≤ p + 1). let same : p + 1 ≡ k = omega arith in subst (Entered found either_types p) same enter_first) (cases_lt (p + 1) k))
          (λ (ge : n + 1 ≤ k). let same : n + 1 ≡ k = omega arith in subst (Entered found either_types p) same enter_second)
          (cases_lt k (n + 1)))
          (cases_lt (n + 1) k)

    pub fork : Block r p q (ts ++ 0 ∷ []) us
    fork =
        let pn = a.along in
        let nq = b.along in
        record { types = either_types; first = at_branch; last = second_ends; along = omega arith; inside = either_inside; each = either_step; reached = either_entered }

  -- ---- a loop

  ends_later : (e p m : ℕ) → ((k : ℕ) → k < m → p < past_at part.code.instrs k → e < past_at part.code.instrs k) → EndLater part.code.instrs e (around part.code.instrs p m)
  ends_later e p zero f = tt
  ends_later e p (suc k) f =
      go (nat_lt p (past_at part.code.instrs k)) refl (ends_later e p k (λ j lt. f j (omega arith)))
    where
      go : (b : Bool) → nat_lt p (past_at part.code.instrs k) ≡ b → EndLater part.code.instrs e (around part.code.instrs p k) → EndLater part.code.instrs e (if b then k ∷ around part.code.instrs p k else around part.code.instrs p k)
      go true t h = (f k (omega arith) (grind (arith, nat_tests)), h)
      go false t h = h

  -- what stands round the body of a loop over a sequence of this type that lies on these types
  abbrev pub in_loop : Round → List ℕ → ℕ → Round
  in_loop r ts ty = record { fast = suc (length (ts ++ ty ∷ [])); deep = suc r.deep }

  module _ (r : Round) (m n : ℕ) (ts : List ℕ) (ty item : ℕ) (high : r.fast ≤ length ts) (few : r.deep < 3) (loops : may_loop part.kind ≡ true) (items : item_type part.code.types ty ≡ Some item) (start : At part.code m (Each (n + 1))) (body : Block (in_loop r ts ty) (m + 1) n ((ts ++ ty ∷ []) ++ item ∷ []) ((ts ++ ty ∷ []) ++ item ∷ [])) (again : At part.code n (Again m)) where
    abbrev in_turn : List ℕ
    in_turn = (ts ++ ty ∷ []) ++ item ∷ []

    abbrev turn_types : ℕ → List ℕ
    turn_types k = cond (nat_le k m) (ts ++ ty ∷ []) (cond (nat_le k n) (body.types k) ts)

    abbrev turns : List Way
    turns = way (n + 1) ts ∷ way (m + 1) in_turn ∷ []

    at_start : turn_types m ≡ ts ++ ty ∷ []
    at_start =
        let t : nat_le m m ≡ true = grind (arith, nat_tests) in
        ap (λ c. cond c (ts ++ ty ∷ []) (cond (nat_le m n) (body.types m) ts)) t

    in_body : (k : ℕ) → m < k → k ≤ n → turn_types k ≡ body.types k
    in_body k lt le =
        let t : nat_le k m ≡ false = grind (arith, nat_tests) in
        let u : nat_le k n ≡ true = grind (arith, nat_tests) in
        ap (λ c. cond c (ts ++ ty ∷ []) (cond (nat_le k n) (body.types k) ts)) t ∙ ap (λ c. cond c (body.types k) ts) u

    at_past : turn_types (n + 1) ≡ ts
    at_past =
        let along = body.along in
        let t : nat_le (n + 1) m ≡ false = grind (arith, nat_tests) in
        let u : nat_le (n + 1) n ≡ false = grind (arith, nat_tests) in
        ap (λ c. cond c (ts ++ ty ∷ []) (cond (nat_le (n + 1) n) (body.types (n + 1)) ts)) t ∙ ap (λ c. cond c (body.types (n + 1)) ts) u

    body_comes : turn_types (m + 1) ≡ in_turn
    body_comes = let along = body.along in in_body (m + 1) (omega arith) along ∙ body.first

    body_ends : turn_types n ≡ in_turn
    body_ends = let along = body.along in in_body n (omega arith) (omega arith) ∙ body.last

    start_past : past_at part.code.instrs m ≡ n + 1
    start_past = past_is m (Each (n + 1)) start

    again_past : past_at part.code.instrs n ≡ 0
    again_past = past_is n (Again m) again

    turn_inside : (k : ℕ) → m ≤ k → k < n + 1 → past_at part.code.instrs k ≤ n + 1
    turn_inside k from to = ⊎_elim
        (λ (lt : m < k). ⊎_elim
        (λ (less : k < n). let x = body.inside k (omega arith) less in omega (arith, x))
        (λ (ge : n ≤ k). let same : n ≡ k = omega arith in subst (λ i. past_at part.code.instrs i ≤ n + 1) same (omega (arith, again_past)))
        (cases_lt k n))
        (λ (ge : k ≤ m). let same : m ≡ k = omega arith in subst (λ i. past_at part.code.instrs i ≤ n + 1) same (omega (arith, start_past)))
        (cases_lt m k)

    module _ (found : ℕ → List ℕ) (s : Stands r found turn_types m (n + 1)) where
      found_start : found m ≡ ts ++ ty ∷ []
      found_start = let along = body.along in s.agrees m (omega arith) (omega arith) ∙ at_start

      body_in : bodies part.code.instrs (m + 1) ≡ m ∷ bodies part.code.instrs m
      body_in =
          let code = part.code.instrs in
          let along = body.along in
          let next : m + 1 ≡ suc m = omega arith in
          ap (around code (m + 1)) next
          ∙ around_more code (m + 1) m (omega (arith, start_past))
          ∙ ap (λ l. m ∷ l) (around_same code (m + 1) m m (λ k lt h. omega arith) (λ k lt h. ⊎_elim (λ (le : past_at code k ≤ m). absurd (omega (arith, le, h))) (λ (l : n + 1 < past_at code k). omega (arith, l)) (s.apart k lt)))

      body_stands : Stands (in_loop r ts ty) found body.types (m + 1) n
      body_stands =
          let code = part.code.instrs in
          record {
            apart = λ k lt. ⊎_elim
                (λ (less : k < m). ⊎_elim (λ (le : past_at code k ≤ m). inl (omega (arith, le))) (λ (l : n + 1 < past_at code k). inr (omega (arith, l))) (s.apart k less))
                (λ (ge : m ≤ k). let same : m ≡ k = omega arith in inr (subst (λ i. n < past_at code i) same (omega (arith, start_past))))
                (cases_lt k m);
            held_is = ap (held found) body_in ∙ ap (λ l. suc (length l)) found_start;
            deep_is = let e = ap length body_in in let d = s.deep_is in omega (arith, e, d);
            few = omega arith;
            agrees = λ k from to. s.agrees k (omega arith) (omega arith) ∙ in_body k (omega arith) (omega arith);
          }

      again_in : length (bodies part.code.instrs n) ≤ 3
      again_in =
          let along = body.along in
          let t = body_stands in
          let same = same_bodies (m + 1) n along t.apart body.inside in
          let e = ap length same in
          let d = t.deep_is in
          omega (arith, e, d)

      start_finds : after part (fast_at part found m) m (Each (n + 1)) (turn_types m) ≡ Ok turns
      start_finds =
          let there : after part r.fast m (Each (n + 1)) (ts ++ ty ∷ []) ≡ Ok turns = rw loops (rw (on_top-append 1 ts (ty ∷ []) _ _ refl) (rw (high_enough r ts high) (rw items refl))) in
          ap (λ k. after part k m (Each (n + 1)) (turn_types m)) s.held_is ∙ ap (after part r.fast m (Each (n + 1))) at_start ∙ there

      start_leads : (w : ℕ) (vs : List ℕ) → Leads turns w vs → (m < w) × (w ≤ n + 1) × (turn_types w ≡ vs)
      start_leads w vs (inl e) =
          let along = body.along in
          (omega (arith, e.0), omega (arith, e.0), ap turn_types e.0 ∙ at_past ∙ sym e.1)
      start_leads w vs (inr (inl e)) =
          let along = body.along in
          (omega (arith, e.0), omega (arith, e.0), ap turn_types e.0 ∙ body_comes ∙ sym e.1)
      start_leads w vs (inr (inr h)) = absurd h

      start_closes : Closes part found m (Each (n + 1)) (turn_types m)
      start_closes =
          let code = part.code.instrs in
          let last : n ≡ n + 1 - 1 = omega arith in
          let along = body.along in (
            subst (λ i. slice_get code i ≡ Some (Again m)) last again,
            ends_later (n + 1) m m (λ k lt h. ⊎_elim (λ (le : past_at code k ≤ m). absurd (omega (arith, le, h))) (λ (l : n + 1 < past_at code k). l) (s.apart k lt)),
          )

      step_start : Step found turn_types (n + 1) m
      step_start = record { instr = Each (n + 1); here = start; ways = turns; finds = start_finds; loops = (few_first r found turn_types m (n + 1) s, start_closes); leads = start_leads }

      again_finds : after part (fast_at part found n) n (Again m) (turn_types n) ≡ Ok []
      again_finds =
          let there : after part (fast_at part found n) n (Again m) in_turn ≡ Ok [] = rw loops (rw (on_top-append 1 (ts ++ ty ∷ []) (item ∷ []) _ _ refl) refl) in
          ap (after part (fast_at part found n) n (Again m)) body_ends ∙ there

      again_closes : Closes part found n (Again m) (turn_types n)
      again_closes =
          let along = body.along in
          let starts : body_start part.code.types (ts ++ ty ∷ []) ≡ Some in_turn = rw (on_top-append 1 ts (ty ∷ []) _ _ refl) (rw items refl) in
          (omega arith, start, ap (body_start part.code.types) found_start ∙ starts ∙ ap Some (sym body_ends))

      no_way : (w : ℕ) (vs : List ℕ) → Leads [] w vs → (n < w) × (w ≤ n + 1) × (turn_types w ≡ vs)
      no_way w vs h = absurd h

      step_again : Step found turn_types (n + 1) n
      step_again = record { instr = Again m; here = again; ways = []; finds = again_finds; loops = (again_in, again_closes); leads = no_way }

      step_body : (k : ℕ) → m < k → k < n → Step found turn_types (n + 1) k
      step_body k from to =
          step_moved (in_loop r ts ty) found body.types turn_types n (n + 1) k (sym (in_body k from (omega arith))) (λ w x y. sym (in_body w (omega arith) y)) (omega arith) (body.each found body_stands k (omega arith) to)

      turn_step : (k : ℕ) → m ≤ k → k < n + 1 → Step found turn_types (n + 1) k
      turn_step k from to = ⊎_elim
          (λ (lt : m < k). ⊎_elim (λ (below : k < n). step_body k lt below) (λ (ge : n ≤ k). let same : n ≡ k = omega arith in subst (Step found turn_types (n + 1)) same step_again) (cases_lt k n))
          (λ (ge : k ≤ m). let same : m ≡ k = omega arith in subst (Step found turn_types (n + 1)) same step_start)
          (cases_lt m k)

      enter_body : Entered found turn_types m (m + 1)
      enter_body = record { from = m; instr = Each (n + 1); ways = turns; brought = in_turn; after_start = omega arith; before = omega arith; here = start; finds = start_finds; leads = inr (inl (refl, refl)) }

      leave_body : Entered found turn_types m (n + 1)
      leave_body = let along = body.along in record { from = m; instr = Each (n + 1); ways = turns; brought = ts; after_start = omega arith; before = omega arith; here = start; finds = start_finds; leads = inl (refl, refl) }

      within_body : (k : ℕ) → m + 1 < k → k ≤ n → Entered found turn_types m k
      within_body k from to =
          entered_moved (in_loop r ts ty) found body.types turn_types m (m + 1) k (λ j x y. sym (in_body j (omega arith) (omega arith))) (omega arith) (body.reached found body_stands k from to)

      turn_entered : (k : ℕ) → m < k → k ≤ n + 1 → Entered found turn_types m k
      turn_entered k from to = ⊎_elim
          (λ (lt : k < n + 1). ⊎_elim (λ (inner : m + 1 < k). within_body k inner (omega arith)) (λ (le : k ≤ m + 1). let same : m + 1 ≡ k = omega arith in subst (Entered found turn_types m) same enter_body) (cases_lt (m + 1) k))
          (λ (ge : n + 1 ≤ k). let same : n + 1 ≡ k = omega arith in subst (Entered found turn_types m) same leave_body)
          (cases_lt k (n + 1))

    pub turn : Block r m (n + 1) (ts ++ ty ∷ []) ts
    turn =
        let along = body.along in
        record { types = turn_types; first = at_start; last = at_past; along = omega arith; inside = turn_inside; each = turn_step; reached = turn_entered }

  some_same : {X : Type 0} (x y : X) → Some x ≡ Some y → x ≡ y
  some_same x y e = cc

  -- round the whole code stands nothing
  abbrev pub outermost : Round
  outermost = record { fast = 0; deep = 0 }

  -- the whole code with its types is valid
  pub valid : Block outermost 0 (length part.code.instrs) [] part.result → Valid part
  valid b =
      let n = length part.code.instrs in
      let table = rows b.types 0 (n + 1) in
      let there : (k : ℕ) → k ≤ n → slice_get table k ≡ Some (b.types k) = λ k le. let e : 0 + k ≡ k = omega arith in rows-at b.types 0 (n + 1) k (omega arith) ∙ ap (λ i. Some (b.types i)) e in
      let s : Stands outermost (found_in table) b.types 0 n = record {
        apart = λ k lt. absurd (omega arith);
        held_is = refl;
        deep_is = refl;
        few = omega arith;
        agrees = λ k from to. ap (λ o. option_map_or (λ ts. ts) o []) (there k (omega arith));
      } in (
        table,
        record {
          long = length-rows b.types 0 (n + 1);
          start = there 0 (omega arith) ∙ ap Some b.first;
          each = λ p i ts at_p types_p.
              let lt = slice_get_within part.code.instrs p i at_p in
              let t = b.each (found_in table) s p (omega arith) lt in
              let same : t.instr ≡ i = some_same t.instr i (sym t.here ∙ at_p) in
              let types : b.types p ≡ ts = some_same (b.types p) ts (sym (there p (omega arith)) ∙ types_p) in
              record {
                ways = t.ways;
                finds = ap (after part (fast_at part (found_in table) p) p i) (sym types) ∙ ap (λ j. after part (fast_at part (found_in table) p) p j (b.types p)) (sym same) ∙ t.finds;
                forward = λ w us h. let l = t.leads w us h in (l.0, l.1);
                loops = subst (λ j. Loops part (found_in table) p j ts) same (subst (Loops part (found_in table) p t.instr) types t.loops);
                brings = λ w us h. let l = t.leads w us h in there w l.1 ∙ ap Some l.2;
              };
          reached = λ q from to.
              let w = b.reached (found_in table) s q from to in
              (w.brought, record { from = w.from; instr = w.instr; had = b.types w.from; ways = w.ways; before = w.before; there = w.here; types = there w.from (omega (arith, w.before)); finds = w.finds; leads = w.leads });
          end = there n (omega arith) ∙ ap Some b.last;
        },
      )
