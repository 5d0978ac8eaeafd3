-- Why a log is not resumed.
use Rattle.std.proofs.Common.{◌≡◌, ◌≢◌, ◌⊎◌, ◌↔◌, ℕ, zero, suc, ◌+◌, ◌==◌, Bool, true, false, List, [], ◌∷◌, ◌++◌, length, Result, Ok, Err, inl, inr, refl, sym, ap, subst, ◌∙◌, arith, take}
use Rattle.ioa_value.specs.Actions.{Act}
use Rattle.ioa_tree.specs.Components.{Component}
use Rattle.ioa_tree.specs.Runs.{Ending, done, fault_at}
use Rattle.ioa_tree.specs.Steps.{next, step}
use Rattle.ioa_compile.specs.Subjects.{its_components, its_starts}
use Rattle.ioa_system.specs.Histories.{Leads}
use Rattle.ioa_system.specs.declared.log.LogEnd.{LogEnd}
use Rattle.ioa_system.specs.Logs.{Logged, log_end, worker}
use Rattle.ioa_board.specs.declared.run_err.RunErr.{RunErr}
use Rattle.ioa_board.specs.Boards.{Standing, attempt}
use Rattle.ioa_board.specs.Outcomes.{IsFault}
use Rattle.ioa_board.specs.Resuming.{counted_as, followed, is_committed, resumption, then_follow}
use Rattle.ioa_run.specs.Resuming.{IsBadEntry, IsUnresumed, LogsAreRefused}
use Rattle.ioa_board.proofs.Resumed.{equal, performs, same}
use Rattle.ioa_run.proofs.Resumed.{calmly, leads_followed}

module _ {S : Type 0} (ps : List (Component S)) where
  abbrev tells : ℕ × Act → List (ℕ × Act) → List S → Bool
  tells e h ss = is_committed (attempt ps e.0 e.1 (calmly h ss)).0

  -- an entry is performed whose action is its worker's and has a next step
  performed : (e : ℕ × Act) (h : List (ℕ × Act)) (ss us : List S) → e.0 ≡ worker ps e.1 → step ps e.1 ss ≡ next us → tells e h ss ≡ true
  performed e h ss us own steps = let t : (e.0 == worker ps e.1) ≡ true = subst (λ (w : ℕ). (e.0 == w) ≡ true) own (same e.0) in rw (t, steps) refl

  -- another is not
  untold : (e : ℕ × Act) (h : List (ℕ × Act)) (ss : List S) → (e.0 ≡ worker ps e.1 → (ts : List S) → step ps e.1 ss ≡ next ts → ⊥) → tells e h ss ≡ false
  untold e h ss bad = by (tells e h ss) refl
    where
      by : (t : Bool) → tells e h ss ≡ t → tells e h ss ≡ false
      by true k = let p = performs ps e.0 e.1 (calmly h ss) refl k in absurd (bad p.own p.states p.steps)
      by false k = k

  -- where the first bad entry is, following stops
  bad_followed : (i : ℕ) (es h : List (ℕ × Act)) (ss : List S) (j : ℕ) → IsBadEntry ps ss es j → followed ps i es (calmly h ss) ≡ Err (i + j)
  bad_followed i [] h ss j b = let e = b.there in absurd (cc)
  bad_followed i (e ∷ es) h ss zero b =
      let same' : e ≡ b.entry = let k = b.there in cc in
      let here : (b.entry.0 ≡ worker ps b.entry.1 → (ts : List S) → step ps b.entry.1 ss ≡ next ts → ⊥) =
      subst (λ (xs : List S). b.entry.0 ≡ worker ps b.entry.1 → (ts : List S) → step ps b.entry.1 xs ≡ next ts → ⊥) b.leads b.bad in
      let bad : (e.0 ≡ worker ps e.1 → (ts : List S) → step ps e.1 ss ≡ next ts → ⊥) =
      subst (λ (d : ℕ × Act). d.0 ≡ worker ps d.1 → (ts : List S) → step ps d.1 ss ≡ next ts → ⊥) (sym same') here in
      let at : i ≡ i + 0 = omega arith in
      ap (λ (t : Bool). then_follow i t (attempt ps e.0 e.1 (calmly h ss)).1 (λ c. followed ps (i + 1) es c)) (untold e h ss bad) ∙ ap (λ (n : ℕ). Err n) at
  bad_followed i (e ∷ es) h ss (suc j) b = by b.leads (λ us rest. bad_followed (i + 1) es (h ++ e ∷ []) us j rest)
    where
      by : Leads ps (e ∷ take j es) ss b.states → ((us : List S) → IsBadEntry ps us es j → followed ps (i + 1) es (calmly (h ++ e ∷ []) us) ≡ Err (i + 1 + j))
          → followed ps i (e ∷ es) (calmly h ss) ≡ Err (i + suc j)
      by (us, own, steps, leads) more =
          let t : (e.0 == worker ps e.1) ≡ true = subst (λ (w : ℕ). (e.0 == w) ≡ true) own (same e.0) in
          let rest : IsBadEntry ps us es j = record { entry = b.entry; there = b.there; states = b.states; leads = leads; bad = b.bad } in
          let at : i + 1 + j ≡ i + suc j = omega arith in
          rw (t, steps) (more us rest ∙ ap (λ (n : ℕ). Err n) at)

  -- all entries are performed, or there is a first that is not
  how_followed : (es h : List (ℕ × Act)) (ss : List S) → ((ts : List S) × Leads ps es ss ts) ⊎ ((j : ℕ) × IsBadEntry ps ss es j)
  how_followed [] h ss = inl (ss, refl)
  how_followed (e ∷ es) h ss = by (tells e h ss) refl (λ us. how_followed es (h ++ e ∷ []) us)
    where
      by : (t : Bool) → tells e h ss ≡ t → ((us : List S) → ((ts : List S) × Leads ps es us ts) ⊎ ((j : ℕ) × IsBadEntry ps us es j))
          → ((ts : List S) × Leads ps (e ∷ es) ss ts) ⊎ ((j : ℕ) × IsBadEntry ps ss (e ∷ es) j)
      by true k more =
          let p = performs ps e.0 e.1 (calmly h ss) refl k in
          elim (more p.states) as (λ _. ((ts : List S) × Leads ps (e ∷ es) ss ts) ⊎ ((j : ℕ) × IsBadEntry ps ss (e ∷ es) j)) [
            | inl q ↦ inl (q.0, (p.states, p.own, p.steps, q.1))
            | inr q ↦ inr (suc q.0, record { entry = q.1.entry; there = q.1.there; states = q.1.states; leads = (p.states, p.own, p.steps, q.1.leads); bad = q.1.bad })
          ]
      by false k more = inr (0, record { entry = e; there = refl; states = ss; leads = refl; bad = λ own ts steps. not_so ts own steps })
        where
          not_so : (ts : List S) → e.0 ≡ worker ps e.1 → step ps e.1 ss ≡ next ts → ⊥
          not_so ts own steps = let q : true ≡ false = sym (performed e h ss ts own steps) ∙ k in absurd (cc)

  module _ (ss : List S) (es : List (ℕ × Act)) where
    abbrev counting : ℕ → Logged
    counting n = record { entries = es; ending = done n }

    bad_resumed : (n j : ℕ) → IsBadEntry ps ss es j → resumption ps ss (counting n) ≡ Err (RunErr.BadLog j)
    bad_resumed n j b =
        let at : 0 + j ≡ j = omega arith in
        ap (λ (r : Result (Standing S) ℕ). counted_as n (length es) r) (bad_followed 0 es [] ss j b ∙ ap (λ (k : ℕ). Err k) at)

    miscounted : (n : ℕ) → (ts : List S) × Leads ps es ss ts → (n == length es) ≡ false → resumption ps ss (counting n) ≡ Err (RunErr.BadLog (length es))
    miscounted n l other =
        ap (λ (r : Result (Standing S) ℕ). counted_as n (length es) r) (leads_followed ps 0 es [] ss l.0 l.1) ∙ rw other refl

    other_count : (n m : ℕ) → done n ≢ done m → (n == m) ≡ false
    other_count n m other = by (n == m) refl
      where
        by : (t : Bool) → (n == m) ≡ t → (n == m) ≡ false
        by true k = absurd (other (ap done (equal n m k)))
        by false k = k

    no_fault : (n : ℕ) → IsFault (done n) → ⊥
    no_fault n k = k

    refused_same : (x y : RunErr) → ◌≡◌ {A = Result (Standing S) RunErr} (Err x) (Err y) → x ≡ y
    refused_same x y h = cc

    why_refused : (n : ℕ) (e : RunErr) → resumption ps ss (counting n) ≡ Err e → IsUnresumed ps ss (counting n) e
    why_refused n e h =
        elim (how_followed es [] ss) as (λ _. IsUnresumed ps ss (counting n) e) [
          | inl q ↦ by (n == length es) refl q
          | inr q ↦ subst (IsUnresumed ps ss (counting n)) (refused_same (RunErr.BadLog q.0) e (sym (bad_resumed n q.0 q.1) ∙ h)) (no_fault n, inl q.1)
        ]
      where
        by : (t : Bool) → (n == length es) ≡ t → (ts : List S) × Leads ps es ss ts → IsUnresumed ps ss (counting n) e
        by true k q =
            let whole : resumption ps ss (counting n) ≡ Ok (calmly es q.0) = ap (λ (r : Result (Standing S) ℕ). counted_as n (length es) r) (leads_followed ps 0 es [] ss q.0 q.1) ∙ rw k refl in
            let both : ◌≡◌ {A = Result (Standing S) RunErr} (Ok (calmly es q.0)) (Err e) = sym whole ∙ h in
            absurd (cc)
        by false k q =
            subst (IsUnresumed ps ss (counting n)) (refused_same (RunErr.BadLog (length es)) e (sym (miscounted n q k) ∙ h))
            (no_fault n, inr (record { number = refl; legal = q; ending = λ d. differ k d }))
          where
            differ : (n == length es) ≡ false → done n ≡ done (length es) → ⊥
            differ other d =
                let m : n ≡ length es = cc in
                let equals : (n == length es) ≡ true = subst (λ (k : ℕ). (n == k) ≡ true) m (same n) in
                let q : true ≡ false = sym equals ∙ other in absurd (cc)

    so_refused : (n : ℕ) (e : RunErr) → IsUnresumed ps ss (counting n) e → resumption ps ss (counting n) ≡ Err e
    so_refused n RunErr.EndedByFault k = absurd k
    so_refused n (RunErr.BadLog i) k =
        elim k.1 as (λ _. resumption ps ss (counting n) ≡ Err (RunErr.BadLog i)) [
          | inl b ↦ bad_resumed n i b
          | inr m ↦ miscounted n m.legal (other_count n (length es) (λ d. m.ending (d ∙ ap done (sym m.number)))) ∙ ap (λ (j : ℕ). Err (RunErr.BadLog j)) (sym m.number)
        ]
    so_refused n RunErr.TooManyTurns k = absurd k
    so_refused n (RunErr.BadInput i) k = absurd k
    so_refused n RunErr.Threads k = absurd k
    so_refused n RunErr.OutOfMemory k = absurd k

    refused_by : (end : LogEnd) (e : RunErr)
        → (resumption ps ss (record { entries = es; ending = log_end end }) ≡ Err e) ↔ IsUnresumed ps ss (record { entries = es; ending = log_end end }) e
    refused_by (LogEnd.Done n) e = (λ h. why_refused n e h, λ k. so_refused n e k)
    refused_by (LogEnd.Fault c f n) e =
        (λ h. subst (IsUnresumed ps ss (record { entries = es; ending = fault_at c f n })) (refused_same RunErr.EndedByFault e h) tt, λ k. back e k)
      where
        back : (e : RunErr) → IsUnresumed ps ss (record { entries = es; ending = fault_at c f n }) e → resumption ps ss (record { entries = es; ending = fault_at c f n }) ≡ Err e
        back RunErr.EndedByFault k = refl
        back (RunErr.BadLog i) k = absurd (k.0 tt)
        back RunErr.TooManyTurns k = absurd k
        back (RunErr.BadInput i) k = absurd k
        back RunErr.Threads k = absurd k
        back RunErr.OutOfMemory k = absurd k

pub logs_are_refused : LogsAreRefused
logs_are_refused s log end e h =
    subst (λ (x : Ending). (resumption (its_components s) (its_starts s) (record { entries = log.entries; ending = x }) ≡ Err e)
    ↔ IsUnresumed (its_components s) (its_starts s) (record { entries = log.entries; ending = x }) e) (sym h) (refused_by (its_components s) (its_starts s) log.entries end e)
