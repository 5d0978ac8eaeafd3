-- A run, action by action.
use Rattle.std.proofs.Common.{◌≡◌, ℕ, ◌+◌, ◌≤◌, List, [], ◌∷◌, ◌++◌, length, take, filter, Bool, true, false, None, refl, sym, ◌∙◌, ap, subst, arith, length-append, if◌then◌else◌}
use Rattle.std.proofs.lemmas.List.{append-nil, take_all, take-append-le}
use Rattle.std.proofs.lemmas.List.Elements.{filter-append}
use Rattle.ioa_value.specs.Actions.{Name, Act}
use Rattle.ioa_value.specs.Plain.{Val}
use Rattle.ioa_tree.specs.Components.{Component}
use Rattle.ioa_tree.specs.Steps.{Moved, next, not_an_action, not_enabled, fault, step}
use Rattle.ioa_tree.specs.Runs.{Ending, Reached, done, not_an_action_at, not_enabled_at, fault_at, after, run_from, run, is_external, trace}
use Rattle.ioa_compile.specs.Programs.{Prog}
use Rattle.ioa_compile.specs.Tables.{tabled, start_states}
use Rattle.ioa_system.specs.declared.outcomes.End.{End}
use Rattle.ioa_system.specs.Outcomes.{ending_of, performed_by}
use Rattle.ioa_system.specs.Progress.{Progress, reached_by, worker_after, IsRunOver}

-- ---- one action more

-- a run goes on while all is performed
abbrev goes_on : {X : Type 0} → Ending → X → X → X
goes_on (done n) x y = x
goes_on (not_an_action_at i) x y = y
goes_on (not_enabled_at i) x y = y
goes_on (fault_at c f i) x y = y

abbrev with_next : {S : Type 0} → List (Component S) → Act → Reached S → Reached S
with_next ps a r = goes_on r.ending (after r.performed r.states (step ps a r.states) (λ ts. run_from (r.performed + 1) ps [] ts)) r

after_more : {S : Type 0} (n : ℕ) (ps : List (Component S)) (a : Act) (ss : List S) (m : Moved S) (f g : List S → Reached S) → ((ts : List S) → f ts ≡ with_next ps a (g ts))
    → after n ss m f ≡ with_next ps a (after n ss m g)
after_more n ps a ss (next ts) f g h = h ts
after_more n ps a ss not_an_action f g h = refl
after_more n ps a ss not_enabled f g h = refl
after_more n ps a ss (fault c x) f g h = refl

run_more : {S : Type 0} (n : ℕ) (ps : List (Component S)) (acts : List Act) (ss : List S) (a : Act) → run_from n ps (acts ++ a ∷ []) ss ≡ with_next ps a (run_from n ps acts ss)
run_more n ps [] ss a = refl
run_more n ps (b ∷ acts) ss a =
    after_more n ps a ss (step ps b ss) (λ ts. run_from (n + 1) ps (acts ++ a ∷ []) ts) (λ ts. run_from (n + 1) ps acts ts) (λ ts. run_more (n + 1) ps acts ts a)

-- ---- how many are performed

record Counts {S : Type 0} (most : ℕ) (r : Reached S) : Type 0 where
  within : r.performed ≤ most
  all : (k : ℕ) → r.ending ≡ done k → r.performed ≡ most

counts_after : {S : Type 0} (n most : ℕ) (ss : List S) (m : Moved S) (f : List S → Reached S) → n ≤ most → ((ts : List S) → Counts most (f ts)) → Counts most (after n ss m f)
counts_after n most ss (next ts) f l h = h ts
counts_after n most ss not_an_action f l h = record { within = l; all = λ k e. absurd (cc) }
counts_after n most ss not_enabled f l h = record { within = l; all = λ k e. absurd (cc) }
counts_after n most ss (fault c x) f l h = record { within = l; all = λ k e. absurd (cc) }

counts_from : {S : Type 0} (n most : ℕ) (ps : List (Component S)) (acts : List Act) (ss : List S) → n + length acts ≡ most → Counts most (run_from n ps acts ss)
counts_from n most ps [] ss e = let l : n ≡ most = omega arith in record { within = omega arith; all = λ k q. l }
counts_from n most ps (a ∷ acts) ss e =
    counts_after n most ss (step ps a ss) (λ ts. run_from (n + 1) ps acts ts) (omega arith) (λ ts. counts_from (n + 1) most ps acts ts (omega arith))

counts : {S : Type 0} (ps : List (Component S)) (acts : List Act) (ss : List S) → Counts (length acts) (run ps acts ss)
counts ps acts ss = counts_from 0 (length acts) ps acts ss (omega arith)

trace_same : {S : Type 0} (hidden : List Name) (ps : List (Component S)) (acts : List Act) (a : Act) (n : ℕ) → n ≤ length acts
    → trace hidden ps acts n ≡ trace hidden ps (acts ++ a ∷ []) n
trace_same hidden ps acts a n l = ap (filter (is_external hidden ps)) (sym (take-append-le n acts (a ∷ []) l))

filter_one : (f : Act → Bool) (a : Act) (b : Bool) → f a ≡ b → filter f (a ∷ []) ≡ (if b then a ∷ [] else [])
filter_one f a true e = rw e refl
filter_one f a false e = rw e refl

trace_more : {S : Type 0} (hidden : List Name) (ps : List (Component S)) (acts : List Act) (a : Act) (n : ℕ) (b : Bool) → n ≡ length acts → is_external hidden ps a ≡ b
    → trace hidden ps acts n ++ (if b then a ∷ [] else []) ≡ trace hidden ps (acts ++ a ∷ []) (n + 1)
trace_more hidden ps acts a n b l x =
    let t : take (n + 1) (acts ++ a ∷ []) ≡ acts ++ a ∷ [] = take_all (n + 1) (acts ++ a ∷ []) (omega (arith, length-append acts (a ∷ []))) in
    let u : take n acts ≡ acts = take_all n acts (omega arith) in
    rw (t, u, ← filter_one (is_external hidden ps) a b x) (sym (filter-append (is_external hidden ps) acts (a ∷ [])))

-- ---- a run whose actions come one by one

pub done_at : (e : End) (n : ℕ) → ending_of e ≡ done n → e ≡ End.Done n
done_at (End.Done k) n e = cc
done_at (End.NotAnAction i) n e = absurd (cc)
done_at (End.NotEnabled i) n e = absurd (cc)
done_at (End.Fault c f i) n e = absurd (cc)

-- no worker is looked for where a run has ended
pub none_after : (e : End) (w : ℕ) → ((k : ℕ) → e ≡ End.Done k → ⊥) → None ≡ worker_after e w
none_after (End.Done k) w h = absurd (h k refl)
none_after (End.NotAnAction i) w h = refl
none_after (End.NotEnabled i) w h = refl
none_after (End.Fault c f i) w h = refl

pub over_begin : (p : Prog) (r : Progress) → r ≡ record { program = p; states = start_states p; end = End.Done 0 } → IsRunOver p [] [] r
over_begin p r e = record {
  program = ap (λ (q : Progress). q.program) e;
  reached = ap reached_by e;
  trace = sym (ap (λ (q : Progress). trace p.hidden (tabled p) [] (performed_by q.end)) e);
}

-- no more actions are performed than came
pub performed_within : (p : Prog) (acts traced : List Act) (r : Progress) → IsRunOver p acts traced r → performed_by r.end ≤ length acts
performed_within p acts traced r over =
    let c : Counts (length acts) (run (tabled p) acts (start_states p)) = counts (tabled p) acts (start_states p) in
    subst (λ (x : Reached (List Val)). x.performed ≤ length acts) (sym over.reached) c.within

module _ (p : Prog) (acts traced : List Act) (a : Act) (r : Progress) (over : IsRunOver p acts traced r) where
  within : performed_by r.end ≤ length acts
  within = performed_within p acts traced r over

  more : run (tabled p) (acts ++ a ∷ []) (start_states p) ≡ with_next (tabled p) a (reached_by r)
  more = run_more 0 (tabled p) acts (start_states p) a ∙ ap (with_next (tabled p) a) (sym over.reached)

  kept : traced ++ [] ≡ trace p.hidden (tabled p) (acts ++ a ∷ []) (performed_by r.end)
  kept = append-nil traced ∙ over.trace ∙ trace_same p.hidden (tabled p) acts a (performed_by r.end) within

  -- the run has ended
  pub over_ended : ((k : ℕ) → r.end ≡ End.Done k → ⊥) → IsRunOver p (acts ++ a ∷ []) (traced ++ []) r
  over_ended h = record {
    program = over.program;
    reached = ended r.end refl ∙ sym more;
    trace = kept;
  }
    where
      ended : (e : End) → r.end ≡ e → reached_by r ≡ with_next (tabled p) a (reached_by r)
      ended (End.Done k) e = absurd (h k e)
      ended (End.NotAnAction i) e = rw e refl
      ended (End.NotEnabled i) e = rw e refl
      ended (End.Fault c f i) e = rw e refl

  -- the action is not performed
  pub over_refused : (n : ℕ) (end : End) (m : Moved (List Val)) (now : Progress) → r.end ≡ End.Done n → m ≡ step (tabled p) a r.states
      → ((ts : List (List Val)) (f : List (List Val) → Reached (List Val)) → after n r.states m f ≡ record { performed = n; states = r.states; ending = ending_of end })
      → performed_by end ≡ n → now.program ≡ p → now.states ≡ r.states → now.end ≡ end → IsRunOver p (acts ++ a ∷ []) (traced ++ []) now
  over_refused n end m now d s f k q t e = record {
    program = q;
    reached =
        let w : with_next (tabled p) a (reached_by r) ≡ after n r.states (step (tabled p) a r.states) (λ ts. run_from (n + 1) (tabled p) [] ts) = rw d refl in
        let v : after n r.states (step (tabled p) a r.states) (λ ts. run_from (n + 1) (tabled p) [] ts) ≡ record { performed = n; states = r.states; ending = ending_of end } =
        ap (λ x. after n r.states x (λ ts. run_from (n + 1) (tabled p) [] ts)) (sym s) ∙ f r.states (λ ts. run_from (n + 1) (tabled p) [] ts) in
        let u : reached_by now ≡ record { performed = n; states = r.states; ending = ending_of end } = rw (e, t, k) refl in
        u ∙ sym (more ∙ w ∙ v);
    trace = let j : performed_by now.end ≡ performed_by r.end = ap performed_by e ∙ k ∙ sym (ap performed_by d) in
        kept ∙ ap (trace p.hidden (tabled p) (acts ++ a ∷ [])) (sym j);
  }

  -- the action is performed
  pub over_next : (n : ℕ) (b : Bool) (now : Progress) → r.end ≡ End.Done n → next now.states ≡ step (tabled p) a r.states → is_external p.hidden (tabled p) a ≡ b
      → now.program ≡ p → now.end ≡ End.Done (n + 1) → IsRunOver p (acts ++ a ∷ []) (traced ++ (if b then a ∷ [] else [])) now
  over_next n b now d s x q e = record {
    program = q;
    reached =
        let w : with_next (tabled p) a (reached_by r) ≡ after n r.states (step (tabled p) a r.states) (λ ts. run_from (n + 1) (tabled p) [] ts) = rw d refl in
        let v : after n r.states (step (tabled p) a r.states) (λ ts. run_from (n + 1) (tabled p) [] ts) ≡ run_from (n + 1) (tabled p) [] now.states =
        ap (λ m. after n r.states m (λ ts. run_from (n + 1) (tabled p) [] ts)) (sym s) in
        let u : reached_by now ≡ run_from (n + 1) (tabled p) [] now.states = rw e refl in
        u ∙ sym (more ∙ w ∙ v);
    trace =
        let c : Counts (length acts) (run (tabled p) acts (start_states p)) = counts (tabled p) acts (start_states p) in
        let all : performed_by r.end ≡ length acts = subst (λ (y : Reached (List Val)). ((k : ℕ) → y.ending ≡ done k → y.performed ≡ length acts)) (sym over.reached) c.all n (ap ending_of d) in
        let g : n ≡ length acts = sym (ap performed_by d) ∙ all in
        let t : traced ≡ trace p.hidden (tabled p) acts n = over.trace ∙ ap (trace p.hidden (tabled p) acts) (ap performed_by d) in
        ap (λ ts. ts ++ (if b then a ∷ [] else [])) t ∙ trace_more p.hidden (tabled p) acts a n b g x ∙ ap (trace p.hidden (tabled p) (acts ++ a ∷ [])) (sym (ap performed_by e));
  }

  -- what has become of the action that was taken
  pub over_took : (shown : List Act) (now : Progress) (n : ℕ) → IsRunOver p (acts ++ a ∷ []) shown now → ending_of r.end ≡ done n
      → reached_by now ≡ after n r.states (step (tabled p) a r.states) (λ ts. run_from (n + 1) (tabled p) [] ts)
  over_took shown now n o e = let d : r.end ≡ End.Done n = done_at r.end n e in o.reached ∙ more ∙ rw d refl
