-- What each step keeps, a run keeps.
use Rattle.std.proofs.Common.{◌≡◌, ℕ, ◌+◌, List, [], ◌∷◌, ◌++◌, take, refl, sym, ap, subst, ◌∙◌, arith, append_assoc, append-nil, suc}
use Rattle.ioa_value.specs.Actions.{Act}
use Rattle.ioa_tree.specs.Components.{Component}
use Rattle.ioa_tree.specs.Steps.{Moved, next, not_an_action, not_enabled, fault, step}
use Rattle.ioa_tree.specs.Runs.{Ending, Reached, after, done, not_an_action_at, not_enabled_at, fault_at, run_from, run}

-- a fact about the actions performed so far and the states reached
module _ {S : Type 0} (ps : List (Component S)) (I : List Act → List S → Type 0)
    (keeps : (past : List Act) (a : Act) (ss ts : List S) → I past ss → step ps a ss ≡ next ts → I (past ++ a ∷ []) ts) where
  -- of a run with n actions performed before
  record Goes (n : ℕ) (past acts : List Act) (r : Reached S) : Type 0 where
    pub more : ℕ
    pub count : r.performed ≡ n + more
    pub fact : I (past ++ take more acts) r.states

  still : (n : ℕ) (past acts : List Act) (ss : List S) (e : Ending) → I past ss → Goes n past acts (record { performed = n; states = ss; ending = e })
  still n past acts ss e i = record { more = 0; count = omega arith; fact = subst (λ p. I p ss) (sym (append-nil past)) i }

  after_step : (n : ℕ) (past : List Act) (a : Act) (acts : List Act) (ss : List S) (m : Moved S) → step ps a ss ≡ m → I past ss
      → ((past : List Act) (ts : List S) → I past ts → Goes (n + 1) past acts (run_from (n + 1) ps acts ts))
      → Goes n past (a ∷ acts) (after n ss m (λ ts. run_from (n + 1) ps acts ts))
  after_step n past a acts ss (next ts) e i later =
      let g = later (past ++ a ∷ []) ts (keeps past a ss ts i e) in
      record {
        more = 1 + g.more;
        count = omega (arith, g.count);
        fact = subst (λ p. I p (run_from (n + 1) ps acts ts).states) (append_assoc past (a ∷ []) (take g.more acts) ∙ ap (λ z. past ++ z) (cons_take a g.more acts)) g.fact;
      }
    where
      cons_take : (a : Act) (n : ℕ) (acts : List Act) → a ∷ take n acts ≡ take (1 + n) (a ∷ acts)
      cons_take a n acts = rw (one_more n) refl
        where
          one_more : (n : ℕ) → 1 + n ≡ suc n
          one_more n = omega arith
  after_step n past a acts ss not_an_action e i later = still n past (a ∷ acts) ss (not_an_action_at n) i
  after_step n past a acts ss not_enabled e i later = still n past (a ∷ acts) ss (not_enabled_at n) i
  after_step n past a acts ss (fault c f) e i later = still n past (a ∷ acts) ss (fault_at c f n) i

  goes : (n : ℕ) (past acts : List Act) (ss : List S) → I past ss → Goes n past acts (run_from n ps acts ss)
  goes n past [] ss i = still n past [] ss (done n) i
  goes n past (a ∷ acts) ss i = after_step n past a acts ss (step ps a ss) refl i (λ p ts j. goes (n + 1) p acts ts j)

  pub run_keeps : (acts : List Act) (ss : List S) → I [] ss → I (take (run ps acts ss).performed acts) (run ps acts ss).states
  run_keeps acts ss i =
      let g = goes 0 [] acts ss i in
      let count : g.more ≡ (run ps acts ss).performed = omega (arith, g.count) in
      subst (λ n. I (take n acts) (run ps acts ss).states) count g.fact
