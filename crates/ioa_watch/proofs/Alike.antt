-- Components that are alike refuse the same of a stream, and count the same.
use Rattle.std.proofs.Common.{◌≡◌, ℕ, ◌+◌, List, [], ◌∷◌, Option, None, Some, refl, sym, ap, subst, ◌∙◌}
use Rattle.ioa_value.specs.Actions.{Name, Act}
use Rattle.ioa_value.specs.Table.{place_from}
use Rattle.ioa_tree.specs.Components.{Component}
use Rattle.ioa_tree.specs.Likes.{AllLike, AllRelated, MovesLike}
use Rattle.ioa_tree.specs.Runs.{Ending, not_an_action_at, not_enabled_at, fault_at}
use Rattle.ioa_tree.specs.Steps.{Moved, next, not_an_action, not_enabled, fault, step}
use Rattle.ioa_tree.proofs.Simulation.{step_like}
use Rattle.ioa_watch.specs.Watched.{Watching, answered, hearing, hearing_all, one_more, starting, tried}
use Rattle.ioa_watch.proofs.Hearing.{hearing_still, hearing_tried}

-- the same is kept of states that are related
pub record Same {S T : Type 0} (R : ℕ → S → T → Type 0) (w : Watching S) (v : Watching T) : Type 0 where
  pub states : AllRelated R 0 w.states v.states
  pub heard : w.heard ≡ v.heard
  pub counts : w.counts ≡ v.counts
  pub others : w.others ≡ v.others
  pub refusal : w.refusal ≡ v.refusal

module _ {S T : Type 0} (R : ℕ → S → T → Type 0) (names : List Name) (ps : List (Component S)) (qs : List (Component T)) (like : AllLike R 0 ps qs) where
  module _ (w : Watching S) (v : Watching T) (h : Same R w v) where
    answered_same : (i : ℕ) (m : Moved S) (m' : Moved T) → MovesLike R 0 m m' → Same R (answered i m w) (answered i m' v)
    answered_same i (next ss) m' (ts, e, r) =
        subst (λ x. Same R (answered i (next ss) w) (answered i x v)) (sym e)
        (record { states = r; heard = ap (λ n. n + 1) h.heard; counts = ap (one_more i) h.counts; others = h.others; refusal = h.refusal })
    answered_same i not_an_action m' e =
        subst (λ x. Same R (answered i not_an_action w) (answered i x v)) (sym e)
        (record { states = h.states; heard = h.heard; counts = h.counts; others = h.others; refusal = ap (λ n. Some (not_an_action_at n)) h.heard })
    answered_same i not_enabled m' e =
        subst (λ x. Same R (answered i not_enabled w) (answered i x v)) (sym e)
        (record { states = h.states; heard = h.heard; counts = h.counts; others = h.others; refusal = ap (λ n. Some (not_enabled_at n)) h.heard })
    answered_same i (fault c f) m' e =
        subst (λ x. Same R (answered i (fault c f) w) (answered i x v)) (sym e)
        (record { states = h.states; heard = h.heard; counts = h.counts; others = h.others; refusal = ap (λ n. Some (fault_at c f n)) h.heard })

    tried_same : (o : Option ℕ) (a : Act) → Same R (tried names ps o a w) (tried names qs o a v)
    tried_same (Some i) a = answered_same i (step ps a w.states) (step qs a v.states) (step_like R ps qs a w.states v.states like h.states)
    tried_same None a = record { states = h.states; heard = ap (λ n. n + 1) h.heard; counts = h.counts; others = ap (λ n. n + 1) h.others; refusal = h.refusal }

    hearing_same : (a : Act) → Same R (hearing names ps a w) (hearing names qs a v)
    hearing_same a = by w.refusal refl
      where
        by : (o : Option Ending) → w.refusal ≡ o → Same R (hearing names ps a w) (hearing names qs a v)
        by (Some e) k =
            subst (λ x. Same R x (hearing names qs a v)) (sym (hearing_still names ps a w e k)) (subst (Same R w) (sym (hearing_still names qs a v e (sym h.refusal ∙ k))) h)
        by None k =
            subst (λ x. Same R x (hearing names qs a v)) (sym (hearing_tried names ps a w k))
            (subst (Same R (tried names ps (place_from 0 names a.name) a w)) (sym (hearing_tried names qs a v (sym h.refusal ∙ k))) (tried_same (place_from 0 names a.name) a))

  pub hearing_all_same : (acts : List Act) (w : Watching S) (v : Watching T) → Same R w v → Same R (hearing_all names ps acts w) (hearing_all names qs acts v)
  hearing_all_same [] w v h = h
  hearing_all_same (a ∷ acts) w v h = hearing_all_same acts (hearing names ps a w) (hearing names qs a v) (hearing_same w v h a)

  pub starting_same : (ss : List S) (ts : List T) → AllRelated R 0 ss ts → Same R (starting names ss) (starting names ts)
  starting_same ss ts r = record { states = r; heard = refl; counts = refl; others = refl; refusal = refl }
