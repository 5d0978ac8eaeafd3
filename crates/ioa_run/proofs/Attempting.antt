-- An attempt is the schedule machine's answer to a copy and the commit after it.
use Rattle.std.proofs.Common.{◌≡◌, ◌≢◌, ℕ, zero, suc, ◌<◌, ◌==◌, List, [], ◌∷◌, length, Bool, Option, None, Some, refl, sym, ◌∙◌, ap, subst, arith, inl, inr, if◌then◌else◌}
use Rattle.std.specs.Prelude.{IsSome, slice_get, slice_set, unwrap_or}
use Rattle.std.proofs.lemmas.Bool.Decides.{eqb_tells}
use Rattle.ioa_value.specs.Actions.{Act}
use Rattle.ioa_tree.specs.Components.{Component}
use Rattle.ioa_tree.specs.Steps.{Moved, next, not_an_action, not_enabled, fault, step}
use Rattle.ioa_system.specs.Logs.{worker}
use Rattle.ioa_board.specs.declared.answer.Answer.{Answer}
use Rattle.ioa_run.specs.Attempts.{AttemptsAnswer, IsAttempt, IsCommitted}
use Rattle.ioa_board.specs.Boards.{Commits, Failure, Intent, Standing, intent, attempt, not_own, own_attempt}
use Rattle.ioa_run.specs.Schedules.{Schedule, Spends, plan_of, with_plan}

pub set_there : {X : Type 0} (xs : List X) (i : ℕ) (x : X) → i < length xs → slice_get (slice_set xs i x) i ≡ Some x
set_there [] i x l = absurd (omega (arith, l))
set_there (y ∷ ys) zero x l = refl
set_there (y ∷ ys) (suc i) x l = set_there ys i x (omega (arith, l))

module _ {S : Type 0} (ps : List (Component S)) (w : ℕ) (a : Act) (s : Schedule S) (own : w ≡ worker ps a) (within : w < length s.plans) where
  -- a plan that is made is there to be committed
  committed : (x : Answer) (b : Standing S) → step ps a s.board.states ≢ not_an_action → step ps a s.board.states ≢ not_enabled
      → Commits ps w (intent ps a s.board.states) s.board x b → IsCommitted ps w a s x b
  committed x b known enabled c =
      let p : Intent S = intent ps a s.board.states in
      let t : Schedule S = with_plan s w (Some p) in
      let u : Schedule S = record (with_plan t w None) { board = b } in
      let there : plan_of t w ≡ Some p = ap (λ o. unwrap_or o None) (set_there s.plans w (Some p) within) in
      let spends : Spends ps w (Some p) t x u = (b, c, refl) in
      (t, u, (Some p, (own, known, enabled, refl), refl), subst (λ o. Spends ps w o t x u) (sym there) spends, refl)

  own_attempts : (m : Moved S) (f : Option Failure) → step ps a s.board.states ≡ m → s.board.failure ≡ f
      → IsAttempt ps w a s (own_attempt w a s.board f m).0 (own_attempt w a s.board f m).1
  own_attempts not_an_action f e g = (with_plan s w None, (None, (e, refl), refl), refl, refl)
  own_attempts not_enabled f e g = (with_plan s w None, (None, (own, e, refl), refl), refl, refl)
  own_attempts (next ts) (Some r) e g =
      committed Answer.Stopped s.board
      (λ x. let q : next ts ≡ not_an_action = sym e ∙ x in absurd (cc)) (λ x. let q : next ts ≡ not_enabled = sym e ∙ x in absurd (cc))
      (subst IsSome (sym g) refl, refl)
  own_attempts (fault c d) (Some r) e g =
      committed Answer.Stopped s.board
      (λ x. let q : fault c d ≡ not_an_action = sym e ∙ x in absurd (cc)) (λ x. let q : fault c d ≡ not_enabled = sym e ∙ x in absurd (cc))
      (subst IsSome (sym g) refl, refl)
  own_attempts (next ts) None e g =
      committed (Answer.Committed (length s.board.history)) _
      (λ x. let q : next ts ≡ not_an_action = sym e ∙ x in absurd (cc)) (λ x. let q : next ts ≡ not_enabled = sym e ∙ x in absurd (cc))
      (record { calm = g; fresh = refl }, refl, (ts, e, refl))
  own_attempts (fault c d) None e g =
      committed (Answer.Faulted c d) _
      (λ x. let q : fault c d ≡ not_an_action = sym e ∙ x in absurd (cc)) (λ x. let q : fault c d ≡ not_enabled = sym e ∙ x in absurd (cc))
      (record { calm = g; fresh = refl }, e, refl)

module _ {S : Type 0} (ps : List (Component S)) (w : ℕ) (a : Act) (s : Schedule S) (other : w ≢ worker ps a) where
  others_attempt : (m : Moved S) → step ps a s.board.states ≡ m → IsAttempt ps w a s (not_own m) s.board
  others_attempt not_an_action e = (with_plan s w None, (None, (e, refl), refl), refl, refl)
  others_attempt not_enabled e = (with_plan s w None, (None, (λ x. let q : not_enabled ≡ not_an_action = sym e ∙ x in absurd (cc), other, refl), refl), refl, refl)
  others_attempt (next ts) e = (with_plan s w None, (None, (λ x. let q : next ts ≡ not_an_action = sym e ∙ x in absurd (cc), other, refl), refl), refl, refl)
  others_attempt (fault c d) e = (with_plan s w None, (None, (λ x. let q : fault c d ≡ not_an_action = sym e ∙ x in absurd (cc), other, refl), refl), refl, refl)

abbrev IsSo : {S : Type 0} → List (Component S) → ℕ → Act → Schedule S → Bool → Type 0
IsSo ps w a s own =
    IsAttempt ps w a s (if own then own_attempt w a s.board s.board.failure (step ps a s.board.states) else (not_own (step ps a s.board.states), s.board)).0
    (if own then own_attempt w a s.board s.board.failure (step ps a s.board.states) else (not_own (step ps a s.board.states), s.board)).1

pub attempt_answers : {S : Type 0} (ps : List (Component S)) (w : ℕ) (a : Act) (s : Schedule S) → w < length s.plans
    → IsAttempt ps w a s (attempt ps w a s.board).0 (attempt ps w a s.board).1
attempt_answers ps w a s within =
    elim (eqb_tells w (worker ps a)) as (λ _. IsSo ps w a s (w == worker ps a)) [
      | inl p ↦ subst (IsSo ps w a s) (sym p.0) (own_attempts ps w a s p.1 within (step ps a s.board.states) s.board.failure refl refl)
      | inr p ↦ subst (IsSo ps w a s) (sym p.0) (others_attempt ps w a s p.1 (step ps a s.board.states) refl)
    ]

pub attempts_answer : AttemptsAnswer
attempts_answer ps w a s within = attempt_answers ps w a s within
