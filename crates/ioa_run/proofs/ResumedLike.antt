-- Logs are resumed alike by components that step alike.
use Rattle.std.proofs.Common.{◌≡◌, ℕ, ◌+◌, ◌==◌, Bool, true, false, List, [], ◌∷◌, length, Result, Ok, Err, refl, ap}
use Rattle.ioa_value.specs.Actions.{Act}
use Rattle.ioa_tree.specs.Components.{Component}
use Rattle.ioa_tree.specs.Likes.{AllRelated, MovesLike}
use Rattle.ioa_tree.specs.Runs.{Ending, done, not_an_action_at, not_enabled_at, fault_at}
use Rattle.ioa_tree.specs.Steps.{step}
use Rattle.ioa_system.specs.Logs.{Logged, worker}
use Rattle.ioa_board.specs.Boards.{Standing, begun, attempt}
use Rattle.ioa_board.specs.Resuming.{counted_as, ended_as, followed, is_committed, resumption, then_follow}
use Rattle.ioa_run.specs.Subjects.{BoardsLike, ResumedLike}
use Rattle.ioa_run.proofs.Alike.{attempt_like}

module _ {S T : Type 0} (R : ℕ → S → T → Type 0) where
  then_like : (i : ℕ) (x y : Bool) (b : Standing S) (d : Standing T) (f : Standing S → Result (Standing S) ℕ) (g : Standing T → Result (Standing T) ℕ) → x ≡ y → BoardsLike R b d
      → ((c : Standing S) (e : Standing T) → BoardsLike R c e → ResumedLike R (f c) (g e)) → ResumedLike R (then_follow i x b f) (then_follow i y d g)
  then_like i true true b d f g e l more = more b d l
  then_like i true false b d f g e l more = absurd (cc)
  then_like i false true b d f g e l more = absurd (cc)
  then_like i false false b d f g e l more = refl

  counted_like : (n many : ℕ) (r : Result (Standing S) ℕ) (q : Result (Standing T) ℕ) → ResumedLike R r q → ResumedLike R (counted_as n many r) (counted_as n many q)
  counted_like n many (Ok b) (Ok d) l = by (n == many) refl
    where
      by : (t : Bool) → (n == many) ≡ t → ResumedLike R (counted_as n many (Ok b)) (counted_as n many (Ok d))
      by true e = rw e l
      by false e = rw e refl
  counted_like n many (Ok b) (Err j) l = absurd l
  counted_like n many (Err i) (Ok d) l = absurd l
  counted_like n many (Err i) (Err j) l = let e : i ≡ j = l in cc

  ended_like : (e : Ending) (many : ℕ) (r : Result (Standing S) ℕ) (q : Result (Standing T) ℕ) → ResumedLike R r q → ResumedLike R (ended_as e many r) (ended_as e many q)
  ended_like (done n) many r q l = counted_like n many r q l
  ended_like (not_an_action_at n) many r q l = refl
  ended_like (not_enabled_at n) many r q l = refl
  ended_like (fault_at c f n) many r q l = refl

  module _ (ps : List (Component S)) (qs : List (Component T))
      (steps : (a : Act) (ss : List S) (ts : List T) → AllRelated R 0 ss ts → MovesLike R 0 (step ps a ss) (step qs a ts))
      (workers : (a : Act) → worker ps a ≡ worker qs a) where
    followed_like : (i : ℕ) (es : List (ℕ × Act)) (b : Standing S) (d : Standing T) → BoardsLike R b d → ResumedLike R (followed ps i es b) (followed qs i es d)
    followed_like i [] b d l = l
    followed_like i (e ∷ es) b d l =
        let k = attempt_like R ps qs steps workers e.0 e.1 b d l in
        then_like i (is_committed (attempt ps e.0 e.1 b).0) (is_committed (attempt qs e.0 e.1 d).0) (attempt ps e.0 e.1 b).1 (attempt qs e.0 e.1 d).1
        (λ c. followed ps (i + 1) es c) (λ c. followed qs (i + 1) es c) (ap is_committed k.0) k.1 (λ c e' m. followed_like (i + 1) es c e' m)

    pub resumption_like : (ss : List S) (ts : List T) (log : Logged) → AllRelated R 0 ss ts → ResumedLike R (resumption ps ss log) (resumption qs ts log)
    resumption_like ss ts log r =
        ended_like log.ending (length log.entries) (followed ps 0 log.entries (begun ss)) (followed qs 0 log.entries (begun ts))
        (followed_like 0 log.entries (begun ss) (begun ts) (record { history = refl; failure = refl; states = r }))
