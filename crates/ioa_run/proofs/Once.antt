-- The schedule machine answers each event in one way.
use Rattle.std.proofs.Common.{◌≡◌, ℕ, List, [], ◌∷◌, Option, None, Some, refl, sym, ◌∙◌, ap, subst}
use Rattle.std.specs.Prelude.{IsSome}
use Rattle.ioa_tree.specs.Components.{Component}
use Rattle.ioa_tree.specs.Steps.{Moved, next, not_an_action, not_enabled, fault, step}
use Rattle.ioa_system.specs.Logs.{worker}
use Rattle.ioa_board.specs.declared.answer.Answer.{Answer}
use Rattle.ioa_board.specs.Boards.{Commits, Failure, Intent, Standing, with_entry, with_failure, Plans, intent}
use Rattle.ioa_run.specs.Schedules.{Answers, Event, Plays, Schedule, Spends, commit, copy, plan_of, with_plan}

module _ {S : Type 0} (w own : ℕ) (m : Moved S) (p : Intent S) where
  plans_once : (a b : Answer) (q r : Option (Intent S)) → Plans w own m p a q → Plans w own m p b r → (a ≡ b) × (q ≡ r)
  plans_once Answer.NotAnAction Answer.NotAnAction q r h k = (refl, h.1 ∙ sym k.1)
  plans_once Answer.NotAnAction Answer.NotYours q r h k = absurd (k.0 h.0)
  plans_once Answer.NotAnAction Answer.NotEnabled q r h k = let e : not_an_action ≡ not_enabled = sym h.0 ∙ k.1 in absurd (cc)
  plans_once Answer.NotAnAction Answer.Planned q r h k = absurd (k.1 h.0)
  plans_once Answer.NotAnAction _ q r h k = absurd k
  plans_once Answer.NotYours Answer.NotAnAction q r h k = absurd (h.0 k.0)
  plans_once Answer.NotYours Answer.NotYours q r h k = (refl, h.2 ∙ sym k.2)
  plans_once Answer.NotYours Answer.NotEnabled q r h k = absurd (h.1 k.0)
  plans_once Answer.NotYours Answer.Planned q r h k = absurd (h.1 k.0)
  plans_once Answer.NotYours _ q r h k = absurd k
  plans_once Answer.NotEnabled Answer.NotAnAction q r h k = let e : not_an_action ≡ not_enabled = sym k.0 ∙ h.1 in absurd (cc)
  plans_once Answer.NotEnabled Answer.NotYours q r h k = absurd (k.1 h.0)
  plans_once Answer.NotEnabled Answer.NotEnabled q r h k = (refl, h.2 ∙ sym k.2)
  plans_once Answer.NotEnabled Answer.Planned q r h k = absurd (k.2 h.1)
  plans_once Answer.NotEnabled _ q r h k = absurd k
  plans_once Answer.Planned Answer.NotAnAction q r h k = absurd (h.1 k.0)
  plans_once Answer.Planned Answer.NotYours q r h k = absurd (k.1 h.0)
  plans_once Answer.Planned Answer.NotEnabled q r h k = absurd (h.2 k.1)
  plans_once Answer.Planned Answer.Planned q r h k = (refl, h.3 ∙ sym k.3)
  plans_once Answer.Planned _ q r h k = absurd k
  plans_once _ b q r h k = absurd h

not_both : (o : Option Failure) → IsSome o → o ≡ None → ⊥
not_both None s e = cc
not_both (Some r) s e = cc

module _ {S : Type 0} (ps : List (Component S)) (w : ℕ) (p : Intent S) (b : Standing S) where
  commits_once : (x y : Answer) (t u : Standing S) → Commits ps w p b x t → Commits ps w p b y u → (x ≡ y) × (t ≡ u)
  commits_once Answer.Stopped Answer.Stopped t u h k = (refl, h.1 ∙ sym k.1)
  commits_once Answer.Stopped Answer.Stale t u h k = absurd (not_both b.failure h.0 k.0)
  commits_once Answer.Stopped (Answer.Faulted c f) t u h k = absurd (not_both b.failure h.0 k.0.calm)
  commits_once Answer.Stopped (Answer.Committed n) t u h k = absurd (not_both b.failure h.0 k.0.calm)
  commits_once Answer.Stopped _ t u h k = absurd k
  commits_once Answer.Stale Answer.Stopped t u h k = absurd (not_both b.failure k.0 h.0)
  commits_once Answer.Stale Answer.Stale t u h k = (refl, h.2 ∙ sym k.2)
  commits_once Answer.Stale (Answer.Faulted c f) t u h k = absurd (h.1 k.0.fresh)
  commits_once Answer.Stale (Answer.Committed n) t u h k = absurd (h.1 k.0.fresh)
  commits_once Answer.Stale _ t u h k = absurd k
  commits_once (Answer.Faulted c f) Answer.Stopped t u h k = absurd (not_both b.failure k.0 h.0.calm)
  commits_once (Answer.Faulted c f) Answer.Stale t u h k = absurd (k.1 h.0.fresh)
  commits_once (Answer.Faulted c f) (Answer.Faulted d g) t u h k =
      let e : fault c f ≡ fault d g = sym h.1 ∙ k.1 in
      let i : c ≡ d = cc in
      let j : f ≡ g = cc in (
        ap (λ x. Answer.Faulted x f) i ∙ ap (Answer.Faulted d) j,
        h.2 ∙ ap (λ x. with_failure b w p.action x f) i ∙ ap (with_failure b w p.action d) j ∙ sym k.2,
      )
  commits_once (Answer.Faulted c f) (Answer.Committed n) t u h k = let e : fault c f ≡ next k.2.0 = sym h.1 ∙ k.2.1 in absurd (cc)
  commits_once (Answer.Faulted c f) _ t u h k = absurd k
  commits_once (Answer.Committed n) Answer.Stopped t u h k = absurd (not_both b.failure k.0 h.0.calm)
  commits_once (Answer.Committed n) Answer.Stale t u h k = absurd (k.1 h.0.fresh)
  commits_once (Answer.Committed n) (Answer.Faulted c f) t u h k = let e : fault c f ≡ next h.2.0 = sym k.1 ∙ h.2.1 in absurd (cc)
  commits_once (Answer.Committed n) (Answer.Committed o) t u h k =
      let e : next h.2.0 ≡ next k.2.0 = sym h.2.1 ∙ k.2.1 in
      let i : h.2.0 ≡ k.2.0 = cc in
      (ap Answer.Committed (h.1 ∙ sym k.1), h.2.2 ∙ ap (with_entry b w p.action) i ∙ sym k.2.2)
  commits_once (Answer.Committed n) _ t u h k = absurd k
  commits_once _ y t u h k = absurd h

spends_once : {S : Type 0} (ps : List (Component S)) (w : ℕ) (o : Option (Intent S)) (s : Schedule S) (x y : Answer) (t u : Schedule S) → Spends ps w o s x t → Spends ps w o s y u
    → (x ≡ y) × (t ≡ u)
spends_once ps w None s x y t u h k = (h.0 ∙ sym k.0, h.1 ∙ sym k.1)
spends_once ps w (Some p) s x y t u h k =
    let e = commits_once ps w p s.board x y h.0 k.0 h.1 k.1 in
    (e.0, h.2 ∙ ap (λ b. record (with_plan s w None) { board = b }) e.1 ∙ sym k.2)

answers_once : {S : Type 0} (ps : List (Component S)) (e : Event) (s : Schedule S) (x y : Answer) (t u : Schedule S) → Answers ps e s x t → Answers ps e s y u → (x ≡ y) × (t ≡ u)
answers_once ps (copy w a) s x y t u h k =
    let e = plans_once w (worker ps a) (step ps a s.board.states) (intent ps a s.board.states) x y h.0 k.0 h.1 k.1 in
    (e.0, h.2 ∙ ap (with_plan s w) e.1 ∙ sym k.2)
answers_once ps (commit w) s x y t u h k = spends_once ps w (plan_of s w) s x y t u h k

pub plays_once : {S : Type 0} (ps : List (Component S)) (es : List Event) (s : Schedule S) (xs ys : List Answer) (t u : Schedule S) → Plays ps es s xs t → Plays ps es s ys u
    → (xs ≡ ys) × (t ≡ u)
plays_once ps [] s [] [] t u h k = (refl, h ∙ sym k)
plays_once ps [] s [] (y ∷ ys) t u h k = absurd k
plays_once ps [] s (x ∷ xs) ys t u h k = absurd h
plays_once ps (e ∷ es) s [] ys t u h k = absurd h
plays_once ps (e ∷ es) s (x ∷ xs) [] t u h k = absurd k
plays_once {S} ps (e ∷ es) s (x ∷ xs) (y ∷ ys) t u h k =
    let a = answers_once ps e s x y h.0 k.0 h.1 k.1 in
    let more = plays_once ps es k.0 xs ys t u (subst (λ (v : Schedule S). Plays ps es v xs t) a.1 h.2) k.2 in
    (ap (λ z. z ∷ xs) a.0 ∙ ap (λ zs. y ∷ zs) more.0, more.1)
