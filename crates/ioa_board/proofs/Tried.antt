-- What an attempt comes to, by what planning and committing answer.
use Rattle.std.proofs.Common.{◌≡◌, ◌≢◌, ℕ, ◌+◌, ◌==◌, List, [], ◌∷◌, length, Bool, true, false, cond, Option, None, Some, Result, Ok, Err, refl, sym, ◌∙◌, ap, subst, inl, inr, if◌then◌else◌}
use Rattle.std.specs.Prelude.{IsSome, unwrap_or, ◌||◌}
use Rattle.std.specs.List.{list_any}
use Rattle.std.proofs.lemmas.Bool.Decides.{eqb_tells}
use Rattle.ioa_arithmetic.specs.declared.arithmetic.Fault.{Fault}
use Rattle.ioa_value.specs.Actions.{Act}
use Rattle.ioa_tree.specs.Components.{Component, has, owns}
use Rattle.ioa_tree.specs.Steps.{Moved, allowed, asked, effect_on, effects, free, owned, next, not_an_action, not_enabled, fault, owner, owner_from, participants, participants_from, step, then_rest, with_state}
use Rattle.ioa_system.specs.Logs.{worker}
use Rattle.ioa_board.specs.declared.answer.Answer.{Answer}
use Rattle.ioa_board.specs.Boards.{Commits, Failure, Intent, Standing, with_entry, Plans, intent, attempt, not_own, own_attempt}

-- ---- whose action it is

module _ {S : Type 0} (ps : List (Component S)) (w : ℕ) (a : Act) (b : Standing S) where
  abbrev by_owner : Bool → Answer × Standing S
  by_owner own = if own then own_attempt w a b b.failure (step ps a b.states) else (not_own (step ps a b.states), b)

  pub own_is : w ≡ worker ps a → attempt ps w a b ≡ own_attempt w a b b.failure (step ps a b.states)
  own_is e =
      elim (eqb_tells w (worker ps a)) as (λ _. by_owner (w == worker ps a) ≡ own_attempt w a b b.failure (step ps a b.states)) [
        | inl p ↦ ap by_owner p.0
        | inr p ↦ absurd (p.1 e)
      ]

  pub other_is : w ≢ worker ps a → attempt ps w a b ≡ (not_own (step ps a b.states), b)
  other_is d =
      elim (eqb_tells w (worker ps a)) as (λ _. by_owner (w == worker ps a) ≡ (not_own (step ps a b.states), b)) [
        | inl p ↦ absurd (d p.1)
        | inr p ↦ ap by_owner p.0
      ]

-- ---- what cannot be planned

others_answer : {S : Type 0} (m : Moved S) → m ≢ not_an_action → not_own m ≡ Answer.NotYours
others_answer not_an_action d = absurd (d refl)
others_answer not_enabled d = refl
others_answer (next ts) d = refl
others_answer (fault c f) d = refl

module _ {S : Type 0} (ps : List (Component S)) (w : ℕ) (a : Act) (b : Standing S) where
  unknown : step ps a b.states ≡ not_an_action → attempt ps w a b ≡ (Answer.NotAnAction, b)
  unknown e =
      elim (eqb_tells w (worker ps a)) as (λ _. attempt ps w a b ≡ (Answer.NotAnAction, b)) [
        | inl p ↦ own_is ps w a b p.1 ∙ ap (own_attempt w a b b.failure) e
        | inr p ↦ other_is ps w a b p.1 ∙ ap (λ m. (not_own m, b)) e
      ]

  -- a plan that is refused
  pub refused_attempt : (p : Intent S) (x : Answer) (q : Option (Intent S)) → x ≢ Answer.Planned → Plans w (worker ps a) (step ps a b.states) p x q → attempt ps w a b ≡ (x, b)
  refused_attempt p Answer.NotAnAction q d h = unknown h.0
  refused_attempt p Answer.NotYours q d h = other_is ps w a b h.1 ∙ ap (λ x. (x, b)) (others_answer (step ps a b.states) h.0)
  refused_attempt p Answer.NotEnabled q d h = own_is ps w a b h.0 ∙ ap (own_attempt w a b b.failure) h.1
  refused_attempt p Answer.Planned q d h = absurd (d refl)
  refused_attempt p Answer.NoPlan q d h = absurd h
  refused_attempt p Answer.Stopped q d h = absurd h
  refused_attempt p Answer.Stale q d h = absurd h
  refused_attempt p (Answer.Faulted c f) q d h = absurd h
  refused_attempt p (Answer.Committed n) q d h = absurd h

  -- another worker's action
  pub foreign_attempt : w ≢ worker ps a → step ps a b.states ≢ not_an_action → attempt ps w a b ≡ (Answer.NotYours, b)
  foreign_attempt d k = other_is ps w a b d ∙ ap (λ x. (x, b)) (others_answer (step ps a b.states) k)

  -- a worker's own action, or one that no component has, where nothing has faulted
  own_unless : (m : Moved S) → step ps a b.states ≡ m → w ≢ worker ps a → (step ps a b.states ≢ not_an_action → w ≡ worker ps a) → attempt ps w a b ≡ own_attempt w a b None m
  own_unless not_an_action e d h = unknown e
  own_unless not_enabled e d h = absurd (d (h (λ x. let q : not_enabled ≡ not_an_action = sym e ∙ x in cc)))
  own_unless (next ts) e d h = absurd (d (h (λ x. let q : next ts ≡ not_an_action = sym e ∙ x in cc)))
  own_unless (fault c f) e d h = absurd (d (h (λ x. let q : fault c f ≡ not_an_action = sym e ∙ x in cc)))

  pub calm_attempt : b.failure ≡ None → (step ps a b.states ≢ not_an_action → w ≡ worker ps a) → attempt ps w a b ≡ own_attempt w a b None (step ps a b.states)
  calm_attempt calm h =
      elim (eqb_tells w (worker ps a)) as (λ _. attempt ps w a b ≡ own_attempt w a b None (step ps a b.states)) [
        | inl p ↦ own_is ps w a b p.1 ∙ ap (λ o. own_attempt w a b o (step ps a b.states)) calm
        | inr p ↦ own_unless (step ps a b.states) refl p.1 h
      ]

-- ---- what is planned and committed at once

stopped : {S : Type 0} (w : ℕ) (a : Act) (b : Standing S) (f : Option Failure) (m : Moved S) → IsSome f → m ≢ not_an_action → m ≢ not_enabled → own_attempt w a b f m ≡ (Answer.Stopped, b)
stopped w a b None m s k e = absurd (cc)
stopped w a b (Some r) (next ts) s k e = refl
stopped w a b (Some r) (fault c f) s k e = refl
stopped w a b (Some r) not_an_action s k e = absurd (k refl)
stopped w a b (Some r) not_enabled s k e = absurd (e refl)

module _ {S : Type 0} (ps : List (Component S)) (w : ℕ) (a : Act) (b b' : Standing S) (own : w ≡ worker ps a) (known : step ps a b.states ≢ not_an_action) (enabled : step ps a b.states ≢ not_enabled) where
  pub committed_attempt : (x : Answer) → Commits ps w (intent ps a b.states) b x b' → attempt ps w a b ≡ (x, b')
  committed_attempt Answer.Stopped h = own_is ps w a b own ∙ stopped w a b b.failure (step ps a b.states) h.0 known enabled ∙ ap (λ c. (Answer.Stopped, c)) (sym h.1)
  committed_attempt Answer.Stale h = absurd (h.1 refl)
  committed_attempt (Answer.Faulted c f) h =
      own_is ps w a b own ∙ ap (λ o. own_attempt w a b o (step ps a b.states)) h.0.calm ∙ ap (own_attempt w a b None) h.1 ∙ ap (λ d. (Answer.Faulted c f, d)) (sym h.2)
  committed_attempt (Answer.Committed n) h =
      own_is ps w a b own ∙ ap (λ o. own_attempt w a b o (step ps a b.states)) h.0.calm ∙ ap (own_attempt w a b None) h.2.1
      ∙ ap (λ k. (Answer.Committed k, with_entry b w a h.2.0)) (sym h.1) ∙ ap (λ d. (Answer.Committed n, d)) (sym h.2.2)
  committed_attempt Answer.NotAnAction h = absurd h
  committed_attempt Answer.NotYours h = absurd h
  committed_attempt Answer.NotEnabled h = absurd h
  committed_attempt Answer.Planned h = absurd h
  committed_attempt Answer.NoPlan h = absurd h

-- ---- inputs of the composition are always planned

not_owned : {X Y : Type 0} (own : Bool) (x : X) (o : Option X) (y u z : Y) → cond own (Some x) o ≡ None → (o ≡ None → z ≡ y) → cond own u z ≡ y
not_owned true x o y u z f h = absurd (cc)
not_owned false x o y u z f h = h f

owned_from : {S : Type 0} (i : ℕ) (ps : List (Component S)) (a : Act) (ss : List S) → owner_from i ps a ≡ None → asked i ps a ss ≡ free
owned_from i [] a ss e = refl
owned_from i (p ∷ ps) a [] e = refl
owned_from i (p ∷ ps) a (s ∷ ss) e = not_owned (owns a p) i (owner_from (i + 1) ps a) free (owned i (p.guard a s)) (asked (i + 1) ps a ss) e (owned_from (i + 1) ps a ss)

data Performs {S : Type 0} (m : Moved S) : Type 0 where
  goes : (ts : List S) → m ≡ next ts → Performs m
  breaks : (c : ℕ) (f : Fault) → m ≡ fault c f → Performs m

then_performs : {S : Type 0} (i : ℕ) (r : Result S Fault) (m : Moved S) → Performs m → Performs (then_rest i r m)
then_performs i (Err f) m h = breaks i f refl
then_performs i (Ok t) m (goes ts e) = goes (t ∷ ts) (ap (with_state t) e)
then_performs i (Ok t) m (breaks c f e) = breaks c f (ap (with_state t) e)

effects_perform : {S : Type 0} (i : ℕ) (ps : List (Component S)) (a : Act) (ss : List S) → Performs (effects i ps a ss)
effects_perform i [] a ss = goes [] refl
effects_perform i (p ∷ ps) a [] = goes [] refl
effects_perform i (p ∷ ps) a (s ∷ ss) = then_performs i (effect_on p a s) (effects (i + 1) ps a ss) (effects_perform (i + 1) ps a ss)

or_later : {X : Type 0} (b c : Bool) (x : X) (xs : List X) → cond b (x ∷ xs) xs ≢ [] → (xs ≢ [] → c ≡ true) → (b || c) ≡ true
or_later true c x xs d h = refl
or_later false c x xs d h = h d

some_has : {S : Type 0} (i : ℕ) (ps : List (Component S)) (a : Act) → participants_from i ps a ≢ [] → list_any (has a) ps ≡ true
some_has i [] a d = absurd (d refl)
some_has i (p ∷ ps) a d = or_later (has a p) (list_any (has a) ps) i (participants_from (i + 1) ps a) d (some_has (i + 1) ps a)

module _ {S : Type 0} (ps : List (Component S)) (a : Act) (ss : List S) (some : participants ps a ≢ []) (none : owner ps a ≡ None) where
  performs : Performs (step ps a ss)
  performs =
      subst (λ b. Performs (cond b (allowed (asked 0 ps a ss) (effects 0 ps a ss)) not_an_action)) (sym (some_has 0 ps a some))
      (subst (λ k. Performs (allowed k (effects 0 ps a ss))) (sym (owned_from 0 ps a ss none)) (effects_perform 0 ps a ss))

  pub input_known : step ps a ss ≢ not_an_action
  input_known e = elim performs as (λ _. ⊥) [ goes ts f ↦ (let q : next ts ≡ not_an_action = sym f ∙ e in cc) | breaks c g f ↦ (let q : fault c g ≡ not_an_action = sym f ∙ e in cc) ]

  pub input_enabled : step ps a ss ≢ not_enabled
  input_enabled e = elim performs as (λ _. ⊥) [ goes ts f ↦ (let q : next ts ≡ not_enabled = sym f ∙ e in cc) | breaks c g f ↦ (let q : fault c g ≡ not_enabled = sym f ∙ e in cc) ]

  pub input_worker : worker ps a ≡ length ps
  input_worker = ap (λ o. unwrap_or o (length ps)) none
