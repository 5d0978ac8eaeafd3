-- What turns change, as they are defined.
use Rattle.std.proofs.Common.{◌≡◌, ◌≢◌, ℕ, zero, suc, ◌+◌, ◌≤◌, List, [], ◌∷◌, length, Bool, true, false, cond, Option, None, Some, refl, sym, ◌∙◌, ap, subst, arith, inl, inr}
use Rattle.std.specs.Prelude.{slice_get, slice_set, unwrap_or}
use Rattle.std.specs.Option.{option_map}
use Rattle.std.proofs.lemmas.Bool.Decides.{eqb_tells}
use Rattle.ioa_value.specs.Actions.{Act}
use Rattle.ioa_tree.specs.Components.{Component}
use Rattle.ioa_tree.specs.Proposing.{Tried, tries, idle}
use Rattle.ioa_board.specs.declared.answer.Answer.{Answer}
use Rattle.ioa_board.specs.declared.report.Report.{Report}
use Rattle.ioa_board.specs.declared.report.Why.{Why}
use Rattle.ioa_run.specs.Going.{AreGoing}
use Rattle.ioa_board.specs.Reports.{Changes, resumed, with_idle, told}
use Rattle.ioa_board.specs.Boards.{attempt}
use Rattle.ioa_run.specs.Turns.{Proposer, Turns, changed, has_ended, is_last, meant, rounds, turn, turned, turns_of_first}

-- ---- one item is changed

pub data At {X : Type 0} (f : X → X) (w v : ℕ) (xs : List X) (y : X) : Type 0 where
  here : (x : X) → v ≡ w → slice_get xs w ≡ Some x → y ≡ f x → At f w v xs y
  there : v ≢ w → slice_get xs v ≡ Some y → At f w v xs y

at_later : {X : Type 0} (f : X → X) (w v : ℕ) (x : X) (xs : List X) (y : X) → At f w v xs y → At f (suc w) (suc v) (x ∷ xs) y
at_later f w v x xs y (here z e g h) = here z (ap suc e) g h
at_later f w v x xs y (there n g) = there (λ e. n (omega (arith, e))) g

-- an item of the changed list
pub at_changed : {X : Type 0} (f : X → X) (w v : ℕ) (xs : List X) (y : X) → slice_get (changed f w xs) v ≡ Some y → At f w v xs y
at_changed f w v [] y e = absurd (cc)
at_changed f zero zero (x ∷ xs) y e = let q : y ≡ f x = cc in here x refl refl q
at_changed f zero (suc v) (x ∷ xs) y e = there (λ q. omega (arith, q)) e
at_changed f (suc w) zero (x ∷ xs) y e = there (λ q. omega (arith, q)) e
at_changed f (suc w) (suc v) (x ∷ xs) y e = at_later f w v x xs y (at_changed f w v xs y e)

pub own_changed : {X : Type 0} (f : X → X) (w : ℕ) (xs : List X) → slice_get (changed f w xs) w ≡ option_map f (slice_get xs w)
own_changed f w [] = refl
own_changed f zero (x ∷ xs) = refl
own_changed f (suc w) (x ∷ xs) = own_changed f w xs

pub others_changed : {X : Type 0} (f : X → X) (w v : ℕ) (xs : List X) → v ≢ w → slice_get (changed f w xs) v ≡ slice_get xs v
others_changed f w v [] n = refl
others_changed f zero zero (x ∷ xs) n = absurd (n refl)
others_changed f zero (suc v) (x ∷ xs) n = refl
others_changed f (suc w) zero (x ∷ xs) n = refl
others_changed f (suc w) (suc v) (x ∷ xs) n = others_changed f w v xs (λ e. n (ap suc e))

pub length_changed : {X : Type 0} (f : X → X) (w : ℕ) (xs : List X) → length (changed f w xs) ≡ length xs
length_changed f w [] = refl
length_changed f zero (x ∷ xs) = refl
length_changed f (suc w) (x ∷ xs) = ap suc (length_changed f w xs)

-- lists with the same items are the same
pub same_items : {X : Type 0} (xs ys : List X) → ((v : ℕ) → slice_get xs v ≡ slice_get ys v) → xs ≡ ys
same_items [] [] h = refl
same_items [] (y ∷ ys) h = let e : None ≡ Some y = h 0 in absurd (cc)
same_items (x ∷ xs) [] h = let e : Some x ≡ None = h 0 in absurd (cc)
same_items (x ∷ xs) (y ∷ ys) h =
    let e : Some x ≡ Some y = h 0 in
    let q : x ≡ y = cc in
    let more : xs ≡ ys = same_items xs ys (λ v. h (suc v)) in
    cc

pub changes_is : (f : Report → Report) (w : ℕ) (rs rs' : List Report) → Changes f w rs rs' → rs' ≡ changed f w rs
changes_is f w rs rs' c =
    same_items rs' (changed f w rs) (λ v.
    elim (eqb_tells v w) as (λ _. slice_get rs' v ≡ slice_get (changed f w rs) v) [
      | inl p ↦ subst (λ u. slice_get rs' u ≡ slice_get (changed f w rs) u) (sym p.1) (c.own ∙ sym (own_changed f w rs))
      | inr p ↦ c.others v p.1 ∙ sym (others_changed f w v rs p.1)
    ])

-- an item that is set is changed so
pub changed_set : {X : Type 0} (w : ℕ) (xs : List X) (x : X) → slice_set xs w x ≡ changed (λ _. x) w xs
changed_set w [] x = refl
changed_set zero (y ∷ ys) x = refl
changed_set (suc w) (y ∷ ys) x = ap (λ zs. y ∷ zs) (changed_set w ys x)

-- two changes of an item that do the same to it
pub changed_alike : {X : Type 0} (f g : X → X) (w : ℕ) (xs : List X) → ((x : X) → slice_get xs w ≡ Some x → f x ≡ g x) → changed f w xs ≡ changed g w xs
changed_alike f g w [] h = refl
changed_alike f g zero (x ∷ xs) h = ap (λ y. y ∷ xs) (h x refl)
changed_alike f g (suc w) (x ∷ xs) h = ap (λ ys. x ∷ ys) (changed_alike f g w xs h)

pub changed_none : {X : Type 0} (f : X → X) (w : ℕ) (xs : List X) → length xs ≤ w → changed f w xs ≡ xs
changed_none f w [] l = refl
changed_none f zero (x ∷ xs) l = absurd (omega (arith, l))
changed_none f (suc w) (x ∷ xs) l = ap (λ ys. x ∷ ys) (changed_none f w xs (omega (arith, l)))

-- ---- who goes on

pub told_going : (x : Answer) (r : Report) → is_last x ≡ false → r.why ≡ Why.Stopped → (told x r).why ≡ Why.Stopped
told_going (Answer.Committed n) r e g = ap resumed g
told_going (Answer.Faulted c f) r e g = absurd (cc)
told_going Answer.Stopped r e g = absurd (cc)
told_going Answer.NotAnAction r e g = ap resumed g
told_going Answer.NotYours r e g = ap resumed g
told_going Answer.NotEnabled r e g = ap resumed g
told_going Answer.Planned r e g = ap resumed g
told_going Answer.NoPlan r e g = ap resumed g
told_going Answer.Stale r e g = ap resumed g

module _ {S : Type 0} (ps : List (Component S)) where
  pub going_turned : (w : ℕ) (m : Tried Act) (t : Turns S) → slice_get t.ended w ≡ Some false → AreGoing t → AreGoing (turned ps w m t)
  going_turned w (idle taken) t o h v q e g =
      elim (at_changed with_idle w v t.reports q g) as (λ _. q.why ≡ Why.Stopped) [
        | here x p k i ↦ ap (λ (r : Report). r.why) i ∙ ap resumed (h w x o k)
        | there n k ↦ h v q e k
      ]
  going_turned w (tries a taken) t o h v q e g =
      let x : Answer = (attempt ps w a t.board).0 in
      let e' : At (λ _. is_last x) w v t.ended false = at_changed (λ _. is_last x) w v t.ended false e in
      elim (at_changed (told x) w v t.reports q g) as (λ _. q.why ≡ Why.Stopped) [
        | here r p k i ↦
            elim e' as (λ _. q.why ≡ Why.Stopped) [
              | here b _ _ l ↦ ap (λ (s : Report). s.why) i ∙ told_going x r (sym l) (h w r o k)
              | there n _ ↦ absurd (n p)
            ]
        | there n k ↦
            elim e' as (λ _. q.why ≡ Why.Stopped) [
              | here _ p _ _ ↦ absurd (n p)
              | there _ f ↦ h v q f k
            ]
      ]

-- ended or not
pub has_not : {S : Type 0} (t : Turns S) (w : ℕ) → has_ended t w ≡ false → slice_get t.ended w ≡ Some false
has_not t w e = not_none (slice_get t.ended w) e
  where
    not_none : (o : Option Bool) → unwrap_or o true ≡ false → o ≡ Some false
    not_none None f = absurd (cc)
    not_none (Some b) f = ap Some f

either_way : {X : Type 0} (P : X → Type 0) (b : Bool) (x y : X) → P x → (b ≡ false → P y) → P (cond b x y)
either_way P true x y h k = h
either_way P false x y h k = k refl

module _ {S : Type 0} (ps : List (Component S)) (entries : List (List (Proposer S))) (inputs : List Act) where
  pub going_turn : (w : ℕ) (t : Turns S) → AreGoing t → AreGoing (turn ps entries inputs w t)
  going_turn w t h = either_way AreGoing (has_ended t w) t _ h (λ e. going_turned ps w (meant ps entries inputs w t) t (has_not t w e) h)

  pub going_first : (n : ℕ) (t : Turns S) → AreGoing t → AreGoing (turns_of_first ps entries inputs n t)
  going_first zero t h = h
  going_first (suc n) t h = going_turn n (turns_of_first ps entries inputs n t) (going_first n t h)

  pub going_rounds : (n : ℕ) (t : Turns S) → AreGoing t → AreGoing (rounds ps entries inputs n t)
  going_rounds zero t h = h
  going_rounds (suc n) t h = going_first (length entries + 1) (rounds ps entries inputs n t) (going_rounds n t h)
