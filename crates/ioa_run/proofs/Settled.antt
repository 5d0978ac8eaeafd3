-- On one thread, who takes more turns has had all till now, and who takes none has a cause.
use Rattle.std.proofs.Common.{◌≡◌, ◌≢◌, ℕ, ◌+◌, ◌<◌, ◌≤◌, ◌==◌, List, length, All, Bool, true, false, cond, Option, None, Some, refl, sym, ◌∙◌, ap, subst, arith, inl, inr, if◌then◌else◌}
use Rattle.std.specs.Prelude.{IsSome, is_some, slice_get, slice_set, unwrap_or}
use Rattle.std.specs.Option.{option_map}
use Rattle.std.proofs.Math.Nat.{eq-or-lt_of_le}
use Rattle.std.proofs.lemmas.Bool.Decides.{eqb_tells}
use Rattle.std.proofs.lemmas.Option.{get_or_from_slice_get, slice_get_within}
use Rattle.ioa_value.specs.Actions.{Act}
use Rattle.ioa_value.proofs.ItemLemmas.{item_there}
use Rattle.ioa_tree.specs.Components.{Component}
use Rattle.ioa_tree.specs.Proposing.{Words, Tried, tries, idle}
use Rattle.ioa_tree.specs.Runs.{Ending, done, not_an_action_at, not_enabled_at, fault_at}
use Rattle.ioa_tree.specs.Steps.{Moved, next, not_an_action, not_enabled, fault, step}
use Rattle.ioa_system.specs.Logs.{worker}
use Rattle.ioa_board.specs.declared.answer.Answer.{Answer}
use Rattle.ioa_board.specs.declared.report.Report.{Report}
use Rattle.ioa_board.specs.declared.report.Why.{Why}
use Rattle.ioa_board.specs.Boards.{Failure, Standing, attempt, not_own, own_attempt}
use Rattle.ioa_run.specs.Going.{AreCounted, AreSettled, HasFewer, HaveCauses, HaveFewer, IsCause, IsTurn, dismissed}
use Rattle.ioa_board.specs.Outcomes.{HasEnded, HaveEnded, IsFault, IsReason, ending}
use Rattle.ioa_board.specs.Reports.{Changes, counted, left, with_idle, with_why, told}
use Rattle.ioa_run.specs.Turns.{Proposer, Turns, turns_from, is_last, meant, turned}
use Rattle.ioa_run.proofs.Attempting.{set_there}
use Rattle.ioa_run.proofs.Counting.{counted_turned, first_counted, first_going, got_replicated, left_done, no_turn}
use Rattle.ioa_run.proofs.Going.{left_memory, other_there}
use Rattle.ioa_run.proofs.Turned.{At, at_changed, going_turned, here, there}

-- ---- one attempt

either_answer : {X : Type 0} (P : X → Type 0) (b : Bool) (x y : X) → P x → P y → P (if b then x else y)
either_answer P true x y h k = h
either_answer P false x y h k = k

own_recorded : {S : Type 0} (w : ℕ) (a : Act) (b : Standing S) (f : Option Failure) (m : Moved S) → IsSome b.failure → IsSome (own_attempt w a b f m).1.failure
own_recorded w a b f not_an_action h = h
own_recorded w a b f not_enabled h = h
own_recorded w a b (Some r) (next ts) h = h
own_recorded w a b (Some r) (fault c e) h = h
own_recorded w a b None (next ts) h = h
own_recorded w a b None (fault c e) h = refl

own_cause : {S : Type 0} (w : ℕ) (a : Act) (b : Standing S) (f : Option Failure) (m : Moved S) (q : Report) → f ≡ b.failure
    → is_last (own_attempt w a b f m).0 ≡ true → IsCause (own_attempt w a b f m).1.failure (told (own_attempt w a b f m).0 q).why
own_cause w a b f not_an_action q e l = absurd (cc)
own_cause w a b f not_enabled q e l = absurd (cc)
own_cause w a b (Some r) (next ts) q e l = ap is_some (sym e)
own_cause w a b (Some r) (fault c x) q e l = ap is_some (sym e)
own_cause w a b None (next ts) q e l = absurd (cc)
own_cause w a b None (fault c x) q e l = refl

others_go_on : {S : Type 0} (m : Moved S) → is_last (not_own m) ≡ true → ⊥
others_go_on not_an_action l = cc
others_go_on not_enabled l = cc
others_go_on (next ts) l = cc
others_go_on (fault c x) l = cc

cause_stays : (f g : Option Failure) (y : Why) → (IsSome f → IsSome g) → IsCause f y → IsCause g y
cause_stays f g Why.TurnsDone h k = k
cause_stays f g Why.Faulted h k = h k
cause_stays f g Why.Stopped h k = h k
cause_stays f g Why.Memory h k = k

not_both : (o : Option Bool) → o ≡ Some true → o ≡ Some false → ⊥
not_both o e f = let q : Some true ≡ Some false = sym e ∙ f in cc

-- who had fewer turns than there were before a turn had fewer after it
fewer_on : (n k v : ℕ) (q : Report) → HasFewer n k v q → HasFewer n (k + 1) v q
fewer_on n k v q f = record {
  had = λ l. elim (eq-or-lt_of_le {n = v} {m = k} (omega (arith, l))) as (λ _. counted q < n + 1) [
    | inl e ↦ (let b = f.before (omega (arith, e)) in omega (arith, b))
    | inr m ↦ f.had m
  ];
  before = λ l. f.before (omega (arith, l));
}

-- who leaves in its turn has had those of the rounds before
fewer_now : (n k : ℕ) (q : Report) → counted q ≡ n → HasFewer n (k + 1) k q
fewer_now n k q e = record { had = λ _. omega (arith, e); before = λ l. absurd (omega (arith, l)) }

-- a worker's last turn is not counted
last_uncounted : (x : Answer) (r : Report) → is_last x ≡ true → counted (told x r) ≡ counted r
last_uncounted (Answer.Committed n) r l = absurd (cc)
last_uncounted (Answer.Faulted c f) r l = refl
last_uncounted Answer.Stopped r l = refl
last_uncounted Answer.NotAnAction r l = absurd (cc)
last_uncounted Answer.NotYours r l = absurd (cc)
last_uncounted Answer.NotEnabled r l = absurd (cc)
last_uncounted Answer.Planned r l = absurd (cc)
last_uncounted Answer.NoPlan r l = absurd (cc)
last_uncounted Answer.Stale r l = absurd (cc)

module _ {S : Type 0} (ps : List (Component S)) where
  -- a fault that is recorded stays
  recorded_stays : (w : ℕ) (a : Act) (b : Standing S) → IsSome b.failure → IsSome (attempt ps w a b).1.failure
  recorded_stays w a b h =
      either_answer (λ (x : Answer × Standing S). IsSome x.1.failure) (w == worker ps a) (own_attempt w a b b.failure (step ps a b.states)) (not_own (step ps a b.states), b)
      (own_recorded w a b b.failure (step ps a b.states) h) h

  -- a worker's last attempt has a cause
  last_cause : (w : ℕ) (a : Act) (b : Standing S) (q : Report) → is_last (attempt ps w a b).0 ≡ true → IsCause (attempt ps w a b).1.failure (told (attempt ps w a b).0 q).why
  last_cause w a b q =
      either_answer (λ (x : Answer × Standing S). is_last x.0 ≡ true → IsCause x.1.failure (told x.0 q).why) (w == worker ps a) (own_attempt w a b b.failure (step ps a b.states)) (not_own (step ps a b.states), b)
      (own_cause w a b b.failure (step ps a b.states) q refl) (λ l. absurd (others_go_on (step ps a b.states) l))

  causes_turned : (w : ℕ) (m : Tried Act) (t : Turns S) → slice_get t.ended w ≡ Some false → HaveCauses t → HaveCauses (turned ps w m t)
  causes_turned w (idle taken) t o h v q e g =
      elim (at_changed with_idle w v t.reports q g) as (λ _. IsCause t.board.failure q.why) [
        | here x p k i ↦ absurd (not_both (slice_get t.ended v) e (subst (λ u. slice_get t.ended u ≡ Some false) (sym p) o))
        | there n k ↦ h v q e k
      ]
  causes_turned w (tries a taken) t o h v q e g =
      let x : Answer = (attempt ps w a t.board).0 in
      let e' : At (λ _. is_last x) w v t.ended true = at_changed (λ _. is_last x) w v t.ended true e in
      elim (at_changed (told x) w v t.reports q g) as (λ _. IsCause (attempt ps w a t.board).1.failure q.why) [
        | here r p k i ↦
            elim e' as (λ _. IsCause (attempt ps w a t.board).1.failure q.why) [
              | here b _ _ l ↦ subst (λ (s : Report). IsCause (attempt ps w a t.board).1.failure s.why) (sym i) (last_cause w a t.board r (sym l))
              | there n _ ↦ absurd (n p)
            ]
        | there n k ↦
            elim e' as (λ _. IsCause (attempt ps w a t.board).1.failure q.why) [
              | here _ p _ _ ↦ absurd (n p)
              | there _ f ↦ cause_stays t.board.failure (attempt ps w a t.board).1.failure q.why (recorded_stays w a t.board) (h v q f k)
            ]
      ]

  fewer_turned : (n w : ℕ) (m : Tried Act) (t : Turns S) → slice_get t.ended w ≡ Some false → AreCounted n w t → HaveFewer n w t → HaveFewer n (w + 1) (turned ps w m t)
  fewer_turned n w (idle taken) t o a h v q e g =
      elim (at_changed with_idle w v t.reports q g) as (λ _. HasFewer n (w + 1) v q) [
        | here x p k i ↦ absurd (not_both (slice_get t.ended v) e (subst (λ u. slice_get t.ended u ≡ Some false) (sym p) o))
        | there d k ↦ fewer_on n w v q (h v q e k)
      ]
  fewer_turned n w (tries a taken) t o c h v q e g =
      let x : Answer = (attempt ps w a t.board).0 in
      let e' : At (λ _. is_last x) w v t.ended true = at_changed (λ _. is_last x) w v t.ended true e in
      elim (at_changed (told x) w v t.reports q g) as (λ _. HasFewer n (w + 1) v q) [
        | here r p k i ↦
            elim e' as (λ _. HasFewer n (w + 1) v q) [
              | here b _ _ l ↦
                  subst (λ u. HasFewer n (w + 1) u q) (sym p)
                  (fewer_now n w q (ap counted i ∙ last_uncounted x r (sym l) ∙ (c w r o k).before (omega arith)))
              | there d _ ↦ absurd (d p)
            ]
        | there d k ↦
            elim e' as (λ _. HasFewer n (w + 1) v q) [
              | here _ p _ _ ↦ absurd (d p)
              | there _ f ↦ fewer_on n w v q (h v q f k)
            ]
      ]

-- ---- one turn

module _ {S : Type 0} (ps : List (Component S)) (entries : List (List (Proposer S))) (inputs : List Act) where
  pub settled_turn : (n k : ℕ) (t t' : Turns S) → n + 1 < 18446744073709551616 → slice_get t.ended k ≡ Some false → IsTurn ps entries inputs k t t' → AreSettled n k t → AreSettled n (k + 1) t'
  settled_turn n k t t' l o i s =
      let m : Tried Act = meant ps entries inputs k t in
      subst (λ (u : Turns S). AreSettled n (k + 1) u) (sym (i.turn (λ q f. s.going k q o f))) (record {
        going = going_turned ps k m t o s.going;
        taken = counted_turned ps n k m t l o s.taken;
        gone = causes_turned ps k m t o s.gone;
        fewer = fewer_turned ps n k m t o s.taken s.fewer;
      })

-- who has ended takes no turn
pub settled_ended : {S : Type 0} (n k : ℕ) (t : Turns S) → slice_get t.ended k ≡ Some true → AreSettled n k t → AreSettled n (k + 1) t
settled_ended n k t e s = record {
  going = s.going;
  taken = λ v q f g. no_turn n k v q (λ p. not_both (slice_get t.ended k) e (subst (λ u. slice_get t.ended u ≡ Some false) p f)) (s.taken v q f g);
  gone = s.gone;
  fewer = λ v q f g. fewer_on n k v q (s.fewer v q f g);
}

-- memory is refused to a worker in its turn
module _ {S : Type 0} (n k turns : ℕ) (t t' : Turns S) (e : slice_get t.ended k ≡ Some false) (c : Changes (left turns Why.Memory) k t.reports t'.reports) (board : t'.board ≡ t.board)
    (ended : t'.ended ≡ slice_set t.ended k true) (m : k < length t.ended) (s : AreSettled n k t) where
  own_ended : slice_get t'.ended k ≡ Some true
  own_ended = ap (λ xs. slice_get xs k) ended ∙ set_there t.ended k true m

  other_ended : (v : ℕ) → v ≢ k → slice_get t'.ended v ≡ slice_get t.ended v
  other_ended v d = ap (λ xs. slice_get xs v) ended ∙ other_there t.ended k v true d

  not_own_turn : (v : ℕ) → slice_get t'.ended v ≡ Some false → v ≢ k
  not_own_turn v f p = not_both (slice_get t'.ended v) (subst (λ u. slice_get t'.ended u ≡ Some true) (sym p) own_ended) f

  refused_cause : (q : Report) (o : Option Report) → slice_get t.reports k ≡ o → option_map (left turns Why.Memory) o ≡ Some q → IsCause t'.board.failure q.why
  refused_cause q None i g = absurd (cc)
  refused_cause q (Some r) i g =
      let same : left turns Why.Memory r ≡ q = cc in
      let why : q.why ≡ Why.Memory = sym (ap (λ (x : Report). x.why) same) ∙ left_memory turns r (s.going k r e i) in
      subst (IsCause t'.board.failure) (sym why) tt

  gone_refused : HaveCauses t'
  gone_refused v q f g =
      elim (eqb_tells v k) as (λ _. IsCause t'.board.failure q.why) [
        | inl p ↦ refused_cause q (slice_get t.reports k) refl (sym c.own ∙ subst (λ u. slice_get t'.reports u ≡ Some q) p.1 g)
        | inr p ↦ subst (λ (b : Standing S). IsCause b.failure q.why) (sym board) (s.gone v q (sym (other_ended v p.1) ∙ f) (sym (c.others v p.1) ∙ g))
      ]

  refused_fewer : (q : Report) (o : Option Report) → slice_get t.reports k ≡ o → option_map (left turns Why.Memory) o ≡ Some q → HasFewer n (k + 1) k q
  refused_fewer q None i g = absurd (cc)
  refused_fewer q (Some r) i g =
      let same : left turns Why.Memory r ≡ q = cc in
      fewer_now n k q (ap counted (sym same) ∙ (s.taken k r e i).before (omega arith))

  fewer_refused : HaveFewer n (k + 1) t'
  fewer_refused v q f g =
      elim (eqb_tells v k) as (λ _. HasFewer n (k + 1) v q) [
        | inl p ↦ subst (λ u. HasFewer n (k + 1) u q) (sym p.1) (refused_fewer q (slice_get t.reports k) refl (sym c.own ∙ subst (λ u. slice_get t'.reports u ≡ Some q) p.1 g))
        | inr p ↦ fewer_on n k v q (s.fewer v q (sym (other_ended v p.1) ∙ f) (sym (c.others v p.1) ∙ g))
      ]

  pub settled_refused : AreSettled n (k + 1) t'
  settled_refused = record {
    going = λ v q f g. (let d = not_own_turn v f in s.going v q (sym (other_ended v d) ∙ f) (sym (c.others v d) ∙ g));
    taken = λ v q f g. (let d = not_own_turn v f in no_turn n k v q d (s.taken v q (sym (other_ended v d) ∙ f) (sym (c.others v d) ∙ g)));
    gone = gone_refused;
    fewer = fewer_refused;
  }

-- ---- rounds

-- all workers have had their turns
pub settled_round : {S : Type 0} (n k : ℕ) (t : Turns S) → length t.ended ≤ k → AreSettled n k t → AreSettled (n + 1) 0 t
settled_round n k t l s = record {
  going = s.going;
  taken = λ v q f g. (let within : v < length t.ended = slice_get_within t.ended v false f in record {
    had = λ z. absurd (omega (arith, z));
    before = λ _. (s.taken v q f g).had (omega (arith, within, l));
  });
  gone = s.gone;
  fewer = λ v q f g. (let within : v < length t.ended = slice_get_within t.ended v true f in record {
    had = λ z. absurd (omega (arith, z));
    before = λ _. (s.fewer v q f g).had (omega (arith, within, l));
  });
}

pub settled_first : {S : Type 0} (b : Standing S) (ws : List Words) (n : ℕ) → AreSettled 0 0 (turns_from b ws n)
settled_first b ws n = record {
  going = first_going b ws n;
  taken = first_counted b ws n;
  gone = λ w q e g. absurd (let z : true ≡ false = got_replicated (n + 1) w false true e in cc);
  fewer = λ w q e g. absurd (let z : true ≡ false = got_replicated (n + 1) w false true e in cc);
}

-- ---- the end

recorded_ends : (h : List (ℕ × Act)) (end : Ending) (f : Option Failure) → end ≡ ending h f → IsSome f → IsFault end
recorded_ends h (done n) None e s = absurd (cc)
recorded_ends h (done n) (Some r) e s = absurd (cc)
recorded_ends h (not_an_action_at n) None e s = absurd (cc)
recorded_ends h (not_an_action_at n) (Some r) e s = absurd (cc)
recorded_ends h (not_enabled_at n) None e s = absurd (cc)
recorded_ends h (not_enabled_at n) (Some r) e s = absurd (cc)
recorded_ends h (fault_at c x i) f e s = tt

cause_is_reason : (turns n : ℕ) (h : List (ℕ × Act)) (f : Option Failure) (end : Ending) (y : Why) → end ≡ ending h f → n < turns → IsCause f y → IsReason turns end n y
cause_is_reason turns n h f end Why.TurnsDone e l k = absurd k
cause_is_reason turns n h f end Why.Faulted e l k = (l, recorded_ends h end f e k)
cause_is_reason turns n h f end Why.Stopped e l k = (l, recorded_ends h end f e k)
cause_is_reason turns n h f end Why.Memory e l k = l

all_got : {X : Type 0} (P : X → Type 0) (xs : List X) → ((w : ℕ) (x : X) → slice_get xs w ≡ Some x → P x) → All P xs
all_got P xs h k d m = let found = item_there xs k m in subst P (sym (get_or_from_slice_get xs k found.0 d found.1)) (h k found.0 found.1)

-- who has not ended is told that its turns are done
module _ {S : Type 0} (turns : ℕ) (t : Turns S) (rs : List Report) (h : List (ℕ × Act)) (end : Ending) (s : AreSettled turns 0 t) (all : length rs ≤ length t.ended)
    (d : (w : ℕ) → slice_get rs w ≡ option_map (dismissed turns t.ended w) (slice_get t.reports w)) (ends : end ≡ ending h t.board.failure) where
  ended_dismissed : (w : ℕ) (r q : Report) (o : Option Bool) → w < length t.ended → slice_get t.ended w ≡ o → slice_get t.reports w ≡ Some r → cond (unwrap_or o true) r (left turns Why.TurnsDone r) ≡ q → HasEnded turns end q
  ended_dismissed w r q None m e g i = absurd (let k = item_there t.ended w m in let z : None ≡ Some k.0 = sym e ∙ k.1 in cc)
  ended_dismissed w r q (Some true) m e g i = subst (HasEnded turns end) i (cause_is_reason turns (counted r) h t.board.failure end r.why ends ((s.fewer w r e g).before (omega arith)) (s.gone w r e g))
  ended_dismissed w r q (Some false) m e g i =
      let all_had : counted r ≡ turns = (s.taken w r e g).before (omega arith) in
      let is_done : left turns Why.TurnsDone r ≡ with_why Why.TurnsDone r = left_done turns r (s.going w r e g) all_had in
      subst (HasEnded turns end) (sym is_done ∙ i) all_had

  ended_at : (w : ℕ) (q : Report) (o : Option Report) → w < length t.ended → slice_get t.reports w ≡ o → option_map (dismissed turns t.ended w) o ≡ Some q → HasEnded turns end q
  ended_at w q None m e i = absurd (cc)
  ended_at w q (Some r) m e i = let same : dismissed turns t.ended w r ≡ q = cc in ended_dismissed w r q (slice_get t.ended w) m refl e same

  pub settled_end : HaveEnded turns end rs
  settled_end = all_got (HasEnded turns end) rs (λ w q e. ended_at w q (slice_get t.reports w) (within w q e) refl (sym (d w) ∙ e))
    where
      within : (w : ℕ) (q : Report) → slice_get rs w ≡ Some q → w < length t.ended
      within w q e = let m : w < length rs = slice_get_within rs w q e in omega (arith, m, all)
