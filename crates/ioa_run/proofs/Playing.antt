-- Whatever workers do since a legal history, what then stands is legal, and begins with it.
use Rattle.std.proofs.Common.{◌≡◌, ℕ, zero, suc, List, [], ◌∷◌, ◌++◌, Option, None, Some, inl, inr, refl, sym, ◌∙◌, ap, subst, append_assoc, append-nil, replicate}
use Rattle.std.specs.Prelude.{slice_get, slice_set, unwrap_or}
use Rattle.ioa_value.specs.Actions.{Act}
use Rattle.ioa_tree.specs.Components.{Component}
use Rattle.ioa_tree.specs.Steps.{Moved, step}
use Rattle.ioa_compile.specs.Subjects.{its_components, its_starts}
use Rattle.ioa_system.specs.Histories.{Leads}
use Rattle.ioa_system.specs.Logs.{worker}
use Rattle.ioa_board.specs.declared.answer.Answer.{Answer}
use Rattle.ioa_board.specs.Boards.{Commits, Failure, Intent, IsFailureFrom, IsSound, Standing, Plans, intent}
use Rattle.ioa_board.specs.Histories.{GoesOn, since}
use Rattle.ioa_run.specs.Resuming.{PlaysGoOn}
use Rattle.ioa_run.specs.Schedules.{Answers, Event, Plays, Schedule, Spends, commit, copy, plan_of, schedule_from}
use Rattle.ioa_board.proofs.Performing.{legal_more}
use Rattle.ioa_board.proofs.Resumed.{resumed_goes}
use Rattle.ioa_run.proofs.Scheduling.{got_set}
use Rattle.ioa_board.proofs.Since.{nothing_new, since_more}

module _ {S : Type 0} (ps : List (Component S)) (start : List S) (before : List (ℕ × Act)) where
  -- what holds of a schedule along the way: also that each plan is of an action of its worker
  record Keeps (s : Schedule S) : Type 0 where
    sound : IsSound ps start s.board
    goes_on : GoesOn before s.board.history
    own : (w : ℕ) (p : Intent S) → slice_get s.plans w ≡ Some (Some p) → w ≡ worker ps p.action

  planned_own : (w own : ℕ) (m : Moved S) (p : Intent S) (x : Answer) (q : Option (Intent S)) → Plans w own m p x q → (r : Intent S) → q ≡ Some r → (w ≡ own) × (r ≡ p)
  planned_own w own m p Answer.NotAnAction q h r e = let z : None ≡ Some r = sym h.1 ∙ e in absurd (cc)
  planned_own w own m p Answer.NotYours q h r e = let z : None ≡ Some r = sym h.2 ∙ e in absurd (cc)
  planned_own w own m p Answer.NotEnabled q h r e = let z : None ≡ Some r = sym h.2 ∙ e in absurd (cc)
  planned_own w own m p Answer.Planned q h r e = let z : Some r ≡ Some p = sym e ∙ h.3 in (h.0, cc)
  planned_own w own m p _ q h r e = absurd h

  with_own : (s : Schedule S) (w : ℕ) (q : Option (Intent S)) → Keeps s → ((r : Intent S) → q ≡ Some r → w ≡ worker ps r.action)
      → (v : ℕ) (p : Intent S) → slice_get (slice_set s.plans w q) v ≡ Some (Some p) → v ≡ worker ps p.action
  with_own s w q k mine v p e =
      elim (got_set s.plans w v q (Some p) e) as (λ _. v ≡ worker ps p.action) [
        | inl h ↦ h.0 ∙ mine p (sym h.1)
        | inr h ↦ k.own v p h
      ]

  -- a commit of a plan that is the worker's own
  record Stands (b : Standing S) : Type 0 where
    sound : IsSound ps start b
    goes_on : GoesOn before b.history

  longer : (h : List (ℕ × Act)) (e : ℕ × Act) → GoesOn before h → GoesOn before (h ++ e ∷ [])
  longer h e g =
      ap (λ (x : List (ℕ × Act)). x ++ e ∷ []) g ∙ append_assoc before (since before h) (e ∷ []) ∙ ap (λ (x : List (ℕ × Act)). before ++ x) (sym (since_more before h e g))

  commits_keep : (w : ℕ) (p : Intent S) (b b' : Standing S) (x : Answer) → Stands b → w ≡ worker ps p.action → Commits ps w p b x b' → Stands b'
  commits_keep w p b b' Answer.Stopped k own h = subst Stands (sym h.1) k
  commits_keep w p b b' Answer.Stale k own h = subst Stands (sym h.2) k
  commits_keep w p b b' (Answer.Faulted c f) k own h =
      subst Stands (sym h.2) (record { sound = record { legal = k.sound.legal; failure = (own, h.1) }; goes_on = k.goes_on })
  commits_keep w p b b' (Answer.Committed n) k own h =
      subst Stands (sym h.2.2) (record {
        sound = record {
          legal = legal_more ps b.history start b.states h.2.0 w p.action k.sound.legal own h.2.1;
          failure = subst (λ (o : Option Failure). IsFailureFrom ps h.2.0 o) (sym h.0.calm) tt;
        };
        goes_on = longer b.history (w, p.action) k.goes_on;
      })
  commits_keep w p b b' _ k own h = absurd h

  spends_keep : (w : ℕ) (o : Option (Intent S)) (s t : Schedule S) (x : Answer) → Keeps s → plan_of s w ≡ o → Spends ps w o s x t → Keeps t
  spends_keep w None s t x k e h = subst Keeps (sym h.1) k
  spends_keep w (Some p) s t x k e h =
      let own : w ≡ worker ps p.action = k.own w p (planned (slice_get s.plans w) e) in
      let b = commits_keep w p s.board h.0 x (record { sound = k.sound; goes_on = k.goes_on }) own h.1 in
      subst Keeps (sym h.2) (record { sound = b.sound; goes_on = b.goes_on; own = with_own s w None k (λ r d. let z : None ≡ Some r = d in absurd (cc)) })
    where
      planned : (q : Option (Option (Intent S))) → unwrap_or q None ≡ Some p → q ≡ Some (Some p)
      planned None d = absurd (cc)
      planned (Some q) d = ap Some d

  answers_keep : (e : Event) (s t : Schedule S) (x : Answer) → Keeps s → Answers ps e s x t → Keeps t
  answers_keep (copy w a) s t x k h =
      subst Keeps (sym h.2) (record {
        sound = k.sound;
        goes_on = k.goes_on;
        own = with_own s w h.0 k
            (λ r d. let o = planned_own w (worker ps a) (step ps a s.board.states) (intent ps a s.board.states) x h.0 h.1 r d in o.0 ∙ ap (λ (i : Intent S). worker ps i.action) (sym o.1));
      })
  answers_keep (commit w) s t x k h = spends_keep w (plan_of s w) s t x k refl h

  plays_keep : (es : List Event) (s t : Schedule S) (xs : List Answer) → Keeps s → Plays ps es s xs t → Keeps t
  plays_keep [] s t [] k h = subst Keeps (sym h) k
  plays_keep [] s t (x ∷ xs) k h = absurd h
  plays_keep (e ∷ es) s t [] k h = absurd h
  plays_keep (e ∷ es) s t (x ∷ xs) k h = plays_keep es h.0 t xs (answers_keep e s h.0 x k h.1) h.2

no_plan : (X : Type 0) (n w : ℕ) (p : X) → slice_get (replicate n None) w ≡ Some (Some p) → ⊥
no_plan X zero w p e = cc
no_plan X (suc n) zero p e = cc
no_plan X (suc n) (suc w) p e = no_plan X n w p e

pub plays_go_on : PlaysGoOn
plays_go_on s log b es xs t resumed plays =
    let g = resumed_goes (its_components s) (its_starts s) log b resumed in
    let first : Keeps (its_components s) (its_starts s) log.entries (schedule_from b) = record {
      sound = record {
        legal = subst (λ (h : List (ℕ × Act)). Leads (its_components s) h (its_starts s) b.states) (sym g.history) g.legal;
        failure = subst (λ (o : Option Failure). IsFailureFrom (its_components s) b.states o) (sym g.calm) tt;
      };
      goes_on = subst (GoesOn log.entries) (sym g.history) (sym (append-nil log.entries) ∙ ap (λ (x : List (ℕ × Act)). log.entries ++ x) (sym (nothing_new log.entries)));
      own = λ w p e. absurd (no_plan _ _ w p e);
    } in
    let k = plays_keep (its_components s) (its_starts s) log.entries es (schedule_from b) t xs first plays in
    (k.sound, k.goes_on)
