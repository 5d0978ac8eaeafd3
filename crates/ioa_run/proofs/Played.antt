-- A run on one thread is a play of the schedule machine.
use Rattle.std.proofs.Common.{◌≡◌, ◌≢◌, ℕ, zero, suc, ◌+◌, ◌<◌, ◌≤◌, ◌++◌, List, [], ◌∷◌, length, Bool, true, false, cond, Option, None, Some, Ok, refl, sym, ◌∙◌, ap, subst, arith, replicate}
use Rattle.std.specs.Prelude.{All, slice_get, slice_set}
use Rattle.std.proofs.lemmas.List.{length-map, length-replicate}
use Rattle.std.proofs.lemmas.List.Elements.{All-append, All-cons, All-nil}
use Rattle.ioa_value.specs.Actions.{Act}
use Rattle.ioa_tree.specs.Components.{Component}
use Rattle.ioa_tree.specs.Compositions.{Member}
use Rattle.ioa_tree.specs.Hosts.{host_start}
use Rattle.ioa_tree.specs.Instances.{state_of}
use Rattle.ioa_tree.specs.Proposing.{Words, Tried, tries, idle}
use Rattle.ioa_compile.specs.Programs.{MemberCode}
use Rattle.ioa_compile.specs.Subjects.{State, Subject, its_components, its_starts, of_composition, of_hosts, of_table}
use Rattle.ioa_system.specs.Logs.{Logged}
use Rattle.ioa_board.specs.declared.answer.Answer.{Answer}
use Rattle.ioa_run.specs.Attempts.{IsAttempt}
use Rattle.ioa_board.specs.Boards.{Intent, Standing, attempt}
use Rattle.ioa_run.specs.Played.{AlonePlays, NeverStale, PlaysAs, alone_events, attempt_events, first_events, played, rounds_events, tried_events, turn_events}
use Rattle.ioa_run.specs.Proposers.{host_proposers_of, its_proposers, member_proposers_of, proposers_of}
use Rattle.ioa_board.specs.Resuming.{resumption}
use Rattle.ioa_run.specs.Schedules.{Answers, Event, Schedule, Spends, commit, copy, plan_of, schedule_from, with_plan}
use Rattle.ioa_run.specs.Turns.{Proposer, Turns, alone_from, has_ended, meant, rounds, turned, turns_from, turns_of_first}
use Rattle.ioa_run.proofs.Attempting.{attempt_answers}
use Rattle.ioa_run.proofs.Lengths.{component_for_each, resumed_long}
use Rattle.ioa_run.proofs.Scheduling.{set_got, set_over}

-- ---- events after one another

plays_both : {S : Type 0} (ps : List (Component S)) (es fs : List (Event × Answer)) (s t u : Schedule S) → PlaysAs ps es s t → PlaysAs ps fs t u → PlaysAs ps (es ++ fs) s u
plays_both ps [] fs s t u h k = subst (λ x. PlaysAs ps fs x u) h k
plays_both ps (e ∷ es) fs s t u h k = (h.0, h.1, plays_both ps es fs h.0 t u h.2 k)

abbrev AreFresh : List (Event × Answer) → Type 0
AreFresh es = All (λ e. e.1 ≢ Answer.Stale) es

-- ---- an attempt

-- a schedule without plans
none_there : (X : Type 0) (n w : ℕ) → w < n → slice_get {X = Option X} (replicate n None) w ≡ Some None
none_there X zero w l = absurd (omega (arith, l))
none_there X (suc n) zero l = refl
none_there X (suc n) (suc w) l = none_there X n w (omega (arith, l))

module _ {S : Type 0} (ps : List (Component S)) (w : ℕ) (a : Act) (s : Schedule S) (b : Standing S) (none : slice_get s.plans w ≡ Some None) where
  abbrev after : Schedule S
  after = record s { board = b }

  -- a copy that is refused leaves the worker without a plan, as before
  refused : (x : Answer) (t : Schedule S) → Answers ps (copy w a) s x t → t ≡ with_plan s w None → b ≡ s.board → PlaysAs ps ((copy w a, x) ∷ []) s after
  refused x t h e f =
      let plans : slice_set s.plans w None ≡ s.plans = set_got s.plans w None none in
      let same : after ≡ t = ap (λ (c : Standing S). record { board = c; plans = s.plans }) f ∙ ap (λ (qs : List (Option (Intent S))). record { board = s.board; plans = qs }) (sym plans) ∙ sym e in
      (t, h, same)

  -- a commit spends the plan that there is
  spent : (o : Option (Intent S)) (x : Answer) (t u : Schedule S) → x ≢ Answer.NoPlan → Spends ps w o t x u → u.plans ≡ slice_set t.plans w None
  spent None x t u d h = absurd (d h.0)
  spent (Some p) x t u d h = ap (λ (v : Schedule S). v.plans) h.2

  committed : (x : Answer) (t u : Schedule S) → x ≢ Answer.NoPlan → Answers ps (copy w a) s Answer.Planned t → Answers ps (commit w) t x u → u.board ≡ b
      → PlaysAs ps ((copy w a, Answer.Planned) ∷ (commit w, x) ∷ []) s after
  committed x t u d h k e =
      let made : t.plans ≡ slice_set s.plans w h.0 = ap (λ (v : Schedule S). v.plans) h.2 in
      let plans : u.plans ≡ s.plans =
      spent (plan_of t w) x t u d k ∙ ap (λ (qs : List (Option (Intent S))). slice_set qs w None) made ∙ set_over s.plans w h.0 None ∙ set_got s.plans w None none in
      let same : after ≡ u =
      ap (λ (c : Standing S). record { board = c; plans = s.plans }) (sym e) ∙ ap (λ (qs : List (Option (Intent S))). record { board = u.board; plans = qs }) (sym plans) in
      (t, h, (u, k, same))

  attempt_plays : (x : Answer) → IsAttempt ps w a s x b → PlaysAs ps (attempt_events w a x) s after
  attempt_plays Answer.NotAnAction h = refused Answer.NotAnAction h.0 h.1 (h.1.2 ∙ ap (with_plan s w) h.1.1.1) h.3
  attempt_plays Answer.NotYours h = refused Answer.NotYours h.0 h.1 (h.1.2 ∙ ap (with_plan s w) h.1.1.2) h.3
  attempt_plays Answer.NotEnabled h = refused Answer.NotEnabled h.0 h.1 (h.1.2 ∙ ap (with_plan s w) h.1.1.2) h.3
  attempt_plays Answer.Stopped h = committed Answer.Stopped h.0 h.1 (λ e. cc) h.2 h.3 h.4
  attempt_plays (Answer.Faulted c f) h = committed (Answer.Faulted c f) h.0 h.1 (λ e. cc) h.2 h.3 h.4
  attempt_plays (Answer.Committed n) h = committed (Answer.Committed n) h.0 h.1 (λ e. cc) h.2 h.3 h.4
  attempt_plays Answer.Planned h = absurd h
  attempt_plays Answer.NoPlan h = absurd h
  attempt_plays Answer.Stale h = absurd h

planned_fresh : Answer.Planned ≢ Answer.Stale
planned_fresh e = cc

one_fresh : (e : Event) (x : Answer) → x ≢ Answer.Stale → AreFresh ((e, x) ∷ [])
one_fresh e x d = All-cons (λ (y : Event × Answer). y.1 ≢ Answer.Stale) (e, x) [] d (All-nil (λ (y : Event × Answer). y.1 ≢ Answer.Stale))

two_fresh : (e f : Event) (x : Answer) → x ≢ Answer.Stale → AreFresh ((e, Answer.Planned) ∷ (f, x) ∷ [])
two_fresh e f x d = All-cons (λ (y : Event × Answer). y.1 ≢ Answer.Stale) (e, Answer.Planned) ((f, x) ∷ []) planned_fresh (one_fresh f x d)

attempt_fresh : {S : Type 0} (ps : List (Component S)) (w : ℕ) (a : Act) (s : Schedule S) (b : Standing S) (x : Answer) → IsAttempt ps w a s x b → AreFresh (attempt_events w a x)
attempt_fresh ps w a s b Answer.NotAnAction h = one_fresh (copy w a) Answer.NotAnAction (λ e. cc)
attempt_fresh ps w a s b Answer.NotYours h = one_fresh (copy w a) Answer.NotYours (λ e. cc)
attempt_fresh ps w a s b Answer.NotEnabled h = one_fresh (copy w a) Answer.NotEnabled (λ e. cc)
attempt_fresh ps w a s b Answer.Stopped h = two_fresh (copy w a) (commit w) Answer.Stopped (λ e. cc)
attempt_fresh ps w a s b (Answer.Faulted c f) h = two_fresh (copy w a) (commit w) (Answer.Faulted c f) (λ e. cc)
attempt_fresh ps w a s b (Answer.Committed n) h = two_fresh (copy w a) (commit w) (Answer.Committed n) (λ e. cc)
attempt_fresh ps w a s b Answer.Planned h = absurd h
attempt_fresh ps w a s b Answer.NoPlan h = absurd h
attempt_fresh ps w a s b Answer.Stale h = absurd h

-- ---- turns

module _ {S : Type 0} (ps : List (Component S)) (entries : List (List (Proposer S))) (inputs : List Act) (workers : ℕ) where
  -- the schedule of a run that has come so far
  abbrev so_far : Turns S → Schedule S
  so_far t = record { board = t.board; plans = replicate workers None }

  -- these events lead from one to the other, and no plan is stale
  record Goes (es : List (Event × Answer)) (t u : Turns S) : Type 0 where
    plays : PlaysAs ps es (so_far t) (so_far u)
    fresh : AreFresh es

  stays : (t : Turns S) → Goes [] t t
  stays t = record { plays = refl; fresh = All-nil (λ (y : Event × Answer). y.1 ≢ Answer.Stale) }

  both : (es fs : List (Event × Answer)) (t u v : Turns S) → Goes es t u → Goes fs u v → Goes (es ++ fs) t v
  both es fs t u v h k = record {
    plays = plays_both ps es fs (so_far t) (so_far u) (so_far v) h.plays k.plays;
    fresh = All-append (λ (y : Event × Answer). y.1 ≢ Answer.Stale) es fs h.fresh k.fresh;
  }

  tried_goes : (w : ℕ) (x : Tried Act) (t : Turns S) → w < workers → Goes (tried_events ps w x t.board) t (turned ps w x t)
  tried_goes w (idle taken) t l = record { plays = refl; fresh = All-nil (λ (y : Event × Answer). y.1 ≢ Answer.Stale) }
  tried_goes w (tries a taken) t l =
      let s : Schedule S = so_far t in
      let long : length s.plans ≡ workers = length-replicate workers None in
      let within : w < length s.plans = omega (arith, l, long) in
      let h = attempt_answers ps w a s within in
      record {
        plays = attempt_plays ps w a s (attempt ps w a t.board).1 (none_there (Intent S) workers w l) (attempt ps w a t.board).0 h;
        fresh = attempt_fresh ps w a s (attempt ps w a t.board).1 (attempt ps w a t.board).0 h;
      }

  unless_ended : (c : Bool) (es : List (Event × Answer)) (t u : Turns S) → Goes es t u → Goes (cond c [] es) t (cond c t u)
  unless_ended true es t u h = stays t
  unless_ended false es t u h = h

  first_goes : (n : ℕ) (t : Turns S) → n ≤ workers → Goes (first_events ps entries inputs n t) t (turns_of_first ps entries inputs n t)
  first_goes zero t l = stays t
  first_goes (suc n) t l =
      let u : Turns S = turns_of_first ps entries inputs n t in
      let x : Tried Act = meant ps entries inputs n u in
      both (first_events ps entries inputs n t) (turn_events ps entries inputs n u) t u (turns_of_first ps entries inputs (suc n) t) (first_goes n t (omega (arith, l)))
      (unless_ended (has_ended u n) (tried_events ps n x u.board) u (turned ps n x u) (tried_goes n x u (omega (arith, l))))

  rounds_goes : length entries + 1 ≤ workers → (n : ℕ) (t : Turns S) → Goes (rounds_events ps entries inputs n t) t (rounds ps entries inputs n t)
  rounds_goes places zero t = stays t
  rounds_goes places (suc n) t =
      let u : Turns S = rounds ps entries inputs n t in
      both (rounds_events ps entries inputs n t) (first_events ps entries inputs (length entries + 1) u) t u (rounds ps entries inputs (suc n) t) (rounds_goes places n t)
      (first_goes (length entries + 1) u places)

-- the whole run
module _ {S : Type 0} (ps : List (Component S)) (entries : List (List (Proposer S))) (inputs : List Act) (turns : ℕ) (b : Standing S) (words : List Words) where
  run_goes : length entries ≡ length b.states
      → Goes ps entries inputs (length b.states + 1) (alone_events ps entries inputs turns b words) (turns_from b words (length entries))
      (rounds ps entries inputs turns (turns_from b words (length entries)))
  run_goes many = rounds_goes ps entries inputs (length b.states + 1) (omega (arith, many)) turns (turns_from b words (length entries))

  run_plays : length entries ≡ length b.states → PlaysAs ps (alone_events ps entries inputs turns b words) (schedule_from b) (played b (alone_from ps entries inputs turns b words).board)
  run_plays many = (run_goes many).plays

-- there is a state for each component that proposes
start_for_each : (s : Subject) → length (its_proposers s) ≡ length (its_starts s)
start_for_each (of_hosts h) = length-map h.hosts host_proposers_of ∙ sym (length-map h.hosts host_start)
start_for_each (of_composition c) = length-map c.members member_proposers_of ∙ sym (length-map c.members (λ (q : Member). state_of q.instance.automaton q.starts))
start_for_each (of_table p) = length-map p.members proposers_of ∙ sym (length-map p.members (λ (q : MemberCode). q.start.values))

state_for_each : (s : Subject) (log : Logged) (b : Standing (State s)) → resumption (its_components s) (its_starts s) log ≡ Ok b → length (its_proposers s) ≡ length b.states
state_for_each s log b h = start_for_each s ∙ component_for_each s ∙ sym (resumed_long s log b h)

pub alone_plays : AlonePlays
alone_plays s log b words inputs turns h = run_plays (its_components s) (its_proposers s) inputs turns b words (state_for_each s log b h)

pub never_stale : NeverStale
never_stale s log b words inputs turns h = (run_goes (its_components s) (its_proposers s) inputs turns b words (state_for_each s log b h)).fresh
