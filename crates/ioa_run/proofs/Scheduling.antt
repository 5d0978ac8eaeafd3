-- The workers' plans, and the schedule machine's answers.
use Rattle.std.proofs.Common.{◌≡◌, ℕ, zero, suc, ◌+◌, List, [], ◌∷◌, ◌++◌, length, Option, None, Some, Ok, Err, refl, sym, ◌∙◌, ap, subst, ◌⊎◌, inl, inr}
use Rattle.std.specs.Option.{option_map}
use Rattle.std.specs.Prelude.{IfSome, replicate, slice_get, slice_set, unwrap_or}
use Rattle.std.proofs.lemmas.List.{length-map, length-set, map-set}
use Rattle.ioa_value.specs.Actions.{Act}
use Rattle.ioa_value.specs.Plain.{Val}
use Rattle.ioa_tree.specs.Components.{Component}
use Rattle.ioa_tree.specs.Steps.{step}
use Rattle.ioa_compile.specs.Programs.{MemberCode, Prog}
use Rattle.ioa_compile.specs.Tables.{start_states, tabled}
use Rattle.ioa_system.specs.Logs.{worker}
use Rattle.ioa_board.specs.declared.answer.Answer.{Answer}
use Rattle.ioa_board.specs.declared.verdict.Verdict.{Verdict}
use Rattle.ioa_board.specs.declared.planned.Planned.{Planned}
use Rattle.ioa_board.specs.Boards.{Commits, Intent, Plans, intent}
use Rattle.ioa_board.specs.Planning.{IfReady, IsOf, answer_of, intent_of, plan_in, PlansNow}
use Rattle.ioa_board.specs.ProgramBoards.{ProgramBoard, start_board}
use Rattle.ioa_board.specs.ProgramPlans.{ProgramPlan}
use Rattle.ioa_run.specs.ProgramSchedules.{ArePlans, CopyAnswers, IsPlay, ScheduledProgram, intents, settled_of, start_program}
use Rattle.ioa_run.specs.Schedules.{Answers, Event, Plays, Schedule, Spends, copy, plan_of, start_schedule}
use Rattle.ioa_board.specs.Verdicts.{Commit, Decides, GivesBack}
use Rattle.ioa_board.proofs.PlannedNow.{planned_now}

-- ---- places of plans

pub set_got : {X : Type 0} (xs : List X) (i : ℕ) (x : X) → slice_get xs i ≡ Some x → slice_set xs i x ≡ xs
set_got [] i x e = refl
set_got (y ∷ ys) zero x e = cc
set_got (y ∷ ys) (suc i) x e = ap (λ zs. y ∷ zs) (set_got ys i x e)

pub set_over : {X : Type 0} (xs : List X) (i : ℕ) (x y : X) → slice_set (slice_set xs i x) i y ≡ slice_set xs i y
set_over [] i x y = refl
set_over (z ∷ zs) zero x y = refl
set_over (z ∷ zs) (suc i) x y = ap (λ ws. z ∷ ws) (set_over zs i x y)

pub got_set : {X : Type 0} (xs : List X) (i j : ℕ) (y z : X) → slice_get (slice_set xs i y) j ≡ Some z → ((j ≡ i) × (z ≡ y)) ⊎ (slice_get xs j ≡ Some z)
got_set [] i j y z e = inr e
got_set (x ∷ xs) zero zero y z e = let q : z ≡ y = cc in inl (refl, q)
got_set (x ∷ xs) zero (suc j) y z e = inr e
got_set (x ∷ xs) (suc i) zero y z e = inr e
got_set (x ∷ xs) (suc i) (suc j) y z e = elim (got_set xs i j y z e) [ inl h ↦ inl (ap suc h.0, h.1) | inr h ↦ inr h ]

-- what is exchanged for nothing leaves the list as it is, where there is nothing
pub nothing_taken : {X : Type 0} (xs : List (Option X)) (i : ℕ) → None ≡ unwrap_or (slice_get xs i) None → slice_set xs i None ≡ xs
nothing_taken [] i e = refl
nothing_taken (x ∷ xs) zero e = cc
nothing_taken (x ∷ xs) (suc i) e = ap (λ zs. x ∷ zs) (nothing_taken xs i e)

pub taken_there : {X : Type 0} (xs : List (Option X)) (i : ℕ) (x : X) → Some x ≡ unwrap_or (slice_get xs i) None → slice_get xs i ≡ Some (Some x)
taken_there [] i x e = absurd (cc)
taken_there (y ∷ xs) zero x e = ap (λ z. Some z) (sym e)
taken_there (y ∷ xs) (suc i) x e = taken_there xs i x e

pub plans_put : (p : Prog) (plans : List (Option ProgramPlan)) (w : ℕ) (q : Option ProgramPlan) → ArePlans p plans → IfSome q (IsOf p w) → ArePlans p (slice_set plans w q)
plans_put p plans w q h k = record {
  count = length-set plans w q ∙ h.count;
  own = λ v x e. elim (got_set plans w v q (Some x) e) [
    | inl f ↦ subst (λ u. IsOf p u x) (sym f.0) (subst (λ o. IfSome o (IsOf p w)) (sym f.1) k)
    | inr f ↦ h.own v x f
  ];
}

pub plans_of : (p r : Prog) (plans : List (Option ProgramPlan)) → p ≡ r → ArePlans p plans → ArePlans r plans
plans_of p r plans e h = subst (λ q. ArePlans q plans) e h

-- ---- nothing planned

map_none : (n : ℕ) → intents (replicate n None) ≡ replicate n None
map_none zero = refl
map_none (suc n) = ap (λ xs. None ∷ xs) (map_none n)

pub none_planned : (p : Prog) (b : ProgramBoard) (n : ℕ) (plans : List (Option ProgramPlan)) → b ≡ start_board p → plans ≡ replicate (n + 1) None → n ≡ length p.members
    → record { program = b.program; schedule = record { board = b.board; plans = intents plans } } ≡ start_program p
none_planned p b n plans e f g =
    let l : n ≡ length (start_states p) = g ∙ sym (length-map p.members (λ (m : MemberCode). m.start.values)) in
    let q : intents plans ≡ replicate (length (start_states p) + 1) None =
    ap intents f ∙ map_none (n + 1) ∙ ap (λ (k : ℕ). replicate (k + 1) None) l in
    let F : ProgramBoard → List (Option (Intent (List Val))) → ScheduledProgram = λ (x : ProgramBoard) (ys : List (Option (Intent (List Val)))). record { program = x.program; schedule = record { board = x.board; plans = ys } } in
    ap (λ (x : ProgramBoard). F x (intents plans)) e ∙ ap (F (start_board p)) q

-- ---- what planning answers

pub copy_answers : CopyAnswers
copy_answers p w a s r l h = (intent_of r, (planned_now (record { program = p; board = s.board }) w a r l h).plans, refl)

pub intent_in : (r : Planned) → option_map (λ (p : ProgramPlan). p.intent) (plan_in r) ≡ intent_of r
intent_in (Planned.Ready p) = refl
intent_in Planned.NotAnAction = refl
intent_in Planned.NotEnabled = refl
intent_in Planned.NotYours = refl

pub own_plan : (p : Prog) (w : ℕ) (r : Planned) → IfReady (IsOf p w) r → IfSome (plan_in r) (IsOf p w)
own_plan p w (Planned.Ready q) h = h
own_plan p w Planned.NotAnAction h = tt
own_plan p w Planned.NotEnabled h = tt
own_plan p w Planned.NotYours h = tt

-- ---- one event more

pub plays_more : {S : Type 0} (ps : List (Component S)) (es : List Event) (s : Schedule S) (as' : List Answer) (t u : Schedule S) (e : Event) (a : Answer)
    → Plays ps es s as' t → Answers ps e t a u → Plays ps (es ++ e ∷ []) s (as' ++ a ∷ []) u
plays_more ps [] s [] t u e a h k = (u, subst (λ x. Answers ps e x a u) h k, refl)
plays_more ps [] s (b ∷ bs) t u e a h k = absurd h
plays_more ps (f ∷ es) s [] t u e a h k = absurd h
plays_more ps (f ∷ es) s (b ∷ bs) t u e a h k = (h.0, h.1, plays_more ps es h.0 bs t u e a h.2 k)

pub play_more : (p : Prog) (es : List Event) (s u : ScheduledProgram) (as' : List Answer) (e : Event) (a : Answer) → IsPlay p es s as' → Answers (tabled s.program) e s.schedule a u.schedule
    → u.program ≡ s.program → IsPlay p (es ++ e ∷ []) u (as' ++ a ∷ [])
play_more p es s u as' e a h k same = record {
  program = same ∙ h.program;
  plays = plays_more (tabled p) es (start_schedule (start_states p)) as' s.schedule u.schedule e a h.plays (subst (λ (q : Prog). Answers (tabled q) e s.schedule a u.schedule) h.program k);
}

-- ---- the run after an event

abbrev pub run_of : ProgramBoard → List (Option ProgramPlan) → ScheduledProgram
run_of b plans = record { program = b.program; schedule = record { board = b.board; plans = intents plans } }

intents_put : (plans new : List (Option ProgramPlan)) (w : ℕ) (q : Option ProgramPlan) → new ≡ slice_set plans w q
    → intents new ≡ slice_set (intents plans) w (option_map (λ (p : ProgramPlan). p.intent) q)
intents_put plans new w q e = ap intents e ∙ map-set (option_map (λ (p : ProgramPlan). p.intent)) plans w q

plan_intent : (plans : List (Option ProgramPlan)) (w : ℕ) → unwrap_or (slice_get (intents plans) w) None ≡ option_map (λ (p : ProgramPlan). p.intent) (unwrap_or (slice_get plans w) None)
plan_intent [] w = refl
plan_intent (x ∷ xs) zero = refl
plan_intent (x ∷ xs) (suc w) = plan_intent xs w

pub copied : (b : ProgramBoard) (plans new : List (Option ProgramPlan)) (w : ℕ) (act : Act) (r : Planned) (a : Answer) (q : Option ProgramPlan) (s : ScheduledProgram) → run_of b plans ≡ s
    → PlansNow b w act r → a ≡ answer_of r → q ≡ plan_in r → new ≡ slice_set plans w q → Answers (tabled s.program) (copy w act) s.schedule a (record { board = b.board; plans = intents new })
copied b plans new w act r a q s v h e f n =
    let ps : List (Component (List Val)) = tabled b.program in
    let ss : List (List Val) = b.board.states in
    let k : Plans w (worker ps act) (step ps act ss) (intent ps act ss) a (intent_of r) = subst (λ x. Plans w (worker ps act) (step ps act ss) (intent ps act ss) x (intent_of r)) (sym e) h.plans in
    let i : intents new ≡ slice_set (intents plans) w (intent_of r) =
    intents_put plans new w q n ∙ ap (λ x. slice_set (intents plans) w (option_map (λ (p : ProgramPlan). p.intent) x)) f ∙ ap (slice_set (intents plans) w) (intent_in r) in
    subst (λ (x : ScheduledProgram). Answers (tabled x.program) (copy w act) x.schedule a (record { board = b.board; plans = intents new })) v
    (intent_of r, k, ap (λ xs. record { board = b.board; plans = xs }) i)

pub nothing_spent : (b : ProgramBoard) (plans new : List (Option ProgramPlan)) (w : ℕ) (s : ScheduledProgram) → run_of b plans ≡ s → None ≡ unwrap_or (slice_get plans w) None
    → new ≡ slice_set plans w None → Spends (tabled s.program) w (plan_of s.schedule w) s.schedule Answer.NoPlan (record { board = b.board; plans = intents new })
nothing_spent b plans new w s v e n =
    let none : plan_of (run_of b plans).schedule w ≡ None = plan_intent plans w ∙ ap (option_map (λ (p : ProgramPlan). p.intent)) (sym e) in
    let same : intents new ≡ intents plans = ap intents (n ∙ nothing_taken plans w e) in
    let t : Schedule (List Val) = record { board = b.board; plans = intents new } in
    let k : Spends (tabled b.program) w None (run_of b plans).schedule Answer.NoPlan t = (refl, ap (λ xs. record { board = b.board; plans = xs }) same) in
    subst (λ (x : ScheduledProgram). Spends (tabled x.program) w (plan_of x.schedule w) x.schedule Answer.NoPlan t) v
    (subst (λ o. Spends (tabled b.program) w o (run_of b plans).schedule Answer.NoPlan t) (sym none) k)

pub plan_spent : (b b' : ProgramBoard) (plans new : List (Option ProgramPlan)) (w : ℕ) (q : ProgramPlan) (a : Answer) (s : ScheduledProgram) → run_of b plans ≡ s → IsOf b.program w q
    → Some q ≡ unwrap_or (slice_get plans w) None → new ≡ slice_set plans w None → Commit b q a b'
    → Spends (tabled s.program) w (plan_of s.schedule w) s.schedule a (record { board = b'.board; plans = intents new })
plan_spent b b' plans new w q a s v o e n c =
    let some : plan_of (run_of b plans).schedule w ≡ Some q.intent = plan_intent plans w ∙ ap (option_map (λ (p : ProgramPlan). p.intent)) (sym e) in
    let t : Schedule (List Val) = record { board = b'.board; plans = intents new } in
    let k : Commits (tabled b.program) w q.intent b.board a b'.board = subst (λ u. Commits (tabled b.program) u q.intent b.board a b'.board) o.who c.commits in
    let j : Spends (tabled b.program) w (Some q.intent) (run_of b plans).schedule a t = (b'.board, k, ap (λ xs. record { board = b'.board; plans = xs }) (intents_put plans new w None n)) in
    subst (λ (x : ScheduledProgram). Spends (tabled x.program) w (plan_of x.schedule w) x.schedule a t) v
    (subst (λ p. Spends (tabled b.program) w p (run_of b plans).schedule a t) (sym some) j)

pub decided : (b b' : ProgramBoard) (q : ProgramPlan) (v : Verdict) (a : Answer) → Decides b q v b' → Ok a ≡ settled_of v → Commit b q a b'
decided b b' q Verdict.Stopped a d e = let i : Answer.Stopped ≡ a = cc in subst (λ x. Commit b q x b') i d
decided b b' q Verdict.Stale a d e = let i : Answer.Stale ≡ a = cc in subst (λ x. Commit b q x b') i d
decided b b' q (Verdict.Faulted c f) a d e = let i : Answer.Faulted c f ≡ a = cc in subst (λ x. Commit b q x b') i d
decided b b' q (Verdict.Committed n) a d e = let i : Answer.Committed n ≡ a = cc in subst (λ x. Commit b q x b') i d
decided b b' q (Verdict.Memory p) a d e = absurd (cc)

pub given : (b b' : ProgramBoard) (q p : ProgramPlan) (v : Verdict) → Decides b q v b' → Err p ≡ settled_of v → GivesBack b q p b'
given b b' q p Verdict.Stopped d e = absurd (cc)
given b b' q p Verdict.Stale d e = absurd (cc)
given b b' q p (Verdict.Faulted c f) d e = absurd (cc)
given b b' q p (Verdict.Committed n) d e = absurd (cc)
given b b' q p (Verdict.Memory r) d e = let i : r ≡ p = cc in subst (λ x. GivesBack b q x b') i d

-- a plan that is given back is put where it was
pub restored : (plans new back : List (Option ProgramPlan)) (w : ℕ) (q p : ProgramPlan) → Some q ≡ unwrap_or (slice_get plans w) None → p ≡ q → new ≡ slice_set plans w None
    → back ≡ slice_set new w (Some p) → back ≡ plans
restored plans new back w q p e i n h =
    h ∙ ap (λ xs. slice_set xs w (Some p)) n ∙ set_over plans w None (Some p) ∙ ap (λ x. slice_set plans w (Some x)) i ∙ set_got plans w (Some q) (taken_there plans w q e)
