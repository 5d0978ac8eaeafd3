-- The schedule machine: workers that plan and commit, one event after another, in any order.
use Rattle.std.specs.Prelude.{◌≡◌, ◌+◌, ℕ, List, [], ◌∷◌, Option, None, Some, length, replicate, slice_get, slice_set, unwrap_or}
use Rattle.ioa_value.specs.Actions.{Act}
use Rattle.ioa_value.specs.Plain.{Val}
use Rattle.ioa_tree.specs.Components.{Component}
use Rattle.ioa_tree.specs.Steps.{step}
use Rattle.ioa_system.specs.Logs.{worker}
use Rattle.ioa_board.specs.Boards.{Standing, Intent, Commits, begun, Plans, intent}
use Rattle.ioa_board.specs.declared.answer.Answer.{Answer}

-- the board, and for each worker its plan or none: for the components in order, then for the environment
pub record Schedule (S : Type 0) : Type 0 where
  pub board : Standing S
  pub plans : List (Option (Intent S))

-- the board stands, and no worker has a plan
abbrev pub schedule_from : {S : Type 0} → Standing S → Schedule S
schedule_from b = record { board = b; plans = replicate (length b.states + 1) None }

abbrev pub start_schedule : {S : Type 0} → List S → Schedule S
start_schedule ss = schedule_from (begun ss)

-- a worker copies the states of an action's participants and plans it, or commits its plan
pub data Event : Type 0 where
  copy : ℕ → Act → Event
  commit : ℕ → Event

abbrev pub with_plan : {S : Type 0} → Schedule S → ℕ → Option (Intent S) → Schedule S
with_plan s w q = record s { plans = slice_set s.plans w q }

-- the worker's plan; a number past the workers' has none
abbrev pub plan_of : {S : Type 0} → Schedule S → ℕ → Option (Intent S)
plan_of s w = unwrap_or (slice_get s.plans w) None

-- what a commit answers a worker that has this plan; the plan is spent
abbrev pub Spends : {S : Type 0} → List (Component S) → ℕ → Option (Intent S) → Schedule S → Answer → Schedule S → Type 0
Spends ps w None s a t = (a ≡ Answer.NoPlan) × (t ≡ s)
Spends {S} ps w (Some p) s a t = (b : Standing S) × Commits ps w p s.board a b × (t ≡ record (with_plan s w None) { board = b })

-- what an event answers, and the schedule then
abbrev pub Answers : {S : Type 0} → List (Component S) → Event → Schedule S → Answer → Schedule S → Type 0
Answers {S} ps (copy w act) s a t =
    (q : Option (Intent S)) × Plans w (worker ps act) (step ps act s.board.states) (intent ps act s.board.states) a q × (t ≡ with_plan s w q)
Answers ps (commit w) s a t = Spends ps w (plan_of s w) s a t

-- the answers to events, one for each in order, and the schedule to which they lead
abbrev pub Plays : {S : Type 0} → List (Component S) → List Event → Schedule S → List Answer → Schedule S → Type 0
Plays ps [] s [] t = t ≡ s
Plays ps [] s (a ∷ as') t = ⊥
Plays ps (e ∷ es) s [] t = ⊥
Plays {S} ps (e ∷ es) s (a ∷ as') t = (u : Schedule S) × Answers ps e s a u × Plays ps es u as' t

-- events are answered in one way, and lead to one schedule
abbrev pub OnePlay : Type 0
OnePlay =
    (ps : List (Component (List Val))) (es : List Event) (s t u : Schedule (List Val)) (xs ys : List Answer) → Plays ps es s xs t → Plays ps es s ys u → (xs ≡ ys) × (t ≡ u)
