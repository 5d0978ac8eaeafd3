-- The board to which workers commit their plans: what has been done, the states that now stand, and the fault that stopped it.
use Rattle.std.specs.Prelude.{◌≡◌, ◌≢◌, ◌++◌, ℕ, List, [], ◌∷◌, Option, None, Some, IsSome, length, ◌==◌, if◌then◌else◌}
use Rattle.ioa_arithmetic.specs.declared.arithmetic.Fault.{Fault}
use Rattle.ioa_value.specs.Actions.{Act}
use Rattle.ioa_tree.specs.Components.{Component}
use Rattle.ioa_tree.specs.Steps.{next, fault, participants, step, Moved, not_an_action, not_enabled}
use Rattle.ioa_system.specs.Histories.{Leads}
use Rattle.ioa_system.specs.Logs.{worker}
use Rattle.ioa_system.specs.Participants.{taken}
use Rattle.ioa_board.specs.declared.answer.Answer.{Answer}

-- the action that faulted with its worker, the component whose fault it is, and the fault
pub record Failure : Type 0 where
  pub entry : ℕ × Act
  pub component : ℕ
  pub fault : Fault

pub record Standing (S : Type 0) : Type 0 where
  pub history : List (ℕ × Act)
  pub states : List S
  pub failure : Option Failure

-- nothing is done yet
abbrev pub begun : {S : Type 0} → List S → Standing S
begun ss = record { history = []; states = ss; failure = None }

-- a fault that is recorded comes of its action from these states, and the worker is the one that performs the action
abbrev pub IsFailureFrom : {S : Type 0} → List (Component S) → List S → Option Failure → Type 0
IsFailureFrom ps ss None = Unit {0}
IsFailureFrom ps ss (Some r) = (r.entry.0 ≡ worker ps r.entry.1) × (step ps r.entry.1 ss ≡ fault r.component r.fault)

-- the history is legal and leads to the states that stand, and a fault that is recorded comes from these
pub record IsSound {S : Type 0} (ps : List (Component S)) (start : List S) (b : Standing S) : Type 0 where
  pub legal : Leads ps b.history start b.states
  pub failure : IsFailureFrom ps b.states b.failure

-- what a worker means to do: an action, and the states of its participants as they were when it was planned
pub record Intent (S : Type 0) : Type 0 where
  pub action : Act
  pub copied : List S

-- the participants' states as they are now
abbrev pub now_of : {S : Type 0} → List (Component S) → Act → List S → List S
now_of ps a ss = taken (participants ps a) ss

abbrev pub intent : {S : Type 0} → List (Component S) → Act → List S → Intent S
intent ps a ss = record { action = a; copied = now_of ps a ss }

-- what planning an action answers a worker, and the plan that it then has: the action has this worker, this step, and would be this plan.
-- An action that would fault is planned too
abbrev pub Plans : {S : Type 0} → ℕ → ℕ → Moved S → Intent S → Answer → Option (Intent S) → Type 0
Plans w own m p Answer.NotAnAction q = (m ≡ not_an_action) × (q ≡ None)
Plans w own m p Answer.NotYours q = (m ≢ not_an_action) × (w ≢ own) × (q ≡ None)
Plans w own m p Answer.NotEnabled q = (w ≡ own) × (m ≡ not_enabled) × (q ≡ None)
Plans w own m p Answer.Planned q = (w ≡ own) × (m ≢ not_an_action) × (m ≢ not_enabled) × (q ≡ Some p)
Plans w own m p Answer.NoPlan q = ⊥
Plans w own m p Answer.Stopped q = ⊥
Plans w own m p Answer.Stale q = ⊥
Plans w own m p (Answer.Faulted c f) q = ⊥
Plans w own m p (Answer.Committed n) q = ⊥

-- nothing has faulted, and the participants are in the states that were copied
pub record IsCurrent {S : Type 0} (ps : List (Component S)) (p : Intent S) (b : Standing S) : Type 0 where
  pub calm : b.failure ≡ None
  pub fresh : now_of ps p.action b.states ≡ p.copied

abbrev pub with_failure : {S : Type 0} → Standing S → ℕ → Act → ℕ → Fault → Standing S
with_failure b w a c f = record b { failure = Some (record { entry = (w, a); component = c; fault = f }) }

abbrev pub with_entry : {S : Type 0} → Standing S → ℕ → Act → List S → Standing S
with_entry b w a ts = record b { history = b.history ++ (w, a) ∷ []; states = ts }

-- what the commit of a worker's plan answers, and what stands then. What is performed is the step from the states as they are now
abbrev pub Commits : {S : Type 0} → List (Component S) → ℕ → Intent S → Standing S → Answer → Standing S → Type 0
Commits ps w p b Answer.Stopped b' = IsSome b.failure × (b' ≡ b)
Commits ps w p b Answer.Stale b' = (b.failure ≡ None) × (now_of ps p.action b.states ≢ p.copied) × (b' ≡ b)
Commits ps w p b (Answer.Faulted c f) b' = IsCurrent ps p b × (step ps p.action b.states ≡ fault c f) × (b' ≡ with_failure b w p.action c f)
Commits {S} ps w p b (Answer.Committed n) b' =
    IsCurrent ps p b × (n ≡ length b.history) × ((ts : List S) × (step ps p.action b.states ≡ next ts) × (b' ≡ with_entry b w p.action ts))
Commits ps w p b Answer.NotAnAction b' = ⊥
Commits ps w p b Answer.NotYours b' = ⊥
Commits ps w p b Answer.NotEnabled b' = ⊥
Commits ps w p b Answer.Planned b' = ⊥
Commits ps w p b Answer.NoPlan b' = ⊥

-- what an attempt of a worker at its own action, of which this comes, is answered where this fault is recorded, and what then stands
abbrev pub own_attempt : {S : Type 0} → ℕ → Act → Standing S → Option Failure → Moved S → Answer × Standing S
own_attempt w a b f not_an_action = (Answer.NotAnAction, b)
own_attempt w a b f not_enabled = (Answer.NotEnabled, b)
own_attempt w a b (Some r) (next ts) = (Answer.Stopped, b)
own_attempt w a b (Some r) (fault c e) = (Answer.Stopped, b)
own_attempt w a b None (next ts) = (Answer.Committed (length b.history), with_entry b w a ts)
own_attempt w a b None (fault c e) = (Answer.Faulted c e, with_failure b w a c e)

-- what another worker's action is answered
abbrev pub not_own : {S : Type 0} → Moved S → Answer
not_own not_an_action = Answer.NotAnAction
not_own not_enabled = Answer.NotYours
not_own (next ts) = Answer.NotYours
not_own (fault c e) = Answer.NotYours

-- what a worker is answered that copies for an action and, where it can plan it, commits at once; and what then stands
abbrev pub attempt : {S : Type 0} → List (Component S) → ℕ → Act → Standing S → Answer × Standing S
attempt ps w a b = if w == worker ps a then own_attempt w a b b.failure (step ps a b.states) else (not_own (step ps a b.states), b)
