-- What making a plan answers.
use Rattle.std.specs.Prelude.{◌≡◌, ◌≢◌, ℕ, List, Option, None, Some}
use Rattle.ioa_value.specs.Actions.{Act}
use Rattle.ioa_value.specs.Plain.{Val}
use Rattle.ioa_parts.specs.Nodes.{Node}
use Rattle.ioa_tree.specs.Steps.{not_an_action, not_enabled, step}
use Rattle.ioa_compile.specs.Programs.{Prog}
use Rattle.ioa_compile.specs.Tables.{tabled}
use Rattle.ioa_system.specs.Logs.{worker}
use Rattle.ioa_system.specs.Participants.{step_from}
use Rattle.ioa_system.specs.Systems.{values_of}
use Rattle.ioa_board.specs.declared.answer.Answer.{Answer}
use Rattle.ioa_board.specs.declared.assessed.Assessed.{Assessed}
use Rattle.ioa_board.specs.declared.planned.Planned.{Planned}
use Rattle.ioa_board.specs.Boards.{Intent, Plans, intent}
use Rattle.ioa_board.specs.ProgramPlans.{ProgramPlan, IsPlan}
use Rattle.ioa_board.specs.ProgramBoards.{ProgramBoard}

-- the answer, without the plan
abbrev pub answer_of : Planned → Answer
answer_of (Planned.Ready p) = Answer.Planned
answer_of Planned.NotAnAction = Answer.NotAnAction
answer_of Planned.NotEnabled = Answer.NotEnabled
answer_of Planned.NotYours = Answer.NotYours

abbrev pub intent_of : Planned → Option (Intent (List Val))
intent_of (Planned.Ready p) = Some p.intent
intent_of Planned.NotAnAction = None
intent_of Planned.NotEnabled = None
intent_of Planned.NotYours = None

abbrev pub IfReady : (ProgramPlan → Type 0) → Planned → Type 0
IfReady P (Planned.Ready p) = P p
IfReady P Planned.NotAnAction = Unit {0}
IfReady P Planned.NotEnabled = Unit {0}
IfReady P Planned.NotYours = Unit {0}

pub record IsOf (p : Prog) (w : ℕ) (plan : ProgramPlan) : Type 0 where
  pub program : plan.program ≡ p
  pub who : plan.who ≡ w

-- what a worker is answered that plans the action by these states of the participants
pub record Makes (p : Prog) (w : ℕ) (a : Act) (copied : List (List Val)) (r : Planned) : Type 0 where
  pub plans : Plans w (worker (tabled p) a) (step_from (tabled p) a copied) (record { action = a; copied = copied }) (answer_of r) (intent_of r)
  pub ready : IfReady (IsOf p w) r

-- the same, before there is a plan
abbrev pub Assesses : Prog → ℕ → Act → List Node → Assessed → Type 0
Assesses p w a copied Assessed.NotAnAction = step_from (tabled p) a (values_of copied) ≡ not_an_action
Assesses p w a copied Assessed.NotEnabled = (w ≡ worker (tabled p) a) × (step_from (tabled p) a (values_of copied) ≡ not_enabled)
Assesses p w a copied Assessed.NotYours = (step_from (tabled p) a (values_of copied) ≢ not_an_action) × (w ≢ worker (tabled p) a)
Assesses p w a copied (Assessed.Usable ns m) = IsPlan (record { program = p; who = w; intent = record { action = a; copied = values_of copied } }) ns.items copied m

-- the plan that the worker then has
abbrev pub plan_in : Planned → Option ProgramPlan
plan_in (Planned.Ready p) = Some p
plan_in Planned.NotAnAction = None
plan_in Planned.NotEnabled = None
plan_in Planned.NotYours = None

-- what a worker is answered that plans the action by the states as they are now
pub record PlansNow (b : ProgramBoard) (w : ℕ) (a : Act) (r : Planned) : Type 0 where
  pub plans : Plans w (worker (tabled b.program) a) (step (tabled b.program) a b.board.states) (intent (tabled b.program) a b.board.states) (answer_of r) (intent_of r)
  pub ready : IfReady (IsOf b.program w) r
