-- A worker's plan in a program.
use Rattle.std.specs.Prelude.{◌≡◌, ℕ, List, refl}
use Rattle.std.specs.Coded.{Coded, code_by, coded×, coded_ℕ}
use Rattle.ioa_value.specs.Plain.{Val}
use Rattle.ioa_parts.specs.Nodes.{Node}
use Rattle.ioa_tree.specs.Steps as steps
use Rattle.ioa_tree.specs.Steps.{participants}
use Rattle.ioa_compile.specs.Programs.{Prog}
use Rattle.ioa_compile.specs.Coded.{coded_prog}
use Rattle.ioa_compile.specs.Tables.{tabled}
use Rattle.ioa_system.specs.declared.outcomes.Moved.{Moved}
use Rattle.ioa_system.specs.Outcomes.{AreOfTypes, moved_of}
use Rattle.ioa_system.specs.Logs.{worker}
use Rattle.ioa_system.specs.Participants.{step_from, taken}
use Rattle.ioa_system.specs.Systems.{slot_types, types_of}
use Rattle.ioa_board.specs.Boards.{Intent}
use Rattle.ioa_board.specs.Coded.{coded_intent}

pub record ProgramPlan : Type 0 where
  pub program : Prog
  pub who : ℕ
  pub intent : Intent (List Val)

abbrev pub coded_program_plan : Coded ProgramPlan
coded_program_plan =
    code_by (Prog × (ℕ × Intent (List Val))) (coded× coded_prog (coded× coded_ℕ coded_intent)) (λ p. (p.program, (p.who, p.intent)))
    (λ p. record { program = p.0; who = p.1.0; intent = p.1.1 }) (λ _. refl)

-- what the planned action does to the states that were copied
abbrev pub foreseen : ProgramPlan → steps.Moved (List Val)
foreseen p = step_from (tabled p.program) p.intent.action p.intent.copied

-- the numbers of the participants whose states were copied
abbrev pub numbers_in : ProgramPlan → List ℕ
numbers_in p = participants (tabled p.program) p.intent.action

-- an answer that a commit can use
abbrev pub IsUsable : Moved → Type 0
IsUsable (Moved.Next v) = Unit {0}
IsUsable Moved.NotAnAction = ⊥
IsUsable Moved.NotEnabled = ⊥
IsUsable (Moved.Fault c f) = Unit {0}

-- what a plan keeps: its result is its action's from the states that were copied, and its worker is the one that performs the action
pub record IsPlan (p : ProgramPlan) (numbers : List ℕ) (copied : List Node) (m : Moved) : Type 0 where
  pub numbers_are : numbers ≡ numbers_in p
  pub copied_types : types_of copied ≡ taken numbers (slot_types p.program.members)
  pub result : moved_of m ≡ foreseen p
  pub result_types : AreOfTypes (types_of copied) m
  pub usable : IsUsable m
  pub own : p.who ≡ worker (tabled p.program) p.intent.action
