-- Answers of steps and runs without the memory that holds them.
use Rattle.std.specs.Prelude.{◌≡◌, ℕ, List}
use Rattle.ioa_value.specs.Plain.{Val}
use Rattle.ioa_tree.specs.Steps as steps
use Rattle.ioa_tree.specs.Steps.{next, not_an_action, not_enabled, fault}
use Rattle.ioa_tree.specs.Runs.{Ending, done, not_an_action_at, not_enabled_at, fault_at}
use Rattle.ioa_system.specs.declared.outcomes.Moved.{Moved}
use Rattle.ioa_system.specs.declared.outcomes.Step.{Step}
use Rattle.ioa_system.specs.declared.outcomes.End.{End}
use Rattle.ioa_system.specs.Systems.{Slots, types_of, values_of}

abbrev pub moved_of : Moved → steps.Moved (List Val)
moved_of (Moved.Next v) = next (values_of v.items)
moved_of Moved.NotAnAction = not_an_action
moved_of Moved.NotEnabled = not_enabled
moved_of (Moved.Fault c f) = fault c f

-- the new states are of these types
abbrev pub AreOfTypes : List Slots → Moved → Type 0
AreOfTypes types (Moved.Next v) = types_of v.items ≡ types
AreOfTypes types Moved.NotAnAction = Unit {0}
AreOfTypes types Moved.NotEnabled = Unit {0}
AreOfTypes types (Moved.Fault c f) = Unit {0}

-- the answer, with the states that then stand
abbrev pub step_of : {S : Type 0} → Step → List S → steps.Moved S
step_of Step.Next ss = next ss
step_of Step.NotAnAction ss = not_an_action
step_of Step.NotEnabled ss = not_enabled
step_of (Step.Fault c f) ss = fault c f

-- the states that stand where the answer is not Next
abbrev pub KeepsUnlessNext : {S : Type 0} → Step → List S → List S → Type 0
KeepsUnlessNext Step.Next before after = Unit {0}
KeepsUnlessNext Step.NotAnAction before after = after ≡ before
KeepsUnlessNext Step.NotEnabled before after = after ≡ before
KeepsUnlessNext (Step.Fault c f) before after = after ≡ before

-- what holds where the answer is Next
abbrev pub IfNext : Step → Type 0 → Type 0
IfNext Step.Next holds = holds
IfNext Step.NotAnAction holds = Unit {0}
IfNext Step.NotEnabled holds = Unit {0}
IfNext (Step.Fault c f) holds = Unit {0}

abbrev pub ending_of : End → Ending
ending_of (End.Done n) = done n
ending_of (End.NotAnAction i) = not_an_action_at i
ending_of (End.NotEnabled i) = not_enabled_at i
ending_of (End.Fault c f i) = fault_at c f i

-- how many actions were performed
abbrev pub performed_by : End → ℕ
performed_by (End.Done n) = n
performed_by (End.NotAnAction i) = i
performed_by (End.NotEnabled i) = i
performed_by (End.Fault c f i) = i
