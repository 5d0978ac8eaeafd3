-- Whether it is the precondition of an action's owner that faults.
use Rattle.std.specs.Prelude.{ℕ, List, Bool, true, false, Result, Ok, Err}
use Rattle.ioa_value.specs.Actions.{Act}
use Rattle.ioa_tree.specs.Components.{Component}
use Rattle.ioa_tree.specs.Steps.{Asked, free, owned, asked}
use Rattle.ioa_system.specs.declared.steps.Consent.{Consent}

-- the owner's precondition answers by a fault
abbrev pub is_faulted : Asked → Bool
is_faulted free = false
is_faulted (owned i (Ok b)) = false
is_faulted (owned i (Err f)) = true

-- the precondition of the action's owner faults in these states. Where a step from them faults and this does not, an effect does.
abbrev pub precondition_faults : {S : Type 0} → List (Component S) → Act → List S → Bool
precondition_faults ps a ss = is_faulted (asked 0 ps a ss)

-- the same of what the program tells
abbrev pub is_fault_of : Consent → Bool
is_fault_of Consent.Given = false
is_fault_of Consent.Denied = false
is_fault_of (Consent.Faulted c f) = true
