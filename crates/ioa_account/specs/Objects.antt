-- What is told of a monitor that is an object: it has no source, and its variables have no names.
use Rattle.std.specs.Prelude.{◌≡◌, ◌⊎◌, ◌+◌, ◌++◌, ℕ, true, List, [], Option, Some, None, codes, length, slice_get}
use Rattle.std.specs.Fmt.{decimal}
use Rattle.std.specs.Option.{option_map_or}
use Rattle.ioa_arithmetic.specs.Arithmetic.{fault_number}
use Rattle.ioa_value.specs.Actions.{Act, Name}
use Rattle.ioa_tree.specs.Runs.{Ending, done, not_an_action_at, not_enabled_at, fault_at}
use Rattle.ioa_compile.specs.Programs.{MemberCode, Prog}
use Rattle.ioa_compile.specs.Tables.{start_states, tabled}
use Rattle.ioa_system.specs.declared.outcomes.Step.{Step}
use Rattle.ioa_monitor.specs.Monitoring.{hides, monitored}
use Rattle.ioa_account.specs.Accounts.{action_text, fault_words}
use Rattle.ioa_account.specs.Counts.{known_actions}
use Rattle.ioa_account.specs.Ends.{index_in, owner_at}
use Rattle.ioa_account.specs.Quoted.{line_text}
use Rattle.ioa_account.specs.Remarks.{known_text}

-- the name of the component of this number
abbrev pub member_name : Prog → Option ℕ → Name
member_name p None = []
member_name p (Some i) = option_map_or (λ (m : MemberCode). m.name) (slice_get p.members i) []

-- an action of this text is not enabled in the component of this name
abbrev pub not_enabled_text : List ℕ → Name → List ℕ
not_enabled_text action x = action ++ (codes " is not enabled in " ++ (x ++ codes "\n"))

-- why an action is not accepted
abbrev pub reason : Prog → List Act → Ending → List ℕ
reason p acts (done n) = []
reason p acts (not_an_action_at i) = []
reason p acts (not_enabled_at i) = not_enabled_text (action_text p.types acts i) (member_name p (owner_at (tabled p) acts i))
reason p acts (fault_at c f i) =
    codes "fault " ++ (decimal (fault_number f) ++ (codes " of " ++ (action_text p.types acts i ++ (codes " in " ++ (member_name p (Some c) ++ (codes ": " ++ (fault_words f ++ codes "\n")))))))

-- how a run ends by this answer to the action of this index
abbrev pub ending_at : ℕ → Step → Ending
ending_at i Step.Next = done (i + 1)
ending_at i Step.NotAnAction = not_an_action_at i
ending_at i Step.NotEnabled = not_enabled_at i
ending_at i (Step.Fault c f) = fault_at c f i

-- the log's line with the action that is not accepted, and why; nothing, where all are
abbrev pub refusal_text : Prog → List ℕ → List Act → Option Ending → List ℕ
refusal_text p input acts None = []
refusal_text p input acts (Some e) = option_map_or (λ i. line_text (codes "log") input (i + 1)) (index_in e) [] ++ reason p acts e

-- behind how many of the actions the program has; of one that hides actions no more is told
abbrev pub TellsObject : Prog → List ℕ → List Act → List ℕ → List ℕ → Type 0
TellsObject p input acts before after =
    let told = before ++ known_text (known_actions (tabled p) acts) (length acts) in
    ((hides p ≡ true) × (after ≡ told)) ⊎ (after ≡ told ++ refusal_text p input acts (monitored (tabled p) acts (start_states p)))
