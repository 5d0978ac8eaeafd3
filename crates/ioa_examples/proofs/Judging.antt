-- Small logs of a counter, and what they are judged to be: each answer is computed.
use Rattle.std.proofs.Common.{◌≡◌, ℕ, ◌+◌, ◌==◌, List, [], ◌∷◌, Bool, Some, None, Ok, Err, pos, refl, codes, if◌then◌else◌}
use Rattle.std.specs.Str.{bytes_eq}
use Rattle.ioa_arithmetic.specs.declared.arithmetic.Fault.TheVariants.{Overflow, ZeroDivisor}
use Rattle.ioa_value.specs.Actions.{Name, Act}
use Rattle.ioa_value.specs.Plain.{Val, num}
use Rattle.ioa_tree.specs.declared.tree.Kind.TheVariants.{Input, Output}
use Rattle.ioa_tree.specs.Components.{Component}
use Rattle.ioa_tree.specs.Runs.{Ending, done, not_enabled_at, fault_at}
use Rattle.ioa_system.specs.Logs.{Logged}
use Rattle.ioa_monitor.specs.Monitoring.{monitored}
use Rattle.ioa_log.specs.Judging.{judged, agrees, wrong_owner, diverges}
use Rattle.ioa_log.specs.RunLogs.{run_log}

abbrev is_named : Name → Act → Bool
is_named x a = bytes_eq a.name x

-- the number that stands in an action
abbrev value_of : List Val → ℕ
value_of [] = 0
value_of (num (pos k) ∷ vs) = k
value_of (v ∷ vs) = 0

-- ticks tell the count and raise it, until it is 2: then they fault; a reset from outside makes it 0
abbrev pub counter : Component ℕ
counter = record {
  kind_of = λ a. if is_named (codes "tick") a then Some Output else if is_named (codes "reset") a then Some Input else None;
  guard = λ a s. Ok (value_of a.vals == s);
  effect = λ a s. if is_named (codes "reset") a then Ok 0 else if s == 2 then Err Overflow else Ok (s + 1);
}

abbrev pub tick : ℕ → Act
tick k = record { name = codes "tick"; vals = num (pos k) ∷ [] }

abbrev pub reset : Act
reset = record { name = codes "reset"; vals = [] }

abbrev other : Act
other = record { name = codes "other"; vals = [] }

-- a log of the counter from 0
abbrev log : List (ℕ × Act) → Ending → Logged
log entries ending = record { entries = entries; ending = ending }

-- component 0 performs ticks; whoever is outside, worker 1, resets
agrees_here : judged (counter ∷ []) (0 ∷ []) (log ((0, tick 0) ∷ (0, tick 1) ∷ (1, reset) ∷ []) (done 3)) ≡ agrees
agrees_here = refl

another_worker : judged (counter ∷ []) (0 ∷ []) (log ((1, tick 0) ∷ (0, tick 1) ∷ (1, reset) ∷ []) (done 3)) ≡ wrong_owner 1
another_worker = refl

-- the worker is asked before the precondition
another_worker_first : judged (counter ∷ []) (0 ∷ []) (log ((1, tick 1) ∷ []) (done 1)) ≡ wrong_owner 1
another_worker_first = refl

-- an action of none has no worker to ask for
no_action : judged (counter ∷ []) (0 ∷ []) (log ((0, tick 0) ∷ (7, other) ∷ []) (done 2)) ≡ diverges 2
no_action = refl

exchanged : judged (counter ∷ []) (0 ∷ []) (log ((0, tick 1) ∷ (0, tick 0) ∷ (1, reset) ∷ []) (done 3)) ≡ diverges 1
exchanged = refl

another_count : judged (counter ∷ []) (0 ∷ []) (log ((0, tick 0) ∷ (0, tick 1) ∷ (1, reset) ∷ []) (done 2)) ≡ diverges 4
another_count = refl

-- the last entry of a log that ends by a fault is the one that faults
faults_here : judged (counter ∷ []) (0 ∷ []) (log ((0, tick 0) ∷ (0, tick 1) ∷ (0, tick 2) ∷ []) (fault_at 0 Overflow 2)) ≡ agrees
faults_here = refl

another_fault : judged (counter ∷ []) (0 ∷ []) (log ((0, tick 0) ∷ (0, tick 1) ∷ (0, tick 2) ∷ []) (fault_at 0 ZeroDivisor 2)) ≡ diverges 4
another_fault = refl

no_fault : judged (counter ∷ []) (0 ∷ []) (log ((0, tick 0) ∷ (0, tick 1) ∷ []) (fault_at 0 Overflow 1)) ≡ diverges 2
no_fault = refl

fault_is_no_end : judged (counter ∷ []) (0 ∷ []) (log ((0, tick 0) ∷ (0, tick 1) ∷ (0, tick 2) ∷ []) (done 3)) ≡ diverges 3
fault_is_no_end = refl

fault_alone : judged (counter ∷ []) (0 ∷ []) (log [] (fault_at 0 Overflow 0)) ≡ diverges 1
fault_alone = refl

-- a monitor passes over what is not its own, but counts it
accepts : monitored (counter ∷ []) (other ∷ tick 0 ∷ other ∷ tick 1 ∷ []) (0 ∷ []) ≡ None
accepts = refl

refuses : monitored (counter ∷ []) (other ∷ tick 0 ∷ other ∷ tick 0 ∷ []) (0 ∷ []) ≡ Some (not_enabled_at 3)
refuses = refl

-- the log of a run has what is performed, each with its worker
logs_its_workers : run_log (counter ∷ []) (0 ∷ []) (tick 0 ∷ tick 1 ∷ reset ∷ []) ≡ log ((0, tick 0) ∷ (0, tick 1) ∷ (1, reset) ∷ []) (done 3)
logs_its_workers = refl

logs_nothing : run_log (counter ∷ []) (0 ∷ []) [] ≡ log [] (done 0)
logs_nothing = refl

-- it ends as done before an action that is not enabled, or is none
logs_before_it : run_log (counter ∷ []) (0 ∷ []) (tick 0 ∷ tick 0 ∷ reset ∷ []) ≡ log ((0, tick 0) ∷ []) (done 1)
logs_before_it = refl

logs_before_none : run_log (counter ∷ []) (0 ∷ []) (tick 0 ∷ reset ∷ other ∷ tick 0 ∷ []) ≡ log ((0, tick 0) ∷ (1, reset) ∷ []) (done 2)
logs_before_none = refl

-- the action that faults is its last entry
logs_the_fault : run_log (counter ∷ []) (0 ∷ []) (tick 0 ∷ tick 1 ∷ tick 2 ∷ reset ∷ []) ≡ log ((0, tick 0) ∷ (0, tick 1) ∷ (0, tick 2) ∷ []) (fault_at 0 Overflow 2)
logs_the_fault = refl
