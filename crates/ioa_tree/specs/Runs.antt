-- Runs of a composition over a list of actions, and their traces (Lynch 1996, sections 8.1 and 8.2).
use Rattle.std.specs.Prelude.{ℕ, ◌+◌, List, [], ◌∷◌, Bool, true, false, cond, not, filter, take}
use Rattle.std.specs.List.{list_any}
use Rattle.std.specs.Str.{bytes_eq}
use Rattle.ioa_arithmetic.specs.declared.arithmetic.Fault.{Fault}
use Rattle.ioa_value.specs.Actions.{Name, Act}
use Rattle.ioa_tree.specs.Components.{Component, owns, is_output}
use Rattle.ioa_tree.specs.Steps.{Moved, next, not_an_action, not_enabled, fault, step}

-- why a run ends: all is performed, or the first other answer, with the index of its action
pub data Ending : Type 0 where
  done : ℕ → Ending
  not_an_action_at : ℕ → Ending
  not_enabled_at : ℕ → Ending
  fault_at : ℕ → Fault → ℕ → Ending

-- how many actions in a row are performed, the states then reached, and the end
pub record Reached (S : Type 0) : Type 0 where
  pub performed : ℕ
  pub states : List S
  pub ending : Ending

abbrev pub after : {S : Type 0} → ℕ → List S → Moved S → (List S → Reached S) → Reached S
after n ss (next ts) more = more ts
after n ss not_an_action more = record { performed = n; states = ss; ending = not_an_action_at n }
after n ss not_enabled more = record { performed = n; states = ss; ending = not_enabled_at n }
after n ss (fault i f) more = record { performed = n; states = ss; ending = fault_at i f n }

-- the run from here, with n actions performed before
abbrev pub run_from : {S : Type 0} → ℕ → List (Component S) → List Act → List S → Reached S
run_from n ps [] ss = record { performed = n; states = ss; ending = done n }
run_from n ps (a ∷ acts) ss = after n ss (step ps a ss) (λ ts. run_from (n + 1) ps acts ts)

abbrev pub run : {S : Type 0} → List (Component S) → List Act → List S → Reached S
run ps acts ss = run_from 0 ps acts ss

-- an action is external when it has no owner, or is its owner's output and is not hidden
abbrev pub is_external : {S : Type 0} → List Name → List (Component S) → Act → Bool
is_external hidden [] a = true
is_external hidden (p ∷ ps) a =
    cond (owns a p) (cond (is_output (p.kind_of a)) (not (list_any (λ h. bytes_eq h a.name) hidden)) false) (is_external hidden ps a)

-- the external ones among the first n actions
abbrev pub trace : {S : Type 0} → List Name → List (Component S) → List Act → ℕ → List Act
trace hidden ps acts n = filter (is_external hidden ps) (take n acts)
