-- Steps of a composition (Lynch 1996, section 8.2).
use Rattle.std.specs.Prelude.{ℕ, ◌+◌, List, [], ◌∷◌, Bool, true, false, cond, Option, Some, None, Result, Ok, Err}
use Rattle.std.specs.List.{list_any}
use Rattle.ioa_arithmetic.specs.declared.arithmetic.Fault.{Fault}
use Rattle.ioa_value.specs.Actions.{Act}
use Rattle.ioa_tree.specs.Components.{Component, has, owns}

-- what a step answers: all new states, or why there are none, with the number of the component that faults
pub data Moved (S : Type 0) : Type 0 where
  next : List S → Moved S
  not_an_action : Moved S
  not_enabled : Moved S
  fault : ℕ → Fault → Moved S

-- what the owner's precondition answers, with the owner's number; an action without owner is free
pub data Asked : Type 0 where
  free : Asked
  owned : ℕ → Result Bool Fault → Asked

abbrev pub asked : {S : Type 0} → ℕ → List (Component S) → Act → List S → Asked
asked i [] a ss = free
asked i (p ∷ ps) a [] = free
asked i (p ∷ ps) a (s ∷ ss) = cond (owns a p) (owned i (p.guard a s)) (asked (i + 1) ps a ss)

-- an action that the component does not have leaves its state
abbrev pub effect_on : {S : Type 0} → Component S → Act → S → Result S Fault
effect_on p a s = cond (has a p) (p.effect a s) (Ok s)

abbrev pub with_state : {S : Type 0} → S → Moved S → Moved S
with_state t (next ts) = next (t ∷ ts)
with_state t not_an_action = not_an_action
with_state t not_enabled = not_enabled
with_state t (fault i f) = fault i f

-- the fault of component i, or its new state with what the later components answer
abbrev pub then_rest : {S : Type 0} → ℕ → Result S Fault → Moved S → Moved S
then_rest i (Ok t) m = with_state t m
then_rest i (Err f) m = fault i f

-- the components' effects in order, each on its own state; the first fault is the answer
abbrev pub effects : {S : Type 0} → ℕ → List (Component S) → Act → List S → Moved S
effects i [] a ss = next []
effects i (p ∷ ps) a [] = next []
effects i (p ∷ ps) a (s ∷ ss) = then_rest i (effect_on p a s) (effects (i + 1) ps a ss)

-- without an owner, or where its precondition is true, the effects' answer stands
abbrev pub allowed : {S : Type 0} → Asked → Moved S → Moved S
allowed free m = m
allowed (owned i (Ok true)) m = m
allowed (owned i (Ok false)) m = not_enabled
allowed (owned i (Err f)) m = fault i f

-- one step: a participant there must be; then the owner's precondition; then the participants' effects
abbrev pub step : {S : Type 0} → List (Component S) → Act → List S → Moved S
step ps a ss = cond (list_any (has a) ps) (allowed (asked 0 ps a ss) (effects 0 ps a ss)) not_an_action

-- the numbers of the components that have the action, in ascending order from i
abbrev pub participants_from : {S : Type 0} → ℕ → List (Component S) → Act → List ℕ
participants_from i [] a = []
participants_from i (p ∷ ps) a = cond (has a p) (i ∷ participants_from (i + 1) ps a) (participants_from (i + 1) ps a)

abbrev pub participants : {S : Type 0} → List (Component S) → Act → List ℕ
participants ps a = participants_from 0 ps a

-- the number of the component that has the action as output or internal, from i
abbrev pub owner_from : {S : Type 0} → ℕ → List (Component S) → Act → Option ℕ
owner_from i [] a = None
owner_from i (p ∷ ps) a = cond (owns a p) (Some i) (owner_from (i + 1) ps a)

abbrev pub owner : {S : Type 0} → List (Component S) → Act → Option ℕ
owner ps a = owner_from 0 ps a
