-- The first broken invariant along runs of a counter: each answer is computed.
use Rattle.std.proofs.Common.{◌≡◌, ℕ, ◌==◌, List, [], ◌∷◌, Option, Some, None, refl, if◌then◌else◌}
use Rattle.ioa_value.specs.Actions.{Act}
use Rattle.ioa_tree.specs.Invariants.{Broken, first_from}
use Rattle.ioa_examples.proofs.Judging.{counter, tick, reset}

abbrev after : ℕ → Option Broken
after n = Some (record { state = n; component = 0; invariant = 0 })

-- the one invariant is broken where the counter stands at k
abbrev broken_where : ℕ → ℕ → List ℕ → Option Broken
broken_where k n [] = None
broken_where k n (s ∷ ss) = if s == k then after n else None

-- along the run of the actions from 0
abbrev first : ℕ → List Act → Option Broken
first k acts = first_from (counter ∷ []) (broken_where k) 0 acts (0 ∷ [])

at_the_start : first 0 (tick 0 ∷ []) ≡ after 0
at_the_start = refl

in_the_last_state_alone : first 2 (tick 0 ∷ tick 1 ∷ []) ≡ after 2
in_the_last_state_alone = refl

-- what holds again later is broken all the same
in_an_earlier_state : first 1 (tick 0 ∷ tick 1 ∷ reset ∷ []) ≡ after 1
in_an_earlier_state = refl

in_the_first_of_two : first 1 (tick 0 ∷ reset ∷ tick 0 ∷ []) ≡ after 1
in_the_first_of_two = refl

nowhere : first 3 (tick 0 ∷ tick 1 ∷ []) ≡ None
nowhere = refl

-- the third tick faults: the states before it are looked at, and the fault makes none
before_a_fault : first 2 (tick 0 ∷ tick 1 ∷ tick 2 ∷ []) ≡ after 2
before_a_fault = refl

no_state_after_a_fault : first 3 (tick 0 ∷ tick 1 ∷ tick 2 ∷ []) ≡ None
no_state_after_a_fault = refl
