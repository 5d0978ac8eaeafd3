-- Steps from the participants' states alone.
use Rattle.std.specs.Prelude.{ℕ, ◌≡◌, List, [], ◌∷◌, filter, filter_map, length, slice_get, slice_index, slice_set}
use Rattle.ioa_value.specs.Actions.{Act}
use Rattle.ioa_tree.specs.Components.{Component, has}
use Rattle.ioa_tree.specs.Steps.{Moved, next, not_an_action, not_enabled, fault, participants, step}

-- the items of these numbers
abbrev pub taken : {X : Type 0} → List ℕ → List X → List X
taken ns xs = filter_map (slice_get xs) ns

-- the items ys, each in the place of its number
abbrev pub put_back : {X : Type 0} → List ℕ → List X → List X → List X
put_back [] ys xs = xs
put_back (n ∷ ns) [] xs = xs
put_back (n ∷ ns) (y ∷ ys) xs = put_back ns ys (slice_set xs n y)

-- what components of these numbers answer: a fault tells the component's number
abbrev pub renumbered : {S : Type 0} → List ℕ → Moved S → Moved S
renumbered ns (next ts) = next ts
renumbered ns not_an_action = not_an_action
renumbered ns not_enabled = not_enabled
renumbered ns (fault i f) = fault (slice_index ns i) f

-- the answer for all components, of which those of these numbers have the new states
abbrev pub all_back : {S : Type 0} → List ℕ → List S → Moved S → Moved S
all_back ns ss (next ts) = next (put_back ns ts ss)
all_back ns ss not_an_action = not_an_action
all_back ns ss not_enabled = not_enabled
all_back ns ss (fault c f) = fault c f

-- the step of the participants alone, from one state for each in order
abbrev pub step_from : {S : Type 0} → List (Component S) → Act → List S → Moved S
step_from ps a ts = renumbered (participants ps a) (step (filter (has a) ps) a ts)

-- a step is its participants' step: it depends on their states alone, and changes no other
abbrev pub DependsOnParticipants : {S : Type 0} → List (Component S) → Act → List S → Type 0
DependsOnParticipants ps a ss =
    length ss ≡ length ps → step ps a ss ≡ all_back (participants ps a) ss (step_from ps a (taken (participants ps a) ss))
