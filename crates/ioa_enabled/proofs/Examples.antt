-- The ways of small entries: each answer is computed.
use Rattle.std.proofs.Common.{◌≡◌, ℕ, List, [], ◌∷◌, Option, Some, None, Result, Ok, Err, Bool, true, false, map, pos, refl, codes}
use Rattle.std.specs.Prelude.{nat_lt}
use Rattle.std.specs.List.{range_with_len}
use Rattle.ioa_arithmetic.specs.declared.arithmetic.Fault.{Fault}
use Rattle.ioa_arithmetic.specs.declared.arithmetic.Fault.TheVariants.{Overflow}
use Rattle.ioa_value.specs.Actions.{Name}
use Rattle.ioa_tree.specs.declared.tree.Kind.{Kind}
use Rattle.ioa_value.specs.Plain.{Val, truth, num, name}
use Rattle.ioa_value.specs.Table.{Table, names, numbers, truths}
use Rattle.ioa_tree.specs.declared.tree.Kind.TheVariants.{Input, Output}
use Rattle.ioa_tree.specs.Components.{Component}
use Rattle.ioa_tree.specs.Meaning.{values_of}
use Rattle.ioa_tree.specs.Tree.{AutomatonTree, ChoiceTree, EntryTree, FieldTree, PositionTree, ProposalTree, any_below, exactly, named, number, only, positive, stop, typed}
use Rattle.ioa_enabled.specs.Ways.{Values, combination, enabled_ways, total, way, ways}

-- one enumeration of three names, as type 2
abbrev types : Table
types = record { name = codes "Bool"; shape = truths } ∷ record { name = codes "Int"; shape = numbers } ∷ record { name = codes "Kind"; shape = names (codes "data" ∷ codes "ack" ∷ codes "idle" ∷ []) } ∷ []

abbrev field : Name → Name → FieldTree
field x ty = record { name = x; ty = ty }

abbrev entry : List PositionTree → EntryTree
entry ps = record { kind = Output; name = codes "send"; positions = ps }

abbrev automaton : EntryTree → List ProposalTree → AutomatonTree
automaton e ps = record {
  name = codes "Sender";
  formals = [];
  entries = e ∷ [];
  variables = [];
  transitions = record { kind = Output; name = codes "send"; pre = None; proposals = ps; effect = stop } ∷ [];
}

-- the ways of an entry with these positions and proposals, in a state in which `most` is 2 and `none` is 0
abbrev of : List PositionTree → List ProposalTree → List Values
of ps qs =
    ways (record { types = types; automaton = automaton (entry ps) qs; arguments = [] }) (entry ps)
    (values_of (codes "most" ∷ codes "none" ∷ []) (num (pos 2) ∷ num (pos 0) ∷ []))

abbrev all : List Values → List (List Val)
all cs = map (combination cs) (range_with_len 0 (total cs))

abbrev with : Name → ChoiceTree → ProposalTree
with x c = record { name = x; choice = c }

-- an entry without parameters has one way
bare : all (of [] []) ≡ [] ∷ []
bare = refl

-- a Bool has two, false first
of_truths : all (of (typed (field (codes "b") (codes "Bool")) ∷ []) []) ≡ (truth false ∷ []) ∷ (truth true ∷ []) ∷ []
of_truths = refl

-- a clause gives one value, also of a type that has many
of_clause : all (of (typed (field (codes "b") (codes "Bool")) ∷ []) (with (codes "b") (exactly (named (codes "most"))) ∷ [])) ≡ (num (pos 2) ∷ []) ∷ []
of_clause = refl

-- the first place changes the fastest, and a constant stays
of_places : all (of (typed (field (codes "k") (codes "Kind")) ∷ only (positive 7) ∷ typed (field (codes "n") (codes "Int")) ∷ []) (with (codes "n") (any_below (named (codes "most"))) ∷ []))
    ≡ (name 2 0 ∷ num (pos 7) ∷ num (pos 0) ∷ [])
    ∷ (name 2 1 ∷ num (pos 7) ∷ num (pos 0) ∷ [])
    ∷ (name 2 2 ∷ num (pos 7) ∷ num (pos 0) ∷ [])
    ∷ (name 2 0 ∷ num (pos 7) ∷ num (pos 1) ∷ [])
    ∷ (name 2 1 ∷ num (pos 7) ∷ num (pos 1) ∷ [])
    ∷ (name 2 2 ∷ num (pos 7) ∷ num (pos 1) ∷ [])
    ∷ []
of_places = refl

-- there is no number below 0, and none where a name has no value
none_below : all (of (typed (field (codes "k") (codes "Kind")) ∷ typed (field (codes "n") (codes "Int")) ∷ []) (with (codes "n") (any_below (named (codes "none"))) ∷ [])) ≡ []
none_below = refl

no_value : total (of (typed (field (codes "n") (codes "Int")) ∷ []) (with (codes "n") (exactly (named (codes "other"))) ∷ [])) ≡ 0
no_value = refl

-- an Int has no value without a clause
no_clause : total (of (typed (field (codes "n") (codes "Int")) ∷ []) []) ≡ 0
no_clause = refl

-- more are counted, and not listed
many : total (of (typed (field (codes "k") (codes "Kind")) ∷ typed (field (codes "n") (codes "Int")) ∷ []) (with (codes "n") (any_below (number 4294967296)) ∷ [])) ≡ 12884901888
many = refl

-- the last of them
last : combination (of (typed (field (codes "k") (codes "Kind")) ∷ typed (field (codes "n") (codes "Int")) ∷ []) (with (codes "n") (any_below (number 4294967296)) ∷ [])) 12884901887
    ≡ name 2 2 ∷ num (pos 4294967295) ∷ []
last = refl

-- ---- which are enabled

-- a component that allows the actions whose first value is below 2, and faults at others than numbers
abbrev small : List Val → Result Bool Fault
small [] = Err Overflow
small (num (pos n) ∷ vs) = Ok (nat_lt n 2)
small (v ∷ vs) = Err Overflow

abbrev component : Option Kind → Component ℕ
component k = record { kind_of = λ a. k; guard = λ a s. small a.vals; effect = λ a s. Ok s }

abbrev three : List Values
three = of (typed (field (codes "n") (codes "Int")) ∷ []) (with (codes "n") (any_below (number 3)) ∷ [])

two_of_three : enabled_ways (component (Some Output)) 0 (codes "send") three 64 ≡ way (codes "send") three 0 ∷ way (codes "send") three 1 ∷ []
two_of_three = refl

-- of the first alone
one_of_one : enabled_ways (component (Some Output)) 0 (codes "send") three 1 ≡ way (codes "send") three 0 ∷ []
one_of_one = refl

-- none that it does not perform by itself, and none whose precondition faults
no_input : enabled_ways (component (Some Input)) 0 (codes "send") three 64 ≡ []
no_input = refl

no_fault : enabled_ways (component (Some Output)) 0 (codes "send") (of (typed (field (codes "b") (codes "Bool")) ∷ []) []) 64 ≡ []
no_fault = refl
