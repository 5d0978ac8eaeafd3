-- How what specifications counted of a stream is told.
use Rattle.std.specs.Prelude.{ℕ, List, [], ◌++◌, Bool, true, false, ◌≡◌, ◌⊎◌, Option, Some, None, codes}
use Rattle.std.specs.Fmt.{decimal}
use Rattle.std.specs.List.{flat_map, zip}
use Rattle.ioa_arithmetic.specs.declared.arithmetic.Fault.{Fault}
use Rattle.ioa_value.specs.Actions.{Act, Name}
use Rattle.ioa_tree.specs.Runs.{Ending, done, not_an_action_at, not_enabled_at, fault_at}
use Rattle.ioa_compile.specs.Programs.{Prog}
use Rattle.ioa_watch.specs.Names.{names_of}
use Rattle.ioa_watch.specs.Watchers.{heard_by, refused_by}

-- how many actions of this name were taken
abbrev pub taken_of : Name × ℕ → List ℕ
taken_of c = decimal c.1 ++ (codes " " ++ (c.0 ++ codes ", "))

abbrev pub taken_text : List Name → List ℕ → List ℕ
taken_text names counts = flat_map taken_of (zip names counts)

-- the specification's name, these words, and how many actions of other names were passed over
abbrev pub counts_line : Name → List ℕ → ℕ → List ℕ
counts_line x taken others = x ++ (codes ": " ++ (taken ++ (decimal others ++ codes " of other names\n")))

-- Where an action has a fault since a sequence is full, the specification holds no more: of the system that tells nothing.
abbrev pub means_full : Fault → Bool
means_full Fault.Overflow = false
means_full Fault.ZeroDivisor = false
means_full Fault.Empty = false
means_full Fault.OutOfRange = false
means_full Fault.Full = true

abbrev pub is_full : Option Ending → Bool
is_full None = false
is_full (Some (done n)) = false
is_full (Some (not_an_action_at i)) = false
is_full (Some (not_enabled_at i)) = false
is_full (Some (fault_at c f i)) = means_full f

abbrev pub full_line : Name → Bool → List ℕ
full_line x true = x ++ codes ": the specification is full, which tells nothing of the system\n"
full_line x false = []

-- what a specification counted of the actions, up to the first that it refuses
abbrev pub counted_lines : List Act → Prog → List ℕ
counted_lines acts p =
    counts_line p.name (taken_text (names_of p.members) (heard_by p acts).counts) (heard_by p acts).others ++ full_line p.name (is_full (refused_by p acts))

abbrev pub counted_text : List Prog → List Act → List ℕ
counted_text ps acts = flat_map (counted_lines acts) ps

-- it is told where it is asked for, unless memory is short for it
abbrev pub MayTell : Bool → List ℕ → Option (List ℕ) → Type 0
MayTell false text told = told ≡ None
MayTell true text told = (told ≡ None) ⊎ (told ≡ Some text)
