-- The ways in which chance may fill an entry's action in a state: for each place of its values so many, by number, and all combinations.
use Rattle.std.specs.Prelude.{ℕ, suc, ◌*◌, ◌%◌, ◌/◌, ◌==◌, ◌&&◌, pos, negsuc, Bool, false, List, [], ◌∷◌, filter, find, length, map, min, Option, Some, None, Result, Ok, Err}
use Rattle.std.specs.List.{range_with_len}
use Rattle.std.specs.Option.{option_map_or}
use Rattle.std.specs.Str.{bytes_eq}
use Rattle.ioa_arithmetic.specs.declared.arithmetic.Fault.{Fault}
use Rattle.ioa_value.specs.Actions.{Act, Name}
use Rattle.ioa_value.specs.Operators.{Answer, gives, faults, nothing}
use Rattle.ioa_value.specs.Plain.{Val, truth, num, name, tuple, items}
use Rattle.ioa_value.specs.Table.{Table, Shape, truths, numbers, names, fields, sequence, shape_at, type_named}
use Rattle.ioa_tree.specs.Components.{Component, owns}
use Rattle.ioa_tree.specs.Instances.{Instance, constant_value, formal_values, transition_for}
use Rattle.ioa_tree.specs.Meaning.{Env, over, val}
use Rattle.ioa_tree.specs.Tree.{FieldTree, PositionTree, typed, only, EntryTree, ChoiceTree, exactly, any_below, ProposalTree}

-- so many values, by number from 0
pub record Values : Type 0 where
  pub count : ℕ
  pub value : ℕ → Val

abbrev pub one : Val → Values
one v = record { count = 1; value = λ n. v }

abbrev pub none : Values
none = record { count = 0; value = λ n. truth false }

-- an expression's value; none where it faults
abbrev pub the_value : Answer → Values
the_value (gives v) = one v
the_value (faults f) = none
the_value nothing = none

-- the whole numbers from 0 that are below this one
abbrev pub all_below : Answer → Values
all_below (gives (num (pos n))) = record { count = n; value = λ k. num (pos k) }
all_below (gives (num (negsuc n))) = none
all_below (gives (truth b)) = none
all_below (gives (name ty n)) = none
all_below (gives (tuple ty vs)) = none
all_below (gives (items ty vs)) = none
all_below (faults f) = none
all_below nothing = none

-- the values of a Bool or of an enumeration; false is number 0
abbrev pub all_of : ℕ → Option Shape → Values
all_of ty (Some truths) = record { count = 2; value = λ k. truth (k == 1) }
all_of ty (Some numbers) = none
all_of ty (Some (names ns)) = record { count = length ns; value = λ k. name ty k }
all_of ty (Some (fields fs)) = none
all_of ty (Some (sequence most of)) = none
all_of ty None = none

module _ (types : Table) (env : Env) where
  abbrev pub of_choice : ChoiceTree → Values
  of_choice (exactly e) = the_value (val types e env)
  of_choice (any_below e) = all_below (val types e env)

  -- those that the parameter's proposal may give, or else all of its type
  abbrev pub of_parameter : List ProposalTree → FieldTree → Values
  of_parameter ps f =
      option_map_or (λ p. of_choice p.choice)
      (find (λ p. bytes_eq p.name f.name) ps)
      (option_map_or (λ ty. all_of ty (shape_at types ty)) (type_named types f.ty) none)

-- those of each place, in order; a constant stands for one
abbrev pub of_positions : Instance → Env → List ProposalTree → List PositionTree → List Values
of_positions i env ps [] = []
of_positions i env ps (typed f ∷ rest) = of_parameter i.types env ps f ∷ of_positions i env ps rest
of_positions i env ps (only c ∷ rest) = option_map_or (λ v. one v ∷ of_positions i env ps rest) (constant_value i c) (of_positions i env ps rest)

-- those of an entry's action in this state
abbrev pub ways : Instance → EntryTree → Env → List Values
ways i e s = option_map_or (λ t. of_positions i (over (formal_values i) s) t.proposals e.positions) (transition_for i.automaton e) (none ∷ [])

-- ---- combinations

-- how many there are
abbrev pub total : List Values → ℕ
total [] = 1
total (c ∷ cs) = c.count * total cs

-- the one of this number: the first place changes the fastest
abbrev pub combination : List Values → ℕ → List Val
combination [] k = []
combination (c ∷ cs) k = c.value (k % c.count) ∷ combination cs (k / c.count)

-- the action that it makes with a name
abbrev pub way : Name → List Values → ℕ → Act
way x cs k = record { name = x; vals = combination cs k }

-- those of the first so many, or of all where there are no more
abbrev pub first_ways : Name → List Values → ℕ → List Act
first_ways x cs most = map (way x cs) (range_with_len 0 (min (total cs) most))

-- ---- which of them are enabled

abbrev pub is_yes : Result Bool Fault → Bool
is_yes (Ok b) = b
is_yes (Err f) = false

-- the component performs the action by itself, and its precondition is true
abbrev pub is_enabled : {S : Type 0} → Component S → S → Act → Bool
is_enabled p s a = owns a p && is_yes (p.guard a s)

abbrev pub enabled_ways : {S : Type 0} → Component S → S → Name → List Values → ℕ → List Act
enabled_ways p s x cs most = filter (is_enabled p s) (first_ways x cs most)
