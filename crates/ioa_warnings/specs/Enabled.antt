-- What it means that a parameter is free: its value has no part in whether an action is enabled.
use Rattle.std.specs.Prelude.{◌≡◌, true, false, Some}
use Rattle.std.specs.Str.{bytes_eq}
use Rattle.ioa_value.specs.Actions.{Act, Name}
use Rattle.ioa_tree.specs.Instances.{Instance, entry_for, field_names, guard_in, parameter_values, position_fields, transition_for}
use Rattle.ioa_tree.specs.Meaning.{Env, values_of}
use Rattle.ioa_tree.specs.Tree.{EntryTree, TransitionTree}
use Rattle.ioa_warnings.specs.Free.{is_free}

-- what an entry's parameters stand for in an action
abbrev pub parameters_in : EntryTree → Act → Env
parameters_in e a = values_of (field_names (position_fields e.positions)) (parameter_values e.positions a.vals)

-- two actions of an entry in which the other parameters have the same values
pub record DifferIn (i : Instance) (e : EntryTree) (x : Name) (a b : Act) : Type 0 where
  pub one : entry_for i a ≡ Some e
  pub other : entry_for i b ≡ Some e
  pub agree : (y : Name) → bytes_eq y x ≡ false → parameters_in e a y ≡ parameters_in e b y

-- where the entry's transition leaves a parameter free, the guard answers the same whatever its value is
abbrev pub FreeIsEnabled : Type 0
FreeIsEnabled =
    (i : Instance) (e : EntryTree) (t : TransitionTree) (x : Name) (a b : Act) (s : Env) → transition_for i.automaton e ≡ Some t → is_free t.pre x ≡ true
    → DifferIn i e x a b → guard_in i a s ≡ guard_in i b s
