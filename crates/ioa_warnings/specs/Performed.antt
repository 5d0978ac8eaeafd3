-- What it means that a transition is dead: no action is performed by it.
use Rattle.std.specs.Prelude.{◌≡◌, ◌≢◌, ℕ, true, Some, Ok}
use Rattle.ioa_value.specs.Actions.{Act}
use Rattle.ioa_value.specs.Table.{Table}
use Rattle.ioa_tree.specs.Instances.{Instance, entry_for, guard_in, transition_for}
use Rattle.ioa_tree.specs.Meaning.{Env}
use Rattle.ioa_tree.specs.Proposing.{Words, choice, idle}
use Rattle.ioa_tree.specs.Tree.{ChoiceTree, EntryTree, Expr, TransitionTree}
use Rattle.ioa_warnings.specs.Dead.{gives_nothing}
use Rattle.ioa_warnings.specs.Never.{never}

-- no action of an entry is enabled in any state whose transition has a precondition that is never true
abbrev pub DeadIsDisabled : Type 0
DeadIsDisabled =
    (i : Instance) (e : EntryTree) (t : TransitionTree) (pre : Expr) (a : Act) (s : Env) → entry_for i a ≡ Some e → transition_for i.automaton e ≡ Some t
    → t.pre ≡ Some pre → never true pre ≡ true → guard_in i a s ≢ Ok true

-- where chance has nothing to give, there is nothing to try, whatever its words are
abbrev pub NothingIsTried : Type 0
NothingIsTried = (words : Words) (types : Table) (s : Env) (c : ChoiceTree) (taken : ℕ) → gives_nothing c ≡ true → choice words types s c taken ≡ idle taken
