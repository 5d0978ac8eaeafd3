-- Effects that are followed over their trees: what may be, what is left, and counts of what is taken.
use Rattle.std.specs.Prelude.{◌≡◌, ◌+◌, ℕ, Bool, true, List, [], ◌∷◌, Some, None, Result, Ok, Err, get_or, slice_set}
use Rattle.ioa_arithmetic.specs.declared.arithmetic.Fault.{Fault}
use Rattle.ioa_value.specs.Actions.{Name}
use Rattle.ioa_value.specs.Plain.{Val, Vals, items, name, none, num, truth, tuple}
use Rattle.ioa_value.specs.Table.{Table}
use Rattle.ioa_tree.specs.Answers.{Suits}
use Rattle.ioa_tree.specs.Meaning.{Env, Outcome, becomes, breaks, then_do, with_name, without}
use Rattle.ioa_tree.specs.Tree.{AutomatonTree, EntryTree, Stmt, Stmts}
use Rattle.ioa_tree.specs.WellFormed.{Context, context_of, scope_in, stmt_fine, stmts_fine, type_in, variable_fields}
use Rattle.ioa_coverage.specs.declared.scope.Binding.{Binding}
use Rattle.ioa_coverage.specs.Known.{names_in}

-- ---- what may be followed: statements that keep the rules of an entry's effect, within loops whose names are no variables', where each name stands for a
-- value of its type

abbrev pub Rule : Type 0
Rule = List Name → AutomatonTree → EntryTree → Context → Bool

abbrev pub AreApart : Table → AutomatonTree → Context → Type 0
AreApart types a loops = (x : Name) (ty : ℕ) → type_in (context_of types (variable_fields a)) x ≡ Some ty → type_in loops x ≡ None

pub record MayBy (types : Table) (rule : Rule) (env : Env) : Type 0 where
  pub globals : List Name
  pub automaton : AutomatonTree
  pub entry : EntryTree
  pub loops : Context
  pub apart : AreApart types automaton loops
  pub fine : rule globals automaton entry loops ≡ true
  pub suits : Suits types (scope_in types types globals automaton entry loops) env

abbrev pub MayFollow : Table → Env → Stmt → Type 0
MayFollow types env s = MayBy types (λ globals a e loops. stmt_fine types types globals a e loops s) env

abbrev pub MayFollowAll : Table → Env → Stmts → Type 0
MayFollowAll types env ss = MayBy types (λ globals a e loops. stmts_fine types types globals a e loops ss) env

-- ---- what is left

abbrev pub left : {X : Type 0} → Result X Fault → Env → Outcome
left (Ok u) env = becomes env
left (Err f) env = breaks f

-- the same names stand for something
abbrev pub KeepsNames : List Binding → List Binding → Type 0
KeepsNames old new = names_in new ≡ names_in old

-- a turn of a loop: its body with the name for a value, which is given back behind it
abbrev pub turned : (Env → Outcome) → Name → Val → Env → Outcome
turned body x v env = then_do (body (with_name env x v)) (λ next. becomes (without x env next))

-- the items of a sequence
abbrev pub items_in : Val → Vals
items_in (items ty vs) = vs
items_in (truth b) = none
items_in (num z) = none
items_in (name ty n) = none
items_in (tuple ty vs) = none

-- ---- counts

-- one more of this number
abbrev pub one_more : List ℕ → ℕ → List ℕ
one_more cs n = slice_set cs n (get_or cs n 0 + 1)

-- one more for each of these
abbrev pub with_marks : List ℕ → List ℕ → List ℕ
with_marks cs [] = cs
with_marks cs (n ∷ ns) = with_marks (one_more cs n) ns
