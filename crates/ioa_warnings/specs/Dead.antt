-- Transitions that are never performed, as far as literals and connectives show: their precondition is true in no state, or chance has nothing to give to a parameter.
use Rattle.std.specs.Prelude.{ℕ, zero, suc, Bool, true, false, if◌then◌else◌, List, [], ◌∷◌, ◌++◌, map, Option, Some, None}
use Rattle.std.specs.List.{flat_map}
use Rattle.ioa_value.specs.Actions.{Name}
use Rattle.ioa_tree.specs.declared.tree.Declaration.{Declaration}
use Rattle.ioa_tree.specs.declared.tree.Declaration.TheVariants as declarations
use Rattle.ioa_tree.specs.Tree.{Expr, number, truth, named, parens, prefix, binary, empty, make, select, ChoiceTree, exactly, any_below, ProposalTree}
use Rattle.ioa_warnings.specs.Free.{Lined, lined}
use Rattle.ioa_warnings.specs.Never.{is_never_enabled}

-- ---- chance

abbrev pub is_zero : ℕ → Bool
is_zero zero = true
is_zero (suc n) = false

-- the literal 0
abbrev pub is_nothing : Expr → Bool
is_nothing (number n) = is_zero n
is_nothing (truth c) = false
is_nothing (named x) = false
is_nothing (parens e) = is_nothing e
is_nothing (prefix o e) = false
is_nothing (binary l o r) = false
is_nothing (empty ty) = false
is_nothing (make ty es) = false
is_nothing (select e field) = false

-- chance has nothing to give: no number from 0 is below 0
abbrev pub gives_nothing : ChoiceTree → Bool
gives_nothing (exactly e) = false
gives_nothing (any_below e) = is_nothing e

-- ---- transitions

-- a transition that is never performed: its action, the line of its name, and the parameter to which chance has nothing to give; none, where it is its precondition
pub record Dead : Type 0 where
  pub action : Name
  pub line : ℕ
  pub parameter : Option Name

abbrev pub dead_by : Lined → Option Name → List Dead
dead_by t parameter = record { action = t.1.name; line = t.0; parameter = parameter } ∷ []

-- by its precondition
abbrev pub dead_by_condition : Lined → List Dead
dead_by_condition t = if is_never_enabled t.1.pre then dead_by t None else []

-- by a proposal
abbrev pub dead_by_proposal : Lined → ProposalTree → List Dead
dead_by_proposal t p = if gives_nothing p.choice then dead_by t (Some p.name) else []

abbrev pub dead_in : Lined → List Dead
dead_in t = dead_by_condition t ++ flat_map (dead_by_proposal t) t.1.proposals

abbrev pub dead_of_declaration : Declaration → List Dead
dead_of_declaration (declarations.Type t) = []
dead_of_declaration (declarations.Automaton a) = flat_map dead_in (map lined a.transitions.items)
dead_of_declaration (declarations.Composition c) = []
dead_of_declaration (declarations.Invariant i) = []

-- those of a source, in its order: of each transition the precondition first
abbrev pub dead_transitions : List Declaration → List Dead
dead_transitions ds = flat_map dead_of_declaration ds
