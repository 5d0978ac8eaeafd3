-- Parameters of which no precondition says anything: their action is enabled with any value of them. They are warned of where the source does not say so.
use Rattle.std.specs.Prelude.{ℕ, Bool, true, false, not, ◌&&◌, ◌||◌, if◌then◌else◌, List, [], ◌∷◌, map, Option}
use Rattle.std.specs.List.{flat_map, list_any}
use Rattle.std.specs.Option.{option_map_or}
use Rattle.std.specs.Str.{bytes_eq}
use Rattle.ioa_value.specs.Actions.{Name}
use Rattle.ioa_tree.specs.declared.tree.Declaration.{Declaration}
use Rattle.ioa_tree.specs.declared.tree.Declaration.TheVariants as declarations
use Rattle.ioa_tree.specs.declared.tree.Transition.{Transition}
use Rattle.ioa_tree.specs.Tree.{Expr, number, truth, named, parens, prefix, binary, empty, make, select, PositionTree, typed, only, ChoiceTree, exactly, any_below, ProposalTree, EntryTree, AutomatonTree, TransitionTree}
use Rattle.ioa_tree.specs.View.{automaton_of, transition_of}
use Rattle.ioa_tree.specs.WellFormed.{is_input, matches}
use Rattle.ioa_warnings.specs.Mentions.{mentions}
use Rattle.ioa_warnings.specs.Never.{is_never_enabled}

-- a free parameter: its name, its action's, and the line of the transition
pub record Free : Type 0 where
  pub parameter : Name
  pub action : Name
  pub line : ℕ

-- a precondition says nothing of this name; an omitted one says nothing of any
abbrev pub is_free : Option Expr → Name → Bool
is_free pre x = not (option_map_or (mentions x) pre false)

-- `true` is written
abbrev pub is_true : Expr → Bool
is_true (number n) = false
is_true (truth b) = b
is_true (named x) = false
is_true (parens e) = false
is_true (prefix o e) = false
is_true (binary l o r) = false
is_true (empty ty) = false
is_true (make ty es) = false
is_true (select e field) = false

-- the parameter is left to chance: any value of it is meant
abbrev pub is_chance : ChoiceTree → Bool
is_chance (exactly e) = false
is_chance (any_below e) = true

abbrev pub is_chance_of : Name → ProposalTree → Bool
is_chance_of x p = bytes_eq p.name x && is_chance p.choice

-- the source says that any value of it will do: by `pre true`, or by a proposal that leaves it to chance
abbrev pub is_meant : TransitionTree → Name → Bool
is_meant t x = option_map_or is_true t.pre false || list_any (is_chance_of x) t.proposals

-- a transition with the line on which its name stands
abbrev pub Lined : Type 0
Lined = ℕ × TransitionTree

abbrev pub lined : Transition → Lined
lined t = (t.name.line, transition_of t)

-- a parameter is warned of where its action can be enabled, with any value of it, and the source does not say so
abbrev pub is_warned_of : TransitionTree → Name → Bool
is_warned_of t x = is_free t.pre x && not (is_meant t x || is_never_enabled t.pre)

-- the parameter of a position, where it is so; a constant is no parameter
abbrev pub free_at : Lined → PositionTree → List Free
free_at t (typed f) = if is_warned_of t.1 f.name then record { parameter = f.name; action = t.1.name; line = t.0 } ∷ [] else []
free_at t (only c) = []

-- those of an entry in a transition, where it is one of the entry
abbrev pub free_in : AutomatonTree → EntryTree → Lined → List Free
free_in a e t = if matches [] [] [] a e t.1 then flat_map (free_at t) e.positions else []

-- an input is never asked for a precondition
abbrev pub free_of_entry : AutomatonTree → List Lined → EntryTree → List Free
free_of_entry a ts e = if is_input e.kind then [] else flat_map (free_in a e) ts

-- those of an automaton, whose transitions are told with their lines
abbrev pub free_of_automaton : AutomatonTree → List Lined → List Free
free_of_automaton a ts = flat_map (free_of_entry a ts) a.entries

abbrev pub free_of_declaration : Declaration → List Free
free_of_declaration (declarations.Type t) = []
free_of_declaration (declarations.Automaton a) = free_of_automaton (automaton_of a) (map lined a.transitions.items)
free_of_declaration (declarations.Composition c) = []
free_of_declaration (declarations.Invariant i) = []

-- the free parameters of a source's outputs and internal actions: of each automaton's entries in order, in the order of their positions
abbrev pub free_parameters : List Declaration → List Free
free_parameters ds = flat_map free_of_declaration ds
