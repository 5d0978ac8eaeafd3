-- Where the value of a name comes from in code.
use Rattle.std.specs.Prelude.{◌≡◌, ℕ, ◌≤◌, ◌<◌, ◌+◌, ◌*◌, if◌then◌else◌, List, [], ◌∷◌, ◌++◌, length, Option, Some, None, option_and_then, IsSome, pos, IsTrue}
use Rattle.std.specs.List.{find}
use Rattle.std.specs.Str.{bytes_eq}
use Rattle.std.specs.Option.{option_map_or}
use Rattle.ioa_value.specs.Actions.{Name}
use Rattle.ioa_arithmetic.specs.Arithmetic.{fits}
use Rattle.ioa_value.specs.Plain.{Val}
use Rattle.ioa_value.specs.Table.{Table, place_from, type_named, item_type, field_place}
use Rattle.ioa_value.specs.Typing.{OwnTypes}
use Rattle.ioa_value.specs.declared.limits.TheConstants.{LIMITS}
use Rattle.ioa_tree.specs.Tree.{Expr, number, truth, named, parens, prefix, binary, empty, make, select, Exprs, no_expr, also, Stmt, assign, choose, each, Stmts, stop, seq, Arms, no_arm, arm, FieldTree, PositionTree, typed, only, EntryTree, expr_in, ProposalTree}
use Rattle.ioa_tree.specs.Types.{constant, empty_of}
use Rattle.ioa_tree.specs.Instances.{field_names, position_fields, variable_names}
use Rattle.ioa_tree.specs.WellFormed.{Context, type_of, held as held_names, context_of}
use Rattle.ioa_tree.specs.Compositions.{Member}
use Rattle.ioa_tree.specs.declared.tree.Entry as tree
use Rattle.ioa_tree.specs.View.{entry_of}
use Rattle.ioa_compose.specs.declared.member.Member as held
use Rattle.ioa_compose.specs.Held.{member_of}
use Rattle.ioa_crash.specs.Limits.{component_limits}

-- the names that code may use: those of the loops round it, the innermost first, each with the type of its items, variables, formals with
-- their values, the parameters among positions, and those of the types; and the types of what they stand for outside of loops
pub record Scope : Type 0 where
  pub types : Table
  pub loops : Context
  pub variables : List Name
  pub formals : List Name
  pub arguments : List Val
  pub parameters : List PositionTree
  pub context : Context

-- those of an automaton, and of the parameters among these positions
abbrev pub scope_over : Member → List PositionTree → Scope
scope_over m ps = record {
  types = m.instance.types;
  loops = [];
  variables = variable_names m.instance.automaton;
  formals = field_names m.instance.automaton.formals;
  arguments = m.instance.arguments;
  parameters = ps;
  context = held_names m.instance.types m.instance.types [] m.instance.automaton ++ context_of m.instance.types (position_fields ps);
}

-- those of a transition
abbrev pub scope_of : Member → EntryTree → Scope
scope_of m e = scope_over m e.positions

-- those of a transition's proposals: they name no parameter
abbrev pub scope_of_proposals : Member → Scope
scope_of_proposals m = scope_over m []

-- for what the program holds of them
abbrev pub scope_in : held.Member → tree.Entry → Scope
scope_in m e = scope_of (member_of m) (entry_of e)

-- within one loop more, of this name and over items of this type
abbrev pub within : Scope → Name → ℕ → Scope
within s x ty = record {
  types = s.types;
  loops = (x, ty) ∷ s.loops;
  variables = s.variables;
  formals = s.formals;
  arguments = s.arguments;
  parameters = s.parameters;
  context = s.context;
}

-- the place on the stack of the item of the loop of this name: each loop has its sequence there, of which its item was taken, and its item
-- above it, and those of the loops round it are below
abbrev pub item_place : Context → Name → Option ℕ
item_place [] x = None
item_place (l ∷ ls) x = if bytes_eq l.0 x then Some (2 * length ls + 1) else item_place ls x

-- the place of the parameter of this name among all positions, constants counted
abbrev pub parameter_from : ℕ → List PositionTree → Name → Option ℕ
parameter_from i [] x = None
parameter_from i (typed f ∷ ps) x = if bytes_eq f.name x then Some i else parameter_from (i + 1) ps x
parameter_from i (only c ∷ ps) x = parameter_from (i + 1) ps x

-- each by its place, and an enumeration's name by its value
pub data Origin : Type 0 where
  on_stack : ℕ → Origin
  slot : ℕ → Origin
  formal : ℕ → Origin
  parameter : ℕ → Origin
  fixed : Val → Origin
  unknown : Origin

abbrev pub origin : Scope → Name → Origin
origin s x =
    option_map_or on_stack (item_place s.loops x)
    (option_map_or slot (place_from 0 s.variables x)
    (option_map_or formal (place_from 0 s.formals x)
    (option_map_or parameter (parameter_from 0 s.parameters x)
    (option_map_or fixed (constant s.types x) unknown))))

abbrev pub IsOrigin : Origin → Type 0
IsOrigin (on_stack d) = Unit {0}
IsOrigin (slot i) = Unit {0}
IsOrigin (formal i) = Unit {0}
IsOrigin (parameter i) = Unit {0}
IsOrigin (fixed v) = Unit {0}
IsOrigin unknown = ⊥

-- the place of the field of this name in the expression's type
abbrev pub place_of : Scope → Expr → Name → Option ℕ
place_of s e x = option_and_then (λ ty. field_place s.types ty x) (type_of s.types s.types (s.loops ++ s.context) e)

-- the type of the items of the sequence that the expression gives
abbrev pub item_of : Scope → Expr → Option ℕ
item_of s e = option_and_then (item_type s.types) (type_of s.types s.types (s.loops ++ s.context) e)

-- each name is one of the scope's or, of a tuple or a field, of its types; each number fits, and an empty sequence is one of a
-- sequence type
abbrev mutual
  pub IsKnown : Scope → Expr → Type 0
  IsKnown s (number n) = IsTrue (fits (pos n))
  IsKnown s (truth b) = Unit {0}
  IsKnown s (named x) = IsOrigin (origin s x)
  IsKnown s (parens e) = IsKnown s e
  IsKnown s (prefix o e) = IsKnown s e
  IsKnown s (binary l o r) = IsKnown s l × IsKnown s r
  IsKnown s (empty x) = IsSome (empty_of s.types x)
  IsKnown s (make x es) = IsSome (type_named s.types x) × AreAllKnown s es
  IsKnown s (select e x) = IsSome (place_of s e x) × IsKnown s e

  pub AreAllKnown : Scope → Exprs → Type 0
  AreAllKnown s no_expr = Unit {0}
  AreAllKnown s (also e es) = IsKnown s e × AreAllKnown s es

-- what scopes of well-formed automata keep
pub record IsScope (s : Scope) : Type 0 where
  pub loops : length s.loops ≤ LIMITS.loops
  pub variables : length s.variables ≤ component_limits.variables
  pub parameters : length s.parameters ≤ LIMITS.parameters
  pub given : length s.formals ≡ length s.arguments
  pub typed : OwnTypes s.types s.arguments

-- an assignment is to a variable, and a loop is over a sequence and within few others
abbrev mutual
  pub IsKnownStmt : Scope → Stmt → Type 0
  IsKnownStmt s (assign x e) = IsSome (place_from 0 s.variables x) × IsKnown s e
  IsKnownStmt s (choose arms others) = AreKnownArms s arms × AreKnown s others
  IsKnownStmt s (each x e ss) =
      IsKnown s e × (length s.loops < LIMITS.loops) × ((ty : ℕ) × (item_of s e ≡ Some ty) × AreKnown (within s x ty) ss)

  pub AreKnown : Scope → Stmts → Type 0
  AreKnown s stop = Unit {0}
  AreKnown s (seq t ts) = IsKnownStmt s t × AreKnown s ts

  pub AreKnownArms : Scope → Arms → Type 0
  AreKnownArms s no_arm = Unit {0}
  AreKnownArms s (arm c ts more) = IsKnown s c × (AreKnown s ts × AreKnownArms s more)

abbrev pub IsKnownGuard : Scope → Option Expr → Type 0
IsKnownGuard s None = Unit {0}
IsKnownGuard s (Some e) = IsKnown s e

-- the proposal for the parameter, where it has one
abbrev pub proposal_for : List ProposalTree → FieldTree → Option ProposalTree
proposal_for rs f = find (λ r. bytes_eq r.name f.name) rs

-- the expression is known, or else the parameter's type
abbrev pub IsKnownProposal : Scope → FieldTree → Option ProposalTree → Type 0
IsKnownProposal s f None = IsSome (type_named s.types f.ty)
IsKnownProposal s f (Some r) = IsKnown s (expr_in r.choice)

abbrev pub AreKnownProposals : Scope → List ProposalTree → List PositionTree → Type 0
AreKnownProposals s rs [] = Unit {0}
AreKnownProposals s rs (typed f ∷ ps) = IsKnownProposal s f (proposal_for rs f) × AreKnownProposals s rs ps
AreKnownProposals s rs (only c ∷ ps) = AreKnownProposals s rs ps
