-- Which sources are well formed.
use Rattle.std.specs.Prelude.{ℕ, ◌+◌, ◌==◌, nat_le, nat_lt, Bool, true, false, not, ◌&&◌, ◌||◌, List, [], ◌∷◌, ◌++◌, map, filter, length, sum, Option, Some, None, is_some, option_and_then, pos, neg_ℤ, IsTrue, if◌then◌else◌}
use Rattle.std.specs.List.{list_any, list_all, flat_map}
use Rattle.std.specs.Option.{option_map, option_map_or}
use Rattle.std.specs.Str.{bytes_eq}
use Rattle.ioa_value.specs.Actions.{Name}
use Rattle.ioa_arithmetic.specs.Arithmetic.{fits}
use Rattle.ioa_value.specs.Operators.{op_type, of_two, given}
pub use Rattle.ioa_value.specs.Table.{contains, distinct, apart}
use Rattle.ioa_value.specs.Table.{Table, Shape, truths, numbers, names, fields, basic, shape_at, type_named, item_type, field_place}
use Rattle.ioa_value.specs.declared.operator.Op.TheVariants.{Make, Field}
use Rattle.ioa_value.specs.Table.{sequence as sequence_shape}
use Rattle.ioa_value.specs.Widths.{widths}
use Rattle.ioa_tree.specs.declared.tree.Infix.{Infix}
use Rattle.ioa_tree.specs.declared.tree.Infix.TheVariants.{Operator, And, Or, Implies}
use Rattle.ioa_tree.specs.declared.tree.Kind.{Kind}
use Rattle.ioa_tree.specs.declared.tree.Kind.TheVariants.{Input, Output, Internal}
use Rattle.ioa_tree.specs.Tree.{Expr, number, truth, named, parens, prefix, binary, empty, make, select, Exprs, no_expr, also, FieldTree, ConstantTree, positive, negative, truth_literal, reference, PositionTree, typed, only, EntryTree, VariableTree, ChoiceTree, exactly, any_below, expr_in, ProposalTree, Stmt, assign, choose, each, Stmts, stop, seq, Arms, no_arm, arm, TransitionTree, AutomatonTree, InstanceTree, CompositionTree, InvariantTree, FormTree, enumeration, tuple, sequence, TypeTree, DeclarationTree, declared_type, automaton, composition, invariant, SourceTree}
use Rattle.ioa_tree.specs.Meaning.{or_else}
use Rattle.ioa_tree.specs.Types.{types_of, sequence_named, constant_type}
use Rattle.ioa_value.specs.declared.limits.Limits.{Limits}
use Rattle.ioa_value.specs.declared.limits.TheConstants.{LIMITS}
use Rattle.ioa_tree.specs.Compositions.{automaton_named}
use Rattle.ioa_tree.specs.Instances.{field_names, variable_names}
pub use Rattle.ioa_tree.specs.Instances.{position_fields}

-- names with the numbers of their types
abbrev pub Context : Type 0
Context = List (Name × ℕ)

abbrev pub type_in : Context → Name → Option ℕ
type_in [] x = None
type_in (p ∷ ps) x = if bytes_eq p.0 x then Some p.1 else type_in ps x

abbrev pub both_types : Option ℕ → Option ℕ → (List ℕ → Option ℕ) → Option ℕ
both_types (Some a) (Some b) f = f (a ∷ b ∷ [])
both_types (Some a) None f = None
both_types None o f = None

abbrev pub one_type : Option ℕ → (List ℕ → Option ℕ) → Option ℕ
one_type (Some a) f = f (a ∷ [])
one_type None f = None

-- two truth values give one
abbrev pub of_truths : List ℕ → Option ℕ
of_truths tys = of_two (λ a b. given 0 ((a == 0) && (b == 0))) tys

-- the type of what stands for operands of these types
abbrev pub infix_type : Table → Infix → List ℕ → Option ℕ
infix_type types (Operator o) tys = op_type types o tys
infix_type types And tys = of_truths tys
infix_type types Or tys = of_truths tys
infix_type types Implies tys = of_truths tys

-- of a tuple type, which takes fields of its own types
abbrev pub made_type : Table → Option ℕ → List ℕ → Option ℕ
made_type types ty tys = option_and_then (λ n. op_type types (Make (record { 0 = n })) tys) ty

-- of the field of this name, where the type is of tuples that have it
abbrev pub selected_type : Table → Name → ℕ → Option ℕ
selected_type types x ty = option_and_then (λ j. op_type types (Field j) (ty ∷ [])) (field_place types ty x)

-- the type of an expression, where it has one: its names are those of the context and of enumerations among the earlier types
abbrev mutual
  pub type_of : Table → Table → Context → Expr → Option ℕ
  type_of types early c (number n) = if fits (pos n) then Some 1 else None
  type_of types early c (truth b) = Some 0
  type_of types early c (named x) = or_else (type_in c x) (constant_type early x)
  type_of types early c (parens e) = type_of types early c e
  type_of types early c (prefix o e) = one_type (type_of types early c e) (op_type types o)
  type_of types early c (binary l o r) = both_types (type_of types early c l) (type_of types early c r) (infix_type types o)
  type_of types early c (empty x) = sequence_named early x
  type_of types early c (make x es) = option_and_then (made_type types (type_named early x)) (types_of_all types early c es)
  type_of types early c (select e x) = option_and_then (selected_type types x) (type_of types early c e)

  -- the types of expressions in order, where all have one
  pub types_of_all : Table → Table → Context → Exprs → Option (List ℕ)
  types_of_all types early c no_expr = Some []
  types_of_all types early c (also e es) =
      option_and_then (λ ty. option_map (λ tys. ty ∷ tys) (types_of_all types early c es)) (type_of types early c e)

abbrev pub is_some_of : Option ℕ → ℕ → Bool
is_some_of o ty = option_map_or (λ t. t == ty) o false

-- both are there, and are one type
abbrev pub same_type : Option ℕ → Option ℕ → Bool
same_type (Some a) o = is_some_of o a
same_type None o = false

-- the expression has this type
abbrev pub has_ty : Table → Table → Context → Expr → ℕ → Bool
has_ty types early c e ty = is_some_of (type_of types early c e) ty

-- the name that stands first in a declaration: that of what is declared, or of the automaton whose invariant it is
abbrev pub first_name : DeclarationTree → Name
first_name (declared_type d) = d.name
first_name (automaton a) = a.name
first_name (composition c) = c.name
first_name (invariant i) = i.automaton

-- the names of an enumeration
abbrev pub constants_of : FormTree → List Name
constants_of (enumeration ns) = ns
constants_of (tuple fs) = []
constants_of (sequence most of) = []

-- the names that a declaration adds to the global space
abbrev pub declared_names : DeclarationTree → List Name
declared_names (declared_type d) = d.name ∷ constants_of d.form
declared_names (automaton a) = a.name ∷ []
declared_names (composition c) = c.name ∷ []
declared_names (invariant i) = []

-- the names of the one global space
abbrev pub global_names : SourceTree → List Name
global_names s = map (λ d. d.name) basic ++ flat_map declared_names s

-- a type is declared
abbrev pub is_type : Table → FieldTree → Bool
is_type t f = option_map_or (λ n. true) (type_named t f.ty) false

abbrev pub typed_field : Table → FieldTree → List (Name × ℕ)
typed_field t f = option_map_or (λ n. (f.name, n) ∷ []) (type_named t f.ty) []

-- the fields' names with their types
abbrev pub context_of : Table → List FieldTree → Context
context_of t fs = flat_map (typed_field t) fs

-- a constant's number fits, and its name is one of the context's or an enumeration's
abbrev pub constant_fine : Table → Context → ConstantTree → Bool
constant_fine early c (positive n) = fits (pos n)
constant_fine early c (negative n) = fits (neg_ℤ (pos n))
constant_fine early c (truth_literal b) = true
constant_fine early c (reference x) = is_some (or_else (type_in c x) (constant_type early x))

-- a parameter's type is known, and a constant is fine
abbrev pub position_fine : Table → Context → PositionTree → Bool
position_fine early c (typed f) = is_type early f
position_fine early c (only k) = constant_fine early c k

-- the names of an entry's parameters
abbrev pub parameter_names : EntryTree → List Name
parameter_names e = field_names (position_fields e.positions)

abbrev pub variable_fields : AutomatonTree → List FieldTree
variable_fields a = map (λ v. v.field) a.variables

abbrev pub same_kind : Kind → Kind → Bool
same_kind Input Input = true
same_kind Input Output = false
same_kind Input Internal = false
same_kind Output Input = false
same_kind Output Output = true
same_kind Output Internal = false
same_kind Internal Input = false
same_kind Internal Output = false
same_kind Internal Internal = true

abbrev pub is_input : Kind → Bool
is_input k = same_kind k Input

-- the values are tried by their numbers, where none is proposed: those of Bool and of enumerations
abbrev pub is_numbered : Option Shape → Bool
is_numbered (Some truths) = true
is_numbered (Some numbers) = false
is_numbered (Some (names ns)) = true
is_numbered (Some (fields fs)) = false
is_numbered (Some (sequence_shape most of)) = false
is_numbered None = false

abbrev pub is_tried : Table → FieldTree → Bool
is_tried t f = option_map_or (λ ty. is_numbered (shape_at t ty)) (type_named t f.ty) false

-- operators take all types of the source, t, and names are those of the types that are declared before the automaton, early
module _ (t early : Table) (globals : List Name) (a : AutomatonTree) where
  abbrev pub formals : Context
  formals = context_of early a.formals

  -- variables and formals: what proposals may name
  abbrev pub held : Context
  held = context_of early (variable_fields a) ++ formals

  -- variables, formals and the entry's parameters: what preconditions and effects may name
  abbrev pub scope : EntryTree → Context
  scope e = held ++ context_of early (position_fields e.positions)

  abbrev pub local_names : List Name
  local_names = field_names a.formals ++ variable_names a

  -- formals and variables have names of their own and known types
  abbrev pub fields_fine : Bool
  fields_fine = distinct local_names && apart local_names globals
      && list_all (is_type early) a.formals && list_all (is_type early) (variable_fields a)

  -- a start expression has its variable's type, and names formals alone
  abbrev pub start_fine : VariableTree → Bool
  start_fine v = option_map_or (λ e. same_type (type_of t early formals e) (type_named early v.field.ty)) v.start true

  -- the parameters of an entry have names of their own and known types, and its constants name no variable and no parameter
  abbrev pub entry_fine : EntryTree → Bool
  entry_fine e = distinct (parameter_names e) && apart (parameter_names e) (globals ++ local_names)
      && list_all (position_fine early formals) e.positions

  -- entry and transition are of one kind and one name
  abbrev pub matches : EntryTree → TransitionTree → Bool
  matches e r = same_kind e.kind r.kind && bytes_eq e.name r.name

  -- each entry has one transition, and each transition an entry
  abbrev pub one_to_one : Bool
  one_to_one = list_all (λ e. length (filter (matches e) a.transitions) == 1) a.entries
      && list_all (λ r. list_any (λ e. matches e r) a.entries) a.transitions

  -- a precondition is a Bool over variables, formals and parameters
  abbrev pub pre_fine : EntryTree → TransitionTree → Bool
  pre_fine e r = option_map_or (λ p. has_ty t early (scope e) p 0) r.pre true

  -- an expression over variables and formals has the type; any number below one stands for an Int alone, and so does the expression
  abbrev pub choice_fine : ChoiceTree → ℕ → Bool
  choice_fine (exactly e) ty = has_ty t early held e ty
  choice_fine (any_below e) ty = ty == 1 && has_ty t early held e 1

  -- a proposal is for a parameter of the entry, and of its type
  abbrev pub proposal_fine : EntryTree → ProposalTree → Bool
  proposal_fine e p = option_map_or (choice_fine p.choice) (type_in (context_of early (position_fields e.positions)) p.name) false

  abbrev pub proposals_fine : EntryTree → TransitionTree → Bool
  proposals_fine e r = list_all (proposal_fine e) r.proposals && distinct (map (λ p. p.name) r.proposals)

  -- each parameter that is neither a Bool nor of an enumeration has a proposal
  abbrev pub all_proposed : EntryTree → TransitionTree → Bool
  all_proposed e r = list_all (λ f. is_tried early f || contains (map (λ p. p.name) r.proposals) f.name) (position_fields e.positions)

  -- what effects may name within loops over these names, each with the type of its items, the innermost first
  abbrev pub scope_in : EntryTree → Context → Context
  scope_in e loops = loops ++ scope e

  -- the names that are taken there: those of the loops, of parameters, formals and variables, and the global ones
  abbrev pub taken : EntryTree → Context → List Name
  taken e loops = map (λ p. p.0) loops ++ (parameter_names e ++ (globals ++ local_names))

  -- the type of the items of what a loop goes over, where this is a sequence
  abbrev pub item_in : EntryTree → Context → Expr → Option ℕ
  item_in e loops v = option_and_then (item_type t) (type_of t early (scope_in e loops) v)

  -- an assignment is to a variable, of its type, and a condition is a Bool; a loop's name is new and stands for items of a sequence in its
  -- statements alone, and loops stand within each other up to their limit
  abbrev mutual
    pub stmt_fine : EntryTree → Context → Stmt → Bool
    stmt_fine e loops (assign x v) = option_map_or (λ ty. has_ty t early (scope_in e loops) v ty) (type_in (context_of early (variable_fields a)) x) false
    stmt_fine e loops (choose arms others) = arms_fine e loops arms && stmts_fine e loops others
    stmt_fine e loops (each x v ss) =
        not (contains (taken e loops) x) && (nat_lt (length loops) LIMITS.loops
        && option_map_or (λ item. stmts_fine e ((x, item) ∷ loops) ss) (item_in e loops v) false)

    pub stmts_fine : EntryTree → Context → Stmts → Bool
    stmts_fine e loops stop = true
    stmts_fine e loops (seq s ss) = stmt_fine e loops s && stmts_fine e loops ss

    pub arms_fine : EntryTree → Context → Arms → Bool
    arms_fine e loops no_arm = true
    arms_fine e loops (arm c ss more) = has_ty t early (scope_in e loops) c 0 && (stmts_fine e loops ss && arms_fine e loops more)

  abbrev pub effect_fine : EntryTree → TransitionTree → Bool
  effect_fine e r = stmts_fine e [] r.effect

  -- an input has neither precondition nor proposals
  abbrev pub input_fine : TransitionTree → Bool
  input_fine r = option_map_or (λ p. false) r.pre true && (length r.proposals == 0)

  abbrev pub transition_fine : EntryTree → TransitionTree → Bool
  transition_fine e r = effect_fine e r && (if is_input r.kind then input_fine r else pre_fine e r && proposals_fine e r && all_proposed e r)

  -- what composing and compiling need: names are apart, and what is written has the types of its places
  abbrev pub automaton_fine : Bool
  automaton_fine = fields_fine && list_all start_fine a.variables
      && distinct (map (λ e. e.name) a.entries) && list_all entry_fine a.entries
      && one_to_one && list_all (λ e. list_all (λ r. not (matches e r) || transition_fine e r) a.transitions) a.entries

abbrev pub is_automaton_of : Name → DeclarationTree → Bool
is_automaton_of x (declared_type d) = false
is_automaton_of x (automaton a) = bytes_eq a.name x
is_automaton_of x (composition c) = false
is_automaton_of x (invariant i) = false

-- ---- limits

-- automata and compositions count
abbrev pub is_counted : DeclarationTree → Bool
is_counted (declared_type d) = false
is_counted (automaton a) = true
is_counted (composition c) = true
is_counted (invariant i) = false

abbrev pub is_type_declaration : DeclarationTree → Bool
is_type_declaration (declared_type d) = true
is_type_declaration (automaton a) = false
is_type_declaration (composition c) = false
is_type_declaration (invariant i) = false

abbrev pub is_invariant : DeclarationTree → Bool
is_invariant (declared_type d) = false
is_invariant (automaton a) = false
is_invariant (composition c) = false
is_invariant (invariant i) = true

-- the nodes of a tree; a pair of parentheses is one
abbrev mutual
  pub nodes : Expr → ℕ
  nodes (number n) = 1
  nodes (truth b) = 1
  nodes (named x) = 1
  nodes (parens e) = nodes e + 1
  nodes (prefix o e) = nodes e + 1
  nodes (binary l o r) = nodes l + nodes r + 1
  nodes (empty x) = 1
  nodes (make x es) = exprs_nodes es + 1
  nodes (select e x) = nodes e + 1

  pub exprs_nodes : Exprs → ℕ
  exprs_nodes no_expr = 0
  exprs_nodes (also e es) = nodes e + exprs_nodes es

-- a statement is one
abbrev mutual
  pub stmt_nodes : Stmt → ℕ
  stmt_nodes (assign x e) = nodes e + 1
  stmt_nodes (choose arms others) = arms_nodes arms + stmts_nodes others + 1
  stmt_nodes (each x e ss) = nodes e + stmts_nodes ss + 1

  pub stmts_nodes : Stmts → ℕ
  stmts_nodes stop = 0
  stmts_nodes (seq s ss) = stmt_nodes s + stmts_nodes ss

  pub arms_nodes : Arms → ℕ
  arms_nodes no_arm = 0
  arms_nodes (arm c ss more) = nodes c + (stmts_nodes ss + arms_nodes more)

-- from one up to a limit
abbrev pub some_within : ℕ → ℕ → Bool
some_within limit n = nat_le 1 n && nat_le n limit

module _ (most : Limits) where
  abbrev pub pre_within : TransitionTree → Bool
  pre_within r = option_map_or (λ p. nat_le (nodes p) most.nodes) r.pre true

  abbrev pub proposals_within : TransitionTree → Bool
  proposals_within r = nat_le (sum (map (λ p. nodes (expr_in p.choice)) r.proposals)) most.nodes

  abbrev pub effect_within : TransitionTree → Bool
  effect_within r = nat_le (stmts_nodes r.effect) most.nodes

  abbrev pub transition_within : TransitionTree → Bool
  transition_within r = pre_within r && proposals_within r && effect_within r

  abbrev pub entry_within : EntryTree → Bool
  entry_within e = nat_le (length e.positions) most.parameters

  abbrev pub automaton_within : AutomatonTree → Bool
  automaton_within a = nat_le (length a.formals) most.parameters && nat_le (length a.variables) most.variables && nat_le (length a.entries) most.entries
      && list_all entry_within a.entries && list_all transition_within a.transitions

  abbrev pub composition_within : CompositionTree → Bool
  composition_within c = nat_le (length c.instances) most.components && nat_le (length c.hidden) most.hidden

  abbrev pub form_within : FormTree → Bool
  form_within (enumeration ns) = some_within most.names (length ns)
  form_within (tuple fs) = some_within most.fields (length fs)
  form_within (sequence n of) = some_within most.capacity n

  abbrev pub declaration_within : DeclarationTree → Bool
  declaration_within (declared_type d) = form_within d.form
  declaration_within (automaton a) = automaton_within a
  declaration_within (composition c) = composition_within c
  declaration_within (invariant i) = true

  -- automata and compositions are counted together
  abbrev pub source_within : SourceTree → Bool
  source_within s = nat_le (length (filter is_type_declaration s)) most.types && nat_le (length (filter is_counted s)) most.automata
      && nat_le (length (filter is_invariant s)) most.invariants && list_all declaration_within s

  -- no value of a type takes too many words
  abbrev pub types_narrow : SourceTree → Bool
  types_narrow s = list_all (λ w. nat_le w most.words) (widths (types_of s))

-- ---- sources

-- the fields of a tuple have names of their own, and it names earlier types alone
abbrev pub form_fine : Table → FormTree → Bool
form_fine early (enumeration ns) = true
form_fine early (tuple fs) = distinct (field_names fs) && list_all (is_type early) fs
form_fine early (sequence most of) = option_map_or (λ ty. true) (type_named early of) false

abbrev pub type_fine : Table → TypeTree → Bool
type_fine early d = form_fine early d.form

module _ (t early : Table) where
  -- an instance is of an automaton declared before, and its arguments have types without any name of an automaton
  abbrev pub instance_fine : SourceTree → InstanceTree → Bool
  instance_fine before i = list_any (is_automaton_of i.automaton) before
      && list_all (λ e. option_map_or (λ ty. true) (type_of t early [] e) false) i.arguments

  abbrev pub composition_fine : SourceTree → CompositionTree → Bool
  composition_fine before c = distinct (map (λ i. i.name) c.instances) && distinct c.hidden && list_all (instance_fine before) c.instances

  -- an invariant is of an automaton declared before, and a Bool over its variables and formals
  abbrev pub invariant_fine : SourceTree → InvariantTree → Bool
  invariant_fine before i =
      option_map_or (λ a. has_ty t early (held t early [] a) i.condition 0) (automaton_named before i.automaton) false

module _ (types : Table) (globals : List Name) where
  -- a declaration names the types that are declared before it
  abbrev pub declaration_fine : SourceTree → DeclarationTree → Bool
  declaration_fine before (declared_type d) = type_fine (types_of before) d
  declaration_fine before (automaton a) = automaton_fine types (types_of before) globals a
  declaration_fine before (composition c) = composition_fine types (types_of before) before c
  declaration_fine before (invariant i) = invariant_fine types (types_of before) before i

  -- each declaration is fine over those before it
  abbrev pub declarations_fine : SourceTree → SourceTree → Bool
  declarations_fine before [] = true
  declarations_fine before (d ∷ ds) = declaration_fine before d && declarations_fine (before ++ d ∷ []) ds

-- each name is declared once and before its use, each part is fine, and none passes the limits
abbrev pub well_formed : SourceTree → Bool
well_formed s = distinct (global_names s) && declarations_fine (types_of s) (global_names s) [] s && source_within LIMITS s && types_narrow LIMITS s

abbrev pub WellFormed : SourceTree → Type 0
WellFormed s = IsTrue (well_formed s)
