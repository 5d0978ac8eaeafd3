-- Why a source is refused: the rules that are broken in it, each with the code that tells it.
use Rattle.std.specs.Prelude.{ℕ, ◌==◌, nat_lt, Bool, true, false, not, ◌&&◌, ◌||◌, List, [], ◌∷◌, ◌++◌, map, length, Option, Some, None, is_some, pos, neg_ℤ}
use Rattle.std.specs.List.{list_any, list_all}
use Rattle.std.specs.Option.{option_map_or}
use Rattle.ioa_value.specs.Actions.{Name}
use Rattle.ioa_arithmetic.specs.Arithmetic.{fits}
use Rattle.ioa_value.specs.Operators.{op_type}
use Rattle.ioa_value.specs.Table.{Table, type_named, item_type, field_types, field_place, contains}
use Rattle.ioa_lex.specs.declared.refusal.Refusal.{Refusal}
use Rattle.ioa_tree.specs.Tree.{Expr, number, truth, named, parens, prefix, binary, empty, make, select, Exprs, no_expr, also, ConstantTree, positive, negative, truth_literal, reference, PositionTree, typed, only, EntryTree, VariableTree, ChoiceTree, exactly, any_below, ProposalTree, Stmt, assign, choose, each, Stmts, stop, seq, Arms, no_arm, arm, TransitionTree, AutomatonTree, InstanceTree, CompositionTree, InvariantTree, FormTree, enumeration, tuple, sequence, DeclarationTree, declared_type, automaton, composition, invariant, SourceTree}
use Rattle.ioa_tree.specs.Instances.{field_names}
use Rattle.ioa_tree.specs.Meaning.{or_else}
use Rattle.ioa_value.specs.declared.limits.TheConstants.{LIMITS}
use Rattle.ioa_tree.specs.Types.{with_type, types_of, constant_type}
use Rattle.ioa_tree.specs.Compositions.{automaton_named}
use Rattle.ioa_tree.specs.WellFormed as well_formed
use Rattle.ioa_tree.specs.WellFormed.{Context, type_in, type_of, types_of_all, made_type, infix_type, distinct, apart, is_type, context_of, position_fields, parameter_names, variable_fields, is_input, is_automaton_of, global_names, source_within, types_narrow}
use Rattle.ioa_rules.specs.Codes.{Code, duplicate_name, unknown_name, type_mismatch, bad_signature, no_proposal, too_many, too_wide, tells}

-- the refusals that have their reason in a part of a source
abbrev pub Reasons : Type 0
Reasons = Refusal → Bool

abbrev pub none : Reasons
none r = false

-- a rule with its code: the reason is that the rule is not kept
abbrev pub broken : Code → Bool → Reasons
broken k kept r = tells k r && not kept

infixl 4 ◌or◌
abbrev pub ◌or◌ : Reasons → Reasons → Reasons
(f or g) r = f r || g r

abbrev pub in_case : Bool → Reasons → Reasons
in_case b f r = b && f r

-- in one of the list
abbrev pub in_any : {A : Type 0} → (A → Reasons) → List A → Reasons
in_any f xs r = list_any (λ x. f x r) xs

-- in what is there, if anything is
abbrev pub in_some : {A : Type 0} → (A → Reasons) → Option A → Reasons
in_some f o r = option_map_or (λ x. f x r) o false

-- an operator takes the type of its operand, where it has one
abbrev pub one_taken : Option ℕ → (List ℕ → Option ℕ) → Bool
one_taken (Some a) f = is_some (f (a ∷ []))
one_taken None f = true

-- an operator takes the types of its operands, where both have one
abbrev pub taken : Option ℕ → Option ℕ → (List ℕ → Option ℕ) → Bool
taken (Some a) (Some b) f = is_some (f (a ∷ b ∷ []))
taken (Some a) None f = true
taken None o f = true

-- `empty` of a name: it is an earlier type's, and this type is a sequence
abbrev pub in_empty : Table → Name → Reasons
in_empty early x = broken unknown_name (is_some (type_named early x))
    or broken type_mismatch (option_map_or (λ ty. is_some (item_type early ty)) (type_named early x) true)

-- tuples of the type have fields: it is a tuple type
abbrev pub has_fields : Table → ℕ → Bool
has_fields types ty = not (length (field_types types ty) == 0)

-- a tuple takes fields of these types, where its type is known and all of them have one
abbrev pub all_taken : Table → Option ℕ → Option (List ℕ) → Bool
all_taken t (Some ty) (Some tys) = is_some (made_type t (Some ty) tys)
all_taken t (Some ty) None = true
all_taken t None tys = true

-- a name before fields in parentheses: it is an earlier type's, this type is a tuple, and takes the fields
abbrev pub in_made : Table → Table → Name → Option (List ℕ) → Reasons
in_made t early x tys = broken unknown_name (is_some (type_named early x))
    or broken type_mismatch (option_map_or (has_fields t) (type_named early x) true && all_taken t (type_named early x) tys)

-- a field of what is of a type, where it has one: this is a tuple, and has such a field
abbrev pub in_selected : Table → Name → Option ℕ → Reasons
in_selected t x (Some ty) = broken type_mismatch (has_fields t ty) or in_case (has_fields t ty) (broken unknown_name (is_some (field_place t ty x)))
in_selected t x None = none

-- an expression: its numbers fit, its names are known, and its operators take the types of their operands
abbrev mutual
  pub in_expression : Table → Table → Context → Expr → Reasons
  in_expression t early c (number n) = broken type_mismatch (fits (pos n))
  in_expression t early c (truth b) = none
  in_expression t early c (named x) = broken unknown_name (is_some (or_else (type_in c x) (constant_type early x)))
  in_expression t early c (parens e) = in_expression t early c e
  in_expression t early c (prefix o e) = in_expression t early c e or broken type_mismatch (one_taken (type_of t early c e) (op_type t o))
  in_expression t early c (binary l o r) =
      in_expression t early c l or in_expression t early c r
      or broken type_mismatch (taken (type_of t early c l) (type_of t early c r) (infix_type t o))
  in_expression t early c (empty x) = in_empty early x
  in_expression t early c (make x es) = in_made t early x (types_of_all t early c es) or in_expressions t early c es
  in_expression t early c (select e x) = in_expression t early c e or in_selected t x (type_of t early c e)

  pub in_expressions : Table → Table → Context → Exprs → Reasons
  in_expressions t early c no_expr = none
  in_expressions t early c (also e es) = in_expression t early c e or in_expressions t early c es

-- an expression where one of a type is wanted: this type is known, and the expression has no other
abbrev pub in_place : Table → Table → Option ℕ → Context → Expr → Reasons
in_place t early (Some ty) c e = in_expression t early c e or broken type_mismatch (option_map_or (λ own. own == ty) (type_of t early c e) true)
in_place t early None c e = broken unknown_name false

-- a constant: its number fits, and its name is known
abbrev pub in_constant : Table → Context → ConstantTree → Reasons
in_constant early c (positive n) = broken type_mismatch (fits (pos n))
in_constant early c (negative n) = broken type_mismatch (fits (neg_ℤ (pos n)))
in_constant early c (truth_literal b) = none
in_constant early c (reference x) = broken unknown_name (is_some (or_else (type_in c x) (constant_type early x)))

-- a position: its parameter's type is known, or its constant is fine
abbrev pub in_position : Table → Context → PositionTree → Reasons
in_position early c (typed f) = broken unknown_name (is_type early f)
in_position early c (only k) = in_constant early c k

module _ (t early : Table) (globals : List Name) (a : AutomatonTree) where
  -- formals and variables
  abbrev pub in_fields : Reasons
  in_fields = broken duplicate_name (distinct (well_formed.local_names t early globals a) && apart (well_formed.local_names t early globals a) globals)
      or broken unknown_name (list_all (is_type early) a.formals && list_all (is_type early) (variable_fields a))

  abbrev pub in_start : VariableTree → Reasons
  in_start v = in_some (in_place t early (type_named early v.field.ty) (well_formed.formals t early globals a)) v.start

  -- an entry's parameters and constants
  abbrev pub in_entry : EntryTree → Reasons
  in_entry e = broken duplicate_name (distinct (parameter_names e) && apart (parameter_names e) (globals ++ well_formed.local_names t early globals a))
      or in_any (in_position early (well_formed.formals t early globals a)) e.positions

  abbrev pub in_entries : Reasons
  in_entries = broken duplicate_name (distinct (map (λ e. e.name) a.entries)) or in_any in_entry a.entries

  -- a precondition, or the condition of a choice within loops over these names
  abbrev pub in_condition : EntryTree → Context → Expr → Reasons
  in_condition e loops c = in_place t early (Some 0) (well_formed.scope_in t early globals a e loops) c

  -- what a loop goes over: it is a sequence
  abbrev pub in_items : EntryTree → Context → Expr → Reasons
  in_items e loops v =
      in_expression t early (well_formed.scope_in t early globals a e loops) v
      or broken type_mismatch (option_map_or (λ ty. is_some (item_type t ty)) (type_of t early (well_formed.scope_in t early globals a e loops) v) true)

  -- what a proposal gives a parameter of the type: any number below one is of an Int alone, and so is the expression
  abbrev pub in_choice : ChoiceTree → Option ℕ → Reasons
  in_choice (exactly v) place = in_place t early place (well_formed.held t early globals a) v
  in_choice (any_below v) (Some ty) = broken type_mismatch (ty == 1) or in_place t early (Some 1) (well_formed.held t early globals a) v
  in_choice (any_below v) None = broken unknown_name false

  abbrev pub in_proposal : EntryTree → ProposalTree → Reasons
  in_proposal e p = in_choice p.choice (type_in (context_of early (position_fields e.positions)) p.name)

  abbrev pub in_proposals : EntryTree → TransitionTree → Reasons
  in_proposals e r = in_any (in_proposal e) r.proposals or broken duplicate_name (distinct (map (λ p. p.name) r.proposals))

  -- what an output or internal transition has before its effect
  abbrev pub in_local : EntryTree → TransitionTree → Reasons
  in_local e r = in_some (in_condition e []) r.pre or in_proposals e r or broken no_proposal (well_formed.all_proposed t early globals a e r)

  abbrev pub before_effect : EntryTree → TransitionTree → Reasons
  before_effect e r = in_case (is_input r.kind) (broken bad_signature (well_formed.input_fine t early globals a r)) or in_case (not (is_input r.kind))
      (in_local e r)

  -- statements: assignments, conditions, and the names of loops and what they go over, also those within arms and loops
  abbrev mutual
    pub in_stmt : EntryTree → Context → Stmt → Reasons
    in_stmt e loops (assign x v) = in_place t early (type_in (context_of early (variable_fields a)) x) (well_formed.scope_in t early globals a e loops) v
    in_stmt e loops (choose arms others) = in_arms e loops arms or in_stmts e loops others
    in_stmt e loops (each x v ss) =
        broken duplicate_name (not (contains (well_formed.taken t early globals a e loops) x)) or broken too_many (nat_lt (length loops) LIMITS.loops)
        or in_items e loops v or in_some (λ item. in_stmts e ((x, item) ∷ loops) ss) (well_formed.item_in t early globals a e loops v)

    pub in_stmts : EntryTree → Context → Stmts → Reasons
    in_stmts e loops stop = none
    in_stmts e loops (seq s ss) = in_stmt e loops s or in_stmts e loops ss

    pub in_arms : EntryTree → Context → Arms → Reasons
    in_arms e loops no_arm = none
    in_arms e loops (arm c ss more) = in_condition e loops c or in_stmts e loops ss or in_arms e loops more

  abbrev pub in_transition : EntryTree → TransitionTree → Reasons
  in_transition e r = before_effect e r or in_stmts e [] r.effect

  -- a transition, if it is the entry's
  abbrev pub in_pair : EntryTree → TransitionTree → Reasons
  in_pair e r = in_case (well_formed.matches t early globals a e r) (in_transition e r)

  abbrev pub in_transitions : Reasons
  in_transitions = in_any (λ e. in_any (in_pair e) a.transitions) a.entries

  abbrev pub in_automaton : Reasons
  in_automaton = in_fields or in_any in_start a.variables or in_entries
      or broken bad_signature (well_formed.one_to_one t early globals a) or in_transitions

-- ---- declarations

-- what a type is declared to be: a tuple's fields have names of their own, and it names earlier types alone
abbrev pub in_form : Table → FormTree → Reasons
in_form early (enumeration ns) = none
in_form early (tuple fs) = broken duplicate_name (distinct (field_names fs)) or broken unknown_name (list_all (is_type early) fs)
in_form early (sequence most of) = broken unknown_name (is_some (type_named early of))

module _ (t early : Table) where
  -- a component: its automaton is declared before, and its arguments stand without any name of an automaton
  abbrev pub in_instance : SourceTree → InstanceTree → Reasons
  in_instance before i = broken unknown_name (list_any (is_automaton_of i.automaton) before) or in_any (in_expression t early []) i.arguments

  abbrev pub in_composition : SourceTree → CompositionTree → Reasons
  in_composition before c = broken duplicate_name (distinct (map (λ i. i.name) c.instances) && distinct c.hidden)
      or in_any (in_instance before) c.instances

  -- an invariant: its automaton is declared before, and its condition is a truth value over that automaton's variables and formals
  abbrev pub in_invariant : SourceTree → InvariantTree → Reasons
  in_invariant before i = broken unknown_name (is_some (automaton_named before i.automaton))
      or in_some (λ a. in_place t early (Some 0) (well_formed.held t early [] a) i.condition) (automaton_named before i.automaton)

module _ (t : Table) (globals : List Name) where
  abbrev pub in_declaration : SourceTree → DeclarationTree → Reasons
  in_declaration before (declared_type d) = in_form (types_of before) d.form
  in_declaration before (automaton a) = in_automaton t (types_of before) globals a
  in_declaration before (composition c) = in_composition t (types_of before) before c
  in_declaration before (invariant i) = in_invariant t (types_of before) before i

  -- each declaration, over those before it
  abbrev pub in_declarations : SourceTree → SourceTree → Reasons
  in_declarations before [] = none
  in_declarations before (d ∷ ds) = in_declaration before d or in_declarations (before ++ d ∷ []) ds

-- the declarations of types, each over the types before it
abbrev pub in_types : Table → SourceTree → Reasons
in_types types [] = none
in_types types (declared_type d ∷ ds) = in_form types d.form or in_types (with_type types d) ds
in_types types (automaton a ∷ ds) = in_types types ds
in_types types (composition c ∷ ds) = in_types types ds
in_types types (invariant i ∷ ds) = in_types types ds

abbrev pub in_source : SourceTree → Reasons
in_source s = broken too_many (source_within LIMITS s) or broken duplicate_name (distinct (global_names s))
    or in_declarations (types_of s) (global_names s) [] s or broken too_wide (types_narrow LIMITS s)
