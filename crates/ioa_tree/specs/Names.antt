-- The names that stand in a tree: those that it declares, those that it uses, and those of types.
use Rattle.std.specs.Prelude.{List, [], ◌∷◌, ◌++◌, Option, Some, None, All}
use Rattle.std.specs.List.{flat_map}
use Rattle.ioa_value.specs.Actions.{Name}
use Rattle.ioa_value.specs.Names.{IsName}
use Rattle.ioa_tree.specs.Tree.{Expr, number, truth, named, parens, prefix, binary, empty, make, select, Exprs, no_expr, also, FieldTree, ConstantTree, positive, negative, truth_literal, reference, PositionTree, typed, only, EntryTree, VariableTree, expr_in, ProposalTree, Stmt, assign, choose, each, Stmts, stop, seq, Arms, no_arm, arm, TransitionTree, AutomatonTree, CrashTree, InstanceTree, CompositionTree, InvariantTree, FormTree, enumeration, tuple, sequence, TypeTree, DeclarationTree, declared_type, automaton, composition, invariant, SourceTree}

abbrev mutual
  pub names_of_expr : Expr → List Name
  names_of_expr (number n) = []
  names_of_expr (truth b) = []
  names_of_expr (named x) = x ∷ []
  names_of_expr (parens e) = names_of_expr e
  names_of_expr (prefix o e) = names_of_expr e
  names_of_expr (binary l o r) = names_of_expr l ++ names_of_expr r
  names_of_expr (empty n) = n ∷ []
  names_of_expr (make n es) = n ∷ names_of_exprs es
  names_of_expr (select e n) = names_of_expr e ++ n ∷ []

  pub names_of_exprs : Exprs → List Name
  names_of_exprs no_expr = []
  names_of_exprs (also e es) = names_of_expr e ++ names_of_exprs es

abbrev pub names_of_option : Option Expr → List Name
names_of_option None = []
names_of_option (Some e) = names_of_expr e

abbrev pub names_of_field : FieldTree → List Name
names_of_field f = f.name ∷ f.ty ∷ []

abbrev pub names_of_constant : ConstantTree → List Name
names_of_constant (positive n) = []
names_of_constant (negative n) = []
names_of_constant (truth_literal b) = []
names_of_constant (reference x) = x ∷ []

abbrev pub names_of_position : PositionTree → List Name
names_of_position (typed f) = names_of_field f
names_of_position (only c) = names_of_constant c

abbrev pub names_of_entry : EntryTree → List Name
names_of_entry e = e.name ∷ flat_map names_of_position e.positions

abbrev pub names_of_variable : VariableTree → List Name
names_of_variable v = names_of_field v.field ++ names_of_option v.start

abbrev pub names_of_proposal : ProposalTree → List Name
names_of_proposal p = p.name ∷ names_of_expr (expr_in p.choice)

abbrev mutual
  pub names_of_stmt : Stmt → List Name
  names_of_stmt (assign x e) = x ∷ names_of_expr e
  names_of_stmt (choose arms others) = names_of_arms arms ++ names_of_stmts others
  names_of_stmt (each x e ss) = x ∷ (names_of_expr e ++ names_of_stmts ss)

  pub names_of_stmts : Stmts → List Name
  names_of_stmts stop = []
  names_of_stmts (seq s ss) = names_of_stmt s ++ names_of_stmts ss

  pub names_of_arms : Arms → List Name
  names_of_arms no_arm = []
  names_of_arms (arm c ss more) = names_of_expr c ++ (names_of_stmts ss ++ names_of_arms more)

abbrev pub names_of_transition : TransitionTree → List Name
names_of_transition t = t.name ∷ (names_of_option t.pre ++ (flat_map names_of_proposal t.proposals ++ names_of_stmts t.effect))

abbrev pub names_of_automaton : AutomatonTree → List Name
names_of_automaton a =
    a.name ∷ (flat_map names_of_field a.formals ++ (flat_map names_of_entry a.entries
    ++ (flat_map names_of_variable a.variables ++ flat_map names_of_transition a.transitions)))

abbrev pub names_of_crash : Option CrashTree → List Name
names_of_crash None = []
names_of_crash (Some c) = c.crash ∷ c.recover ∷ []

abbrev pub names_of_instance : InstanceTree → List Name
names_of_instance i = i.name ∷ i.automaton ∷ (flat_map names_of_expr i.arguments ++ names_of_crash i.crash)

abbrev pub names_of_composition : CompositionTree → List Name
names_of_composition c = c.name ∷ (flat_map names_of_instance c.instances ++ c.hidden)

abbrev pub names_of_form : FormTree → List Name
names_of_form (enumeration ns) = ns
names_of_form (tuple fs) = flat_map names_of_field fs
names_of_form (sequence most of) = of ∷ []

abbrev pub names_of_type : TypeTree → List Name
names_of_type t = t.name ∷ names_of_form t.form

abbrev pub names_of_invariant : InvariantTree → List Name
names_of_invariant i = i.automaton ∷ names_of_expr i.condition

abbrev pub names_of_declaration : DeclarationTree → List Name
names_of_declaration (declared_type t) = names_of_type t
names_of_declaration (automaton a) = names_of_automaton a
names_of_declaration (composition c) = names_of_composition c
names_of_declaration (invariant i) = names_of_invariant i

abbrev pub names_in : SourceTree → List Name
names_in s = flat_map names_of_declaration s

-- each name of the source is a letter, then letters, digits or `_`, of at most 64 bytes, and no reserved word
abbrev pub LegalNames : SourceTree → Type 0
LegalNames s = All IsName (names_in s)
