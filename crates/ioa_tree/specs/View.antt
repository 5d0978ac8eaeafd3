-- The tree that a value of the program is: no places in memory, no lines. The line of an expression is told apart from it.
use Rattle.std.specs.Prelude.{ℕ, List, [], ◌∷◌, map}
use Rattle.std.specs.Option.{option_map}
use Rattle.std.specs.String.{string_bytes}
use Rattle.ioa_value.specs.Actions as actions
use Rattle.ioa_tree.specs.declared.tree.Name.{Name}
use Rattle.ioa_tree.specs.declared.tree.Expression.{Expression, Row_of-Expression, end_of-Expression, more_of-Expression}
use Rattle.ioa_tree.specs.declared.tree.Expression.TheVariants as expressions
use Rattle.ioa_tree.specs.declared.tree.Field.{Field}
use Rattle.ioa_tree.specs.declared.tree.Constant.{Constant}
use Rattle.ioa_tree.specs.declared.tree.Constant.TheVariants as constants
use Rattle.ioa_tree.specs.declared.tree.Position.{Position}
use Rattle.ioa_tree.specs.declared.tree.Position.TheVariants as positions
use Rattle.ioa_tree.specs.declared.tree.Entry.{Entry}
use Rattle.ioa_tree.specs.declared.tree.Variable.{Variable}
use Rattle.ioa_tree.specs.declared.tree.Choice.{Choice}
use Rattle.ioa_tree.specs.declared.tree.Choice.TheVariants as choices
use Rattle.ioa_tree.specs.declared.tree.Proposal.{Proposal}
use Rattle.ioa_tree.specs.declared.tree.Statement.{Statement, Row_of-Statement, end_of-Statement, more_of-Statement}
use Rattle.ioa_tree.specs.declared.tree.Statement.TheVariants.{Assign, If', For'}
use Rattle.ioa_tree.specs.declared.tree.Statement.TheBlock.{Row_of-Arm, end_of-Arm, more_of-Arm}
use Rattle.ioa_tree.specs.declared.tree.Arm.{Arm}
use Rattle.ioa_tree.specs.declared.tree.Transition.{Transition}
use Rattle.ioa_tree.specs.declared.tree.Automaton.{Automaton}
use Rattle.ioa_tree.specs.declared.tree.Crash.{Crash}
use Rattle.ioa_tree.specs.declared.tree.Instance.{Instance}
use Rattle.ioa_tree.specs.declared.tree.Assembly.{Assembly}
use Rattle.ioa_tree.specs.declared.tree.Invariant.{Invariant}
use Rattle.ioa_tree.specs.declared.tree.TypeForm.{TypeForm}
use Rattle.ioa_tree.specs.declared.tree.TypeForm.TheVariants as forms
use Rattle.ioa_tree.specs.declared.tree.TypeDeclaration.{TypeDeclaration}
use Rattle.ioa_tree.specs.declared.tree.Declaration.{Declaration}
use Rattle.ioa_tree.specs.declared.tree.Declaration.TheVariants as declarations
use Rattle.ioa_tree.specs.Tree.{Expr, number, truth, named, parens, prefix, binary, empty, make, select, Exprs, no_expr, also, FieldTree, ConstantTree, positive, negative, truth_literal, reference, PositionTree, typed, only, EntryTree, VariableTree, ChoiceTree, exactly, any_below, ProposalTree, Stmt, assign, choose, each, Stmts, stop, seq, Arms, no_arm, arm, TransitionTree, AutomatonTree, CrashTree, InstanceTree, CompositionTree, InvariantTree, FormTree, enumeration, tuple, sequence, TypeTree, DeclarationTree, declared_type, automaton, composition, invariant, SourceTree}

abbrev pub name_of : Name → actions.Name
name_of n = string_bytes n.text

abbrev mutual
  pub expr_of : Expression → Expr
  expr_of (expressions.Number n line) = number n
  expr_of (expressions.Truth b line) = truth b
  expr_of (expressions.Name n) = named (name_of n)
  expr_of (expressions.Parentheses' p e line) = parens (expr_of e)
  expr_of (expressions.Prefix' o p e line) = prefix o (expr_of e)
  expr_of (expressions.Binary' p l o q r line) = binary (expr_of l) o (expr_of r)
  expr_of (expressions.Empty n line) = empty (name_of n)
  expr_of (expressions.Make' n shape fields) = make (name_of n) (row_exprs fields)
  expr_of (expressions.Select' p e n line) = select (expr_of e) (name_of n)

  pub row_exprs : {m : _} → Row_of-Expression m → Exprs
  row_exprs end_of-Expression = no_expr
  row_exprs (more_of-Expression e rest) = also (expr_of e) (row_exprs rest)

-- the line of its first token
abbrev pub first_line : Expression → ℕ
first_line (expressions.Number n line) = line
first_line (expressions.Truth b line) = line
first_line (expressions.Name n) = n.line
first_line (expressions.Parentheses' p e line) = line
first_line (expressions.Prefix' o p e line) = line
first_line (expressions.Binary' p l o q r line) = line
first_line (expressions.Empty n line) = line
first_line (expressions.Make' n shape fields) = n.line
first_line (expressions.Select' p e n line) = line

-- expressions of a list in order
abbrev pub exprs_of : List Expression → Exprs
exprs_of [] = no_expr
exprs_of (e ∷ es) = also (expr_of e) (exprs_of es)

abbrev pub field_of : Field → FieldTree
field_of f = record { name = name_of f.name; ty = name_of f.ty }

abbrev pub constant_of : Constant → ConstantTree
constant_of (constants.Number n line) = positive n
constant_of (constants.Negative n line) = negative n
constant_of (constants.Truth b line) = truth_literal b
constant_of (constants.Name n) = reference (name_of n)

-- the line of its first token after `const`
abbrev pub constant_line : Constant → ℕ
constant_line (constants.Number n line) = line
constant_line (constants.Negative n line) = line
constant_line (constants.Truth b line) = line
constant_line (constants.Name n) = n.line

abbrev pub position_of : Position → PositionTree
position_of (positions.Typed f) = typed (field_of f)
position_of (positions.Constant c) = only (constant_of c)

abbrev pub entry_of : Entry → EntryTree
entry_of e = record { kind = e.kind; name = name_of e.name; positions = map position_of e.positions.items }

abbrev pub variable_of : Variable → VariableTree
variable_of v = record { stable = v.stable; field = field_of v.field; start = option_map expr_of v.start }

abbrev pub choice_of : Choice → ChoiceTree
choice_of (choices.Value e) = exactly (expr_of e)
choice_of (choices.Any e line) = any_below (expr_of e)

abbrev pub proposal_of : Proposal → ProposalTree
proposal_of p = record { name = name_of p.name; choice = choice_of p.choice }

abbrev mutual
  pub stmt_of : Statement → Stmt
  stmt_of (Assign n e) = assign (name_of n) (expr_of e)
  stmt_of (If' shape arms shape_of_others others line) = choose (row_arms arms) (row_stmts others)
  stmt_of (For' x e shape statements line) = each (name_of x) (expr_of e) (row_stmts statements)

  pub row_stmts : {m : _} → Row_of-Statement m → Stmts
  row_stmts end_of-Statement = stop
  row_stmts (more_of-Statement s rest) = seq (stmt_of s) (row_stmts rest)

  pub row_arms : {m : _} → Row_of-Arm m → Arms
  row_arms end_of-Arm = no_arm
  row_arms (more_of-Arm condition shape statements rest) = arm (expr_of condition) (row_stmts statements) (row_arms rest)

-- statements of a list in sequence
abbrev pub stmts_of : List Statement → Stmts
stmts_of [] = stop
stmts_of (s ∷ ss) = seq (stmt_of s) (stmts_of ss)

-- the parts of an arm
abbrev pub arm_of : Arm → Expr × Stmts
arm_of a = (expr_of a.condition, stmts_of a.statements.items)

abbrev pub arms_of : List Arm → Arms
arms_of [] = no_arm
arms_of (a ∷ rest) = arm (expr_of a.condition) (stmts_of a.statements.items) (arms_of rest)

abbrev pub transition_of : Transition → TransitionTree
transition_of t = record {
  kind = t.kind;
  name = name_of t.name;
  pre = option_map expr_of t.pre;
  proposals = map proposal_of t.proposals.items;
  effect = stmts_of t.effect.items;
}

abbrev pub automaton_of : Automaton → AutomatonTree
automaton_of a = record {
  name = name_of a.name;
  formals = map field_of a.formals.items;
  entries = map entry_of a.entries.items;
  variables = map variable_of a.variables.items;
  transitions = map transition_of a.transitions.items;
}

abbrev pub crash_of : Crash → CrashTree
crash_of c = record { crash = name_of c.crash; recover = name_of c.recover }

abbrev pub instance_of : Instance → InstanceTree
instance_of i = record {
  name = name_of i.name;
  automaton = name_of i.automaton;
  arguments = map expr_of i.arguments.items;
  crash = option_map crash_of i.crash;
}

abbrev pub assembly_of : Assembly → CompositionTree
assembly_of c = record { name = name_of c.name; instances = map instance_of c.instances.items; hidden = map name_of c.hidden.items }

abbrev pub type_form_of : TypeForm → FormTree
type_form_of (forms.Enumeration ns) = enumeration (map name_of ns.items)
type_form_of (forms.Tuple fs) = tuple (map field_of fs.items)
type_form_of (forms.Sequence most of line) = sequence most (name_of of)

abbrev pub type_declaration_of : TypeDeclaration → TypeTree
type_declaration_of t = record { name = name_of t.name; form = type_form_of t.form }

abbrev pub invariant_of : Invariant → InvariantTree
invariant_of i = record { automaton = name_of i.automaton; condition = expr_of i.condition }

abbrev pub declaration_of : Declaration → DeclarationTree
declaration_of (declarations.Type t) = declared_type (type_declaration_of t)
declaration_of (declarations.Automaton a) = automaton (automaton_of a)
declaration_of (declarations.Composition c) = composition (assembly_of c)
declaration_of (declarations.Invariant i) = invariant (invariant_of i)

-- the source's tree
abbrev pub tree_of : List Declaration → SourceTree
tree_of ds = map declaration_of ds
