-- How deep trees are: parentheses, operators, tuples and fields are one deeper than the deepest part, and so is a choice or a loop than the
-- deepest statement in it.
use Rattle.std.specs.Prelude.{ℕ, ◌+◌, max, List, [], ◌∷◌, Option, Some, None}
use Rattle.ioa_tree.specs.Tree.{Expr, number, truth, named, parens, prefix, binary, empty, make, select, Exprs, no_expr, also, VariableTree, expr_in, ProposalTree, Stmt, assign, choose, each, Stmts, stop, seq, Arms, no_arm, arm, TransitionTree, AutomatonTree, InstanceTree, CompositionTree, DeclarationTree, declared_type, automaton, composition, invariant, SourceTree}

abbrev mutual
  pub depth_of : Expr → ℕ
  depth_of (number n) = 1
  depth_of (truth b) = 1
  depth_of (named n) = 1
  depth_of (parens e) = depth_of e + 1
  depth_of (prefix o e) = depth_of e + 1
  depth_of (binary l o r) = max (depth_of l) (depth_of r) + 1
  depth_of (empty n) = 1
  depth_of (make n es) = exprs_depth es + 1
  depth_of (select e n) = depth_of e + 1

  -- the deepest of expressions, or 0
  pub exprs_depth : Exprs → ℕ
  exprs_depth no_expr = 0
  exprs_depth (also e es) = max (depth_of e) (exprs_depth es)

-- the greatest that f gives, or 0
abbrev pub deepest : {A : Type 0} → (A → ℕ) → List A → ℕ
deepest f [] = 0
deepest f (x ∷ xs) = max (f x) (deepest f xs)

abbrev pub deep_option : Option Expr → ℕ
deep_option None = 0
deep_option (Some e) = depth_of e

abbrev pub deep_variable : VariableTree → ℕ
deep_variable v = deep_option v.start

abbrev pub deep_proposal : ProposalTree → ℕ
deep_proposal p = depth_of (expr_in p.choice)

-- the deepest expression of statements
abbrev mutual
  pub deep_stmt : Stmt → ℕ
  deep_stmt (assign n e) = depth_of e
  deep_stmt (choose arms others) = max (deep_arms arms) (deep_stmts others)
  deep_stmt (each x e ss) = max (depth_of e) (deep_stmts ss)

  pub deep_stmts : Stmts → ℕ
  deep_stmts stop = 0
  deep_stmts (seq s ss) = max (deep_stmt s) (deep_stmts ss)

  pub deep_arms : Arms → ℕ
  deep_arms no_arm = 0
  deep_arms (arm c ss more) = max (depth_of c) (max (deep_stmts ss) (deep_arms more))

-- how deep statements are themselves: an assignment is one deep whatever its expression, and neither conditions nor what a loop goes over count
abbrev mutual
  pub stmt_depth : Stmt → ℕ
  stmt_depth (assign n e) = 1
  stmt_depth (choose arms others) = max (arms_depth arms) (stmts_depth others) + 1
  stmt_depth (each x e ss) = stmts_depth ss + 1

  pub stmts_depth : Stmts → ℕ
  stmts_depth stop = 0
  stmts_depth (seq s ss) = max (stmt_depth s) (stmts_depth ss)

  pub arms_depth : Arms → ℕ
  arms_depth no_arm = 0
  arms_depth (arm c ss more) = max (stmts_depth ss) (arms_depth more)

abbrev pub deep_transition : TransitionTree → ℕ
deep_transition t = max (deep_option t.pre) (max (deepest deep_proposal t.proposals) (max (deep_stmts t.effect) (stmts_depth t.effect)))

abbrev pub deep_automaton : AutomatonTree → ℕ
deep_automaton a = max (deepest deep_variable a.variables) (deepest deep_transition a.transitions)

abbrev pub deep_instance : InstanceTree → ℕ
deep_instance i = deepest depth_of i.arguments

abbrev pub deep_composition : CompositionTree → ℕ
deep_composition c = deepest deep_instance c.instances

-- the deepest expression or statement of a declaration
abbrev pub deep : DeclarationTree → ℕ
deep (declared_type t) = 0
deep (automaton a) = deep_automaton a
deep (composition c) = deep_composition c
deep (invariant i) = depth_of i.condition

abbrev pub source_deep : SourceTree → ℕ
source_deep ds = deepest deep ds
