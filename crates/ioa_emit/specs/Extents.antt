-- How many instructions the code of a tree has.
use Rattle.std.specs.Prelude.{ℕ, ◌+◌, List, [], ◌∷◌, Option, Some, None}
use Rattle.ioa_tree.specs.declared.tree.Infix.{Infix}
use Rattle.ioa_tree.specs.declared.tree.Infix.TheVariants.{Operator, And, Or, Implies}
use Rattle.ioa_tree.specs.Tree.{Expr, number, truth, named, parens, prefix, binary, empty, make, select, Exprs, no_expr, also, Stmt, assign, choose, each, Stmts, stop, seq, Arms, no_arm, arm, PositionTree, typed, only, ChoiceTree, exactly, any_below, ProposalTree}
use Rattle.ioa_emit.specs.Scopes.{proposal_for}

-- beside the operands' code: the operator, or two jumps and a constant
abbrev pub infix_extent : Infix → ℕ
infix_extent (Operator o) = 1
infix_extent And = 3
infix_extent Or = 3
infix_extent Implies = 3

abbrev mutual
  pub extent : Expr → ℕ
  extent (number n) = 1
  extent (truth b) = 1
  extent (named x) = 1
  extent (parens e) = extent e
  extent (prefix o e) = extent e + 1
  extent (binary l o r) = extent l + extent r + infix_extent o
  extent (empty x) = 1
  extent (make x es) = exprs_extent es + 1
  extent (select e x) = extent e + 1

  pub exprs_extent : Exprs → ℕ
  exprs_extent no_expr = 0
  exprs_extent (also e es) = extent e + exprs_extent es

-- an omitted precondition is a constant
abbrev pub guard_extent : Option Expr → ℕ
guard_extent None = 1
guard_extent (Some e) = extent e

-- an arm has two jumps, and a loop an instruction before its body and one at its end
abbrev mutual
  pub stmt_extent : Stmt → ℕ
  stmt_extent (assign x e) = extent e + 1
  stmt_extent (choose arms others) = arms_extent arms + stmts_extent others
  stmt_extent (each x e ss) = extent e + 2 + stmts_extent ss

  pub stmts_extent : Stmts → ℕ
  stmts_extent stop = 0
  stmts_extent (seq t ts) = stmt_extent t + stmts_extent ts

  pub arms_extent : Arms → ℕ
  arms_extent no_arm = 0
  arms_extent (arm c ts more) = extent c + 2 + stmts_extent ts + arms_extent more

-- any number below an expression is picked by one more
abbrev pub choice_extent : ChoiceTree → ℕ
choice_extent (exactly e) = extent e
choice_extent (any_below e) = extent e + 1

-- a value is picked by one
abbrev pub proposal_extent : Option ProposalTree → ℕ
proposal_extent None = 1
proposal_extent (Some r) = choice_extent r.choice

abbrev pub proposals_extent : List ProposalTree → List PositionTree → ℕ
proposals_extent rs [] = 0
proposals_extent rs (typed f ∷ ps) = proposal_extent (proposal_for rs f) + proposals_extent rs ps
proposals_extent rs (only c ∷ ps) = proposals_extent rs ps
