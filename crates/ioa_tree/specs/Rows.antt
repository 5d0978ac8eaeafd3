-- Lists of trees as the rows that stand in a tree.
use Rattle.std.specs.Prelude.{List, [], ◌∷◌}
use Rattle.ioa_tree.specs.Tree.{Expr, Exprs, no_expr, also, Stmt, Stmts, stop, seq, Arms, no_arm, arm}

-- expressions of a list in order
abbrev pub in_order : List Expr → Exprs
in_order [] = no_expr
in_order (e ∷ es) = also e (in_order es)

-- statements in sequence, and arms
abbrev pub sequence : List Stmt → Stmts
sequence [] = stop
sequence (s ∷ ss) = seq s (sequence ss)

abbrev pub choices : List (Expr × Stmts) → Arms
choices [] = no_arm
choices (c ∷ cs) = arm c.0 c.1 (choices cs)
