-- The names that an expression asks for a value: of variables, formals and parameters.
use Rattle.std.specs.Prelude.{Bool, false, ◌||◌}
use Rattle.std.specs.Str.{bytes_eq}
use Rattle.ioa_value.specs.Actions.{Name}
use Rattle.ioa_tree.specs.Tree.{Expr, number, truth, named, parens, prefix, binary, empty, make, select, Exprs, no_expr, also}

-- the name stands in the expression; types and fields are named by themselves
abbrev mutual
  pub mentions : Name → Expr → Bool
  mentions x (number n) = false
  mentions x (truth b) = false
  mentions x (named y) = bytes_eq y x
  mentions x (parens e) = mentions x e
  mentions x (prefix o e) = mentions x e
  mentions x (binary l o r) = mentions x l || mentions x r
  mentions x (empty ty) = false
  mentions x (make ty es) = any_mentions x es
  mentions x (select e field) = mentions x e

  pub any_mentions : Name → Exprs → Bool
  any_mentions x no_expr = false
  any_mentions x (also e es) = mentions x e || any_mentions x es
