-- Typed preconditions and statements.
use Rattle.std.specs.Prelude.{◌≡◌, ℕ, ◌<◌, ◌∷◌, ◌++◌, length, Option, Some, None, IfSome}
use Rattle.ioa_value.specs.Table.{Table, item_type}
use Rattle.ioa_value.specs.declared.limits.TheConstants.{LIMITS}
use Rattle.ioa_tree.specs.Tree.{Expr, Stmt, assign, choose, each, Stmts, stop, seq, Arms, no_arm, arm}
use Rattle.ioa_tree.specs.WellFormed.{Context, type_in, type_of}

abbrev pub GuardTyped : Table → Context → Option Expr → Type 0
GuardTyped types c o = IfSome o (λ p. type_of types types c p ≡ Some 0)

-- of these names' types and these variables', within loops over these names, each with the type of its items
abbrev mutual
  pub StmtTyped : Table → Context → Context → Context → Stmt → Type 0
  StmtTyped types c v loops (assign x e) = (ty : ℕ) × (type_in v x ≡ Some ty) × (type_of types types (loops ++ c) e ≡ Some ty)
  StmtTyped types c v loops (choose arms others) = ArmsTyped types c v loops arms × StmtsTyped types c v loops others
  StmtTyped types c v loops (each x e ss) =
      (ty : ℕ) × (item : ℕ) × (type_of types types (loops ++ c) e ≡ Some ty) × (item_type types ty ≡ Some item) × (type_in v x ≡ None) × (length loops < LIMITS.loops) × StmtsTyped types c v ((x, item) ∷ loops) ss

  pub StmtsTyped : Table → Context → Context → Context → Stmts → Type 0
  StmtsTyped types c v loops stop = Unit {0}
  StmtsTyped types c v loops (seq s ss) = StmtTyped types c v loops s × StmtsTyped types c v loops ss

  pub ArmsTyped : Table → Context → Context → Context → Arms → Type 0
  ArmsTyped types c v loops no_arm = Unit {0}
  ArmsTyped types c v loops (arm e ss more) =
      (type_of types types (loops ++ c) e ≡ Some 0) × StmtsTyped types c v loops ss × ArmsTyped types c v loops more
