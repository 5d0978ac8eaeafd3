-- Declarations that are counted together, and nodes of trees, counted no further than one past the limit.
use Rattle.std.specs.Prelude.{◌≡◌, ℕ, ◌+◌, ◌<◌, ◌≤◌, Bool, true, min, Result, Ok, Err}
use Rattle.ioa_value.specs.declared.limits.TheConstants.{LIMITS}
use Rattle.ioa_lex.specs.declared.refusal.Refusal.{Refusal}
use Rattle.ioa_tree.specs.Tree.{Expr, Exprs, DeclarationTree}
use Rattle.ioa_tree.specs.WellFormed.{nodes, exprs_nodes, is_type_declaration, is_counted, is_invariant}
use Rattle.ioa_rules.specs.declared.limits.Group.{Group}
use Rattle.ioa_rules.specs.declared.limits.Group.TheVariants.{Types, Machines, Invariants}
use Rattle.ioa_rules.specs.Codes.{too_many, tells}

-- the declaration is one of the group
abbrev pub is_among : Group → DeclarationTree → Bool
is_among Types d = is_type_declaration d
is_among Machines d = is_counted d
is_among Invariants d = is_invariant d

abbrev pub counted : Expr → ℕ
counted e = min (nodes e) (LIMITS.nodes + 1)

abbrev pub all_counted : Exprs → ℕ
all_counted es = min (exprs_nodes es) (LIMITS.nodes + 1)

-- so many nodes, or where they pass the limit, a refusal that says so
abbrev pub Counts : Result ℕ Refusal → ℕ → Type 0
Counts (Ok n) total = (n ≡ total) × (n ≤ LIMITS.nodes)
Counts (Err r) total = (tells too_many r ≡ true) × (LIMITS.nodes < total)
