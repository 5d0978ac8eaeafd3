-- What a step of the compiler adds to the code.
use Rattle.std.specs.Prelude.{◌≡◌, ℕ, ◌+◌, ◌≤◌, Bool, true, List, [], ◌∷◌, length, Option, Some, None, slice_get}
use Rattle.ioa_value.specs.Plain.{Val}
use Rattle.ioa_value.specs.Typing.{OwnTypes}
use Rattle.ioa_code.specs.declared.instr.Instr.{Instr}
use Rattle.ioa_code.specs.Machine.{Listing}
use Rattle.ioa_tree.specs.declared.tree.Infix.{Infix}
use Rattle.ioa_tree.specs.Tree.{Expr, Exprs, Stmt, Stmts, PositionTree, typed, only, expr_in, ChoiceTree, ProposalTree, FieldTree}
use Rattle.ioa_tree.specs.WellFormed.{nodes, exprs_nodes, stmt_nodes, stmts_nodes}
use Rattle.ioa_emit.specs.Scopes.{Scope, proposal_for}
use Rattle.ioa_emit.specs.Placed.{At, Pushes, PushesTruth, Chooses, Combines, HasExpr, HasExprs, HasGuard, HasStmt, HasStmts, HasChoice, HasProposal, HasProposals}

-- what stands in the old code stands in the new one too
pub record KeepsCode (old new : Listing) : Type 0 where
  pub instr : (p : ℕ) (i : Instr) → At old p i → At new p i
  pub const : (k : ℕ) (v : Val) → slice_get old.consts k ≡ Some v → slice_get new.consts k ≡ Some v
  pub types : new.types ≡ old.types
  pub typed : OwnTypes old.types old.consts → OwnTypes new.types new.consts

-- code that stands from the old end to the new one, with at most so many new constants
pub record Adds (old new : Listing) (n : ℕ) (Has : Listing → ℕ → ℕ → Type 0) : Type 0 where
  pub keeps : KeepsCode old new
  pub has : Has new (length old.instrs) (length new.instrs)
  pub few : length new.consts ≤ length old.consts + n

abbrev pub AddsInstr : Listing → Listing → Instr → Type 0
AddsInstr old new i = Adds old new 0 (λ code p q. At code p i × (q ≡ p + 1))

abbrev pub AddsConst : Listing → Listing → Val → Type 0
AddsConst old new v = Adds old new 1 (λ code p q. Pushes code p v × (q ≡ p + 1))

abbrev pub AddsExpr : Listing → Listing → Scope → Expr → Type 0
AddsExpr old new s e = Adds old new (nodes e) (λ code p q. HasExpr code s e p q)

abbrev pub AddsExprs : Listing → Listing → Scope → Exprs → Type 0
AddsExprs old new s es = Adds old new (exprs_nodes es) (λ code p q. HasExprs code s es p q)

-- an infix with its second operand
abbrev pub AddsCombined : Listing → Listing → Scope → Infix → Expr → Type 0
AddsCombined old new s o r = Adds old new (nodes r + 1) (λ code p q. Combines code o (HasExpr code s r) p q)

-- the expression where a condition is true, and a truth value where it is false
abbrev pub AddsTrueSide : Listing → Listing → Scope → Expr → Bool → Type 0
AddsTrueSide old new s e b = Adds old new (nodes e + 1) (λ code p q. Chooses code (HasExpr code s e) (PushesTruth code b) p q)

-- true where a condition is true, and the expression where it is false
abbrev pub AddsFalseSide : Listing → Listing → Scope → Expr → Type 0
AddsFalseSide old new s e = Adds old new (nodes e + 1) (λ code p q. Chooses code (PushesTruth code true) (HasExpr code s e) p q)

abbrev pub guard_nodes : Option Expr → ℕ
guard_nodes None = 1
guard_nodes (Some e) = nodes e

abbrev pub AddsGuard : Listing → Listing → Scope → Option Expr → Type 0
AddsGuard old new s e = Adds old new (guard_nodes e) (λ code p q. HasGuard code s e p q)

abbrev pub AddsStmt : Listing → Listing → Scope → Stmt → Type 0
AddsStmt old new s t = Adds old new (stmt_nodes t) (λ code p q. HasStmt code s t p q)

abbrev pub AddsStmts : Listing → Listing → Scope → Stmts → Type 0
AddsStmts old new s ts = Adds old new (stmts_nodes ts) (λ code p q. HasStmts code s ts p q)

abbrev pub proposal_nodes : Option ProposalTree → ℕ
proposal_nodes None = 0
proposal_nodes (Some r) = nodes (expr_in r.choice)

abbrev pub proposals_nodes : List ProposalTree → List PositionTree → ℕ
proposals_nodes rs [] = 0
proposals_nodes rs (typed f ∷ ps) = proposal_nodes (proposal_for rs f) + proposals_nodes rs ps
proposals_nodes rs (only c ∷ ps) = proposals_nodes rs ps

abbrev pub AddsChoice : Listing → Listing → Scope → ChoiceTree → Type 0
AddsChoice old new s c = Adds old new (nodes (expr_in c)) (λ code p q. HasChoice code s c p q)

abbrev pub AddsProposal : Listing → Listing → Scope → FieldTree → Option ProposalTree → Type 0
AddsProposal old new s f r = Adds old new (proposal_nodes r) (λ code p q. HasProposal code s f r p q)

abbrev pub AddsProposals : Listing → Listing → Scope → List ProposalTree → List PositionTree → Type 0
AddsProposals old new s rs ps = Adds old new (proposals_nodes rs ps) (λ code p q. HasProposals code s rs ps p q)

-- the first constants are these
abbrev pub IsGrown : List Val → List Val → Type 0
IsGrown old new = (k : ℕ) (v : Val) → slice_get old k ≡ Some v → slice_get new k ≡ Some v
