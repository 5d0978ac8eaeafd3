-- Code has as many instructions as its tree's extent says, and this is at most four for each node.
use Rattle.std.proofs.Common.{◌≡◌, ℕ, ◌+◌, ◌*◌, ◌≤◌, true, false, List, [], ◌∷◌, length, Option, Some, None, arith}
use Rattle.ioa_code.specs.Machine.{Listing}
use Rattle.ioa_tree.specs.declared.tree.Infix.{Infix}
use Rattle.ioa_tree.specs.declared.tree.Infix.TheVariants.{Operator, And, Or, Implies}
use Rattle.ioa_tree.specs.Tree.{Expr, number, truth, named, parens, prefix, binary, empty, make, select, Exprs, no_expr, also, Stmt, assign, choose, each, Stmts, stop, seq, Arms, no_arm, arm, FieldTree, PositionTree, typed, only, ChoiceTree, exactly, any_below, expr_in, ProposalTree}
use Rattle.ioa_tree.specs.WellFormed.{nodes, exprs_nodes, stmt_nodes, stmts_nodes, arms_nodes}
use Rattle.ioa_emit.specs.Scopes.{Scope, within, proposal_for}
use Rattle.ioa_emit.specs.Placed.{Stretch, PushesTruth, Chooses, Combines, HasExpr, HasExprs, HasGuard, HasStmt, HasStmts, HasArms, HasChoice, HasProposal, HasProposals}
use Rattle.ioa_emit.specs.Emitting.{guard_nodes, proposal_nodes, proposals_nodes}
use Rattle.ioa_emit.specs.Extents.{extent, exprs_extent, infix_extent, guard_extent, stmt_extent, stmts_extent, arms_extent, choice_extent, proposal_extent, proposals_extent}

module _ (code : Listing) where
  chooses_long : (This Other : Stretch) (a b : ℕ) → ((p q : ℕ) → This p q → q ≡ p + a) → ((p q : ℕ) → Other p q → q ≡ p + b) → (p q : ℕ) → Chooses code This Other p q → q ≡ p + (a + b + 2)
  chooses_long This Other a b f g p q h = omega (arith, f (p + 1) h.0 h.2, g (h.0 + 1) q h.4)

  combines_long : (o : Infix) (Second : Stretch) (a : ℕ) → ((p q : ℕ) → Second p q → q ≡ p + a) → (p q : ℕ) → Combines code o Second p q → q ≡ p + (a + infix_extent o)
  combines_long (Operator o) Second a f p q h = omega (arith, f p h.0 h.1, h.3)
  combines_long And Second a f p q h =
      omega (arith, chooses_long Second (PushesTruth code false) a 1 f (λ m n k. k.1) p q h)
  combines_long Or Second a f p q h =
      omega (arith, chooses_long (PushesTruth code true) Second 1 a (λ m n k. k.1) f p q h)
  combines_long Implies Second a f p q h =
      omega (arith, chooses_long Second (PushesTruth code true) a 1 f (λ m n k. k.1) p q h)

  module _ (s : Scope) where
    mutual
      pub expr_long : (e : Expr) (p q : ℕ) → HasExpr code s e p q → q ≡ p + extent e
      expr_long (number n) p q h = h.1
      expr_long (truth b) p q h = h.1
      expr_long (named x) p q h = h.1
      expr_long (parens e) p q h = expr_long e p q h
      expr_long (prefix o e) p q h = omega (arith, expr_long e p h.0 h.1, h.3)
      expr_long (binary l o r) p q h =
          omega (arith, expr_long l p h.0 h.1, combines_long o (HasExpr code s r) (extent r) (expr_long r) h.0 q h.2)
      expr_long (empty x) p q h = h.3
      expr_long (make x es) p q h = omega (arith, exprs_long es p h.2.0 h.2.1, h.2.3)
      expr_long (select e x) p q h = omega (arith, expr_long e p h.2.0 h.2.1, h.2.3)

      pub exprs_long : (es : Exprs) (p q : ℕ) → HasExprs code s es p q → q ≡ p + exprs_extent es
      exprs_long no_expr p q h = omega (arith, h)
      exprs_long (also e es) p q h = omega (arith, expr_long e p h.0 h.1, exprs_long es h.0 q h.2)

    pub guard_long : (g : Option Expr) (p q : ℕ) → HasGuard code s g p q → q ≡ p + guard_extent g
    guard_long None p q h = h.1
    guard_long (Some e) p q h = expr_long e p q h

  mutual
    pub stmt_long : (s : Scope) (t : Stmt) (p q : ℕ) → HasStmt code s t p q → q ≡ p + stmt_extent t
    stmt_long s (assign x e) p q h = omega (arith, expr_long s e p h.0 h.2, h.5)
    stmt_long s (choose arms others) p q h = arms_long s arms others (stmts_long s others) p q h
    stmt_long s (each x e ss) p q h = omega (arith, expr_long s e p h.0 h.3, stmts_long (within s x h.2) ss (h.0 + 1) h.1 h.6, h.8)

    pub stmts_long : (s : Scope) (ts : Stmts) (p q : ℕ) → HasStmts code s ts p q → q ≡ p + stmts_extent ts
    stmts_long s stop p q h = omega (arith, h)
    stmts_long s (seq t ts) p q h = omega (arith, stmt_long s t p h.0 h.1, stmts_long s ts h.0 q h.2)

    pub arms_long : (s : Scope) (arms : Arms) (others : Stmts) → ((p q : ℕ) → HasStmts code s others p q → q ≡ p + stmts_extent others) → (p q : ℕ) → HasArms code s arms (HasStmts code s others) p q → q ≡ p + (arms_extent arms + stmts_extent others)
    arms_long s no_arm others f p q h = omega (arith, f p q h)
    arms_long s (arm c ts more) others f p q h =
        omega (arith, expr_long s c p h.0 h.1, chooses_long (HasStmts code s ts) (HasArms code s more (HasStmts code s others)) (stmts_extent ts) (arms_extent more + stmts_extent others) (stmts_long s ts) (arms_long s more others f) h.0 q h.2)

  module _ (s : Scope) where
    choice_long : (c : ChoiceTree) (p q : ℕ) → HasChoice code s c p q → q ≡ p + choice_extent c
    choice_long (exactly e) p q h = expr_long s e p q h
    choice_long (any_below e) p q h = omega (arith, expr_long s e p h.0 h.1, h.3)

    proposal_long : (f : FieldTree) (r : Option ProposalTree) (p q : ℕ) → HasProposal code s f r p q → q ≡ p + proposal_extent r
    proposal_long f None p q h = h.3
    proposal_long f (Some r) p q h = choice_long r.choice p q h

    pub proposals_long : (rs : List ProposalTree) (ps : List PositionTree) (p q : ℕ) → HasProposals code s rs ps p q → q ≡ p + proposals_extent rs ps
    proposals_long rs [] p q h = omega (arith, h)
    proposals_long rs (typed f ∷ ps) p q h = omega (arith, proposal_long f (proposal_for rs f) p h.0 h.1, proposals_long rs ps h.0 q h.2)
    proposals_long rs (only c ∷ ps) p q h = proposals_long rs ps p q h

infix_small : (o : Infix) → infix_extent o ≤ 3
infix_small (Operator o) = omega arith
infix_small And = omega arith
infix_small Or = omega arith
infix_small Implies = omega arith

mutual
  pub expr_small : (e : Expr) → extent e + 3 ≤ 4 * nodes e
  expr_small (number n) = omega arith
  expr_small (truth b) = omega arith
  expr_small (named x) = omega arith
  expr_small (parens e) = omega (arith, expr_small e)
  expr_small (prefix o e) = omega (arith, expr_small e)
  expr_small (binary l o r) = omega (arith, expr_small l, expr_small r, infix_small o)
  expr_small (empty x) = omega arith
  expr_small (make x es) = omega (arith, exprs_small es)
  expr_small (select e x) = omega (arith, expr_small e)

  exprs_small : (es : Exprs) → exprs_extent es ≤ 4 * exprs_nodes es
  exprs_small no_expr = omega arith
  exprs_small (also e es) = omega (arith, expr_small e, exprs_small es)

pub guard_small : (g : Option Expr) → guard_extent g ≤ 4 * guard_nodes g
guard_small None = omega arith
guard_small (Some e) = omega (arith, expr_small e)

mutual
  stmt_small : (t : Stmt) → stmt_extent t ≤ 4 * stmt_nodes t
  stmt_small (assign x e) = omega (arith, expr_small e)
  stmt_small (choose arms others) = omega (arith, arms_small arms, stmts_small others)
  stmt_small (each x e ss) = omega (arith, expr_small e, stmts_small ss)

  pub stmts_small : (ts : Stmts) → stmts_extent ts ≤ 4 * stmts_nodes ts
  stmts_small stop = omega arith
  stmts_small (seq t ts) = omega (arith, stmt_small t, stmts_small ts)

  arms_small : (arms : Arms) → arms_extent arms ≤ 4 * arms_nodes arms
  arms_small no_arm = omega arith
  arms_small (arm c ts more) = omega (arith, expr_small c, stmts_small ts, arms_small more)

choice_small : (c : ChoiceTree) → choice_extent c ≤ 4 * nodes (expr_in c)
choice_small (exactly e) = omega (arith, expr_small e)
choice_small (any_below e) = omega (arith, expr_small e)

proposal_small : (r : Option ProposalTree) → proposal_extent r ≤ 4 * proposal_nodes r + 1
proposal_small None = omega arith
proposal_small (Some r) = omega (arith, choice_small r.choice)

-- one more for each parameter without a proposal
pub proposals_small : (rs : List ProposalTree) (ps : List PositionTree) → proposals_extent rs ps ≤ 4 * proposals_nodes rs ps + length ps
proposals_small rs [] = omega arith
proposals_small rs (typed f ∷ ps) = omega (arith, proposal_small (proposal_for rs f), proposals_small rs ps)
proposals_small rs (only c ∷ ps) = omega (arith, proposals_small rs ps)
