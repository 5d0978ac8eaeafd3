-- The code of a tree, as a relation between the tree and the places where its code stands.
use Rattle.std.specs.Prelude.{◌≡◌, ℕ, ◌+◌, Bool, true, false, List, [], ◌∷◌, Option, Some, None, pos, slice_get}
use Rattle.ioa_value.specs.declared.operator.Op.{Op}
use Rattle.ioa_value.specs.declared.operator.Op.TheVariants.{Make, Field}
use Rattle.ioa_value.specs.Plain as plain
use Rattle.ioa_value.specs.Plain.{Val}
use Rattle.ioa_code.specs.declared.instr.Instr.{Instr}
use Rattle.ioa_code.specs.declared.instr.Instr.TheVariants.{Const, Slot, Arg, Store, Jump, JumpIfFalse, Any, Pick, Apply, Each, Again, Local}
use Rattle.ioa_code.specs.Machine.{Listing}
use Rattle.ioa_tree.specs.declared.tree.Infix.{Infix}
use Rattle.ioa_tree.specs.declared.tree.Infix.TheVariants.{Operator, And, Or, Implies}
use Rattle.ioa_tree.specs.Tree.{Expr, number, truth, named, parens, prefix, binary, empty, make, select, Exprs, no_expr, also, Stmt, assign, choose, each, Stmts, stop, seq, Arms, no_arm, arm, FieldTree, PositionTree, typed, only, ChoiceTree, exactly, any_below, ProposalTree}
use Rattle.ioa_tree.specs.Types.{empty_of}
use Rattle.ioa_value.specs.Table.{place_from, type_named}
use Rattle.ioa_emit.specs.Scopes.{Scope, within, Origin, on_stack, slot, formal, parameter, fixed, unknown, origin, item_of, place_of, proposal_for}

-- the instruction stands at this place
abbrev pub At : Listing → ℕ → Instr → Type 0
At code p i = slice_get code.instrs p ≡ Some i

-- the constant is pushed at this place
abbrev pub Pushes : Listing → ℕ → Val → Type 0
Pushes code p v = (k : ℕ) × At code p (Const k) × (slice_get code.consts k ≡ Some v)

-- the value is pushed from where it comes; a formal's and an enumeration's name's are constants
abbrev pub Brings : Listing → Scope → ℕ → Origin → Type 0
Brings code s p (on_stack d) = At code p (Local d)
Brings code s p (slot i) = At code p (Slot i)
Brings code s p (formal i) = (v : Val) × (slice_get s.arguments i ≡ Some v) × Pushes code p v
Brings code s p (parameter i) = At code p (Arg i)
Brings code s p (fixed v) = Pushes code p v
Brings code s p unknown = ⊥

-- code from one place up to another
abbrev pub Stretch : Type 1
Stretch = ℕ → ℕ → Type 0

-- one truth value is pushed
abbrev pub PushesTruth : Listing → Bool → Stretch
PushesTruth code b p q = Pushes code p (plain.truth b) × (q ≡ p + 1)

-- an operator stands after its last operand
abbrev pub Applies : Listing → Op → Stretch → Stretch
Applies code o Operand p q = (n : ℕ) × Operand p n × At code n (Apply o) × (q ≡ n + 1)

-- a truth value on the stack chooses: the one stretch where it is true, and then a jump over the other, to q; the other where it is
-- false
abbrev pub Chooses : Listing → Stretch → Stretch → Stretch
Chooses code This Other p q =
    (n : ℕ) × At code p (JumpIfFalse (n + 1)) × This (p + 1) n × At code n (Jump q) × Other (n + 1) q

-- what stands after the first operand's code, where this is the second's
abbrev pub Combines : Listing → Infix → Stretch → Stretch
Combines code (Operator o) Second p q = Applies code o Second p q
Combines code And Second p q = Chooses code Second (PushesTruth code false) p q
Combines code Or Second p q = Chooses code (PushesTruth code true) Second p q
Combines code Implies Second p q = Chooses code Second (PushesTruth code true) p q

-- the expression's code stands from p up to q
abbrev mutual
  pub HasExpr : Listing → Scope → Expr → Stretch
  HasExpr code s (number n) p q = Pushes code p (plain.num (pos n)) × (q ≡ p + 1)
  HasExpr code s (truth b) p q = PushesTruth code b p q
  HasExpr code s (named x) p q = Brings code s p (origin s x) × (q ≡ p + 1)
  HasExpr code s (parens e) p q = HasExpr code s e p q
  HasExpr code s (prefix o e) p q = Applies code o (HasExpr code s e) p q
  HasExpr code s (binary l o r) p q = (m : ℕ) × HasExpr code s l p m × Combines code o (HasExpr code s r) m q
  HasExpr code s (empty x) p q = (v : Val) × (empty_of s.types x ≡ Some v) × Pushes code p v × (q ≡ p + 1)
  HasExpr code s (make x es) p q = (ty : ℕ) × (type_named s.types x ≡ Some ty) × Applies code (Make (record { 0 = ty })) (HasExprs code s es) p q
  HasExpr code s (select e x) p q = (j : ℕ) × (place_of s e x ≡ Some j) × Applies code (Field j) (HasExpr code s e) p q

  -- the code of expressions, one after another
  pub HasExprs : Listing → Scope → Exprs → Stretch
  HasExprs code s no_expr p q = q ≡ p
  HasExprs code s (also e es) p q = (m : ℕ) × HasExpr code s e p m × HasExprs code s es m q

-- an omitted precondition is the constant true
abbrev pub HasGuard : Listing → Scope → Option Expr → Stretch
HasGuard code s None p q = PushesTruth code true p q
HasGuard code s (Some e) p q = HasExpr code s e p q

-- the code of a statement, of statements in sequence, and of arms with what stands after the last; a loop's sequence is evaluated before
-- its first turn, and the last place of its body leads back to where a turn begins or the loop ends
abbrev mutual
  pub HasStmt : Listing → Scope → Stmt → Stretch
  HasStmt code s (assign x e) p q =
      (m : ℕ) × (i : ℕ) × HasExpr code s e p m × At code m (Store i) × (place_from 0 s.variables x ≡ Some i) × (q ≡ m + 1)
  HasStmt code s (choose arms others) p q = HasArms code s arms (HasStmts code s others) p q
  HasStmt code s (each x e ss) p q =
      (m : ℕ) × (n : ℕ) × (ty : ℕ) × HasExpr code s e p m × (item_of s e ≡ Some ty) × At code m (Each (n + 1)) × HasStmts code (within s x ty) ss (m + 1) n × At code n (Again m) × (q ≡ n + 1)

  pub HasStmts : Listing → Scope → Stmts → Stretch
  HasStmts code s stop p q = q ≡ p
  HasStmts code s (seq t ts) p q = (m : ℕ) × HasStmt code s t p m × HasStmts code s ts m q

  pub HasArms : Listing → Scope → Arms → Stretch → Stretch
  HasArms code s no_arm Others p q = Others p q
  HasArms code s (arm c ts more) Others p q =
      (m : ℕ) × HasExpr code s c p m × Chooses code (HasStmts code s ts) (HasArms code s more Others) m q

-- any number below an expression is picked after its value
abbrev pub HasChoice : Listing → Scope → ChoiceTree → Stretch
HasChoice code s (exactly e) p q = HasExpr code s e p q
HasChoice code s (any_below e) p q = (m : ℕ) × HasExpr code s e p m × At code m Any × (q ≡ m + 1)

-- where nothing is proposed, a value of the parameter's type is picked
abbrev pub HasProposal : Listing → Scope → FieldTree → Option ProposalTree → Stretch
HasProposal code s f (Some r) p q = HasChoice code s r.choice p q
HasProposal code s f None p q = (ty : ℕ) × (type_named s.types f.ty ≡ Some ty) × At code p (Pick (record { 0 = ty })) × (q ≡ p + 1)

-- the code of proposals, parameter by parameter; a constant has none
abbrev pub HasProposals : Listing → Scope → List ProposalTree → List PositionTree → Stretch
HasProposals code s rs [] p q = q ≡ p
HasProposals code s rs (typed f ∷ ps) p q = (m : ℕ) × HasProposal code s f (proposal_for rs f) p m × HasProposals code s rs ps m q
HasProposals code s rs (only c ∷ ps) p q = HasProposals code s rs ps p q
