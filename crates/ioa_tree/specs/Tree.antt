-- Trees without places in memory and without lines: what grammar, well-formedness and meaning speak of.
use Rattle.std.specs.Prelude.{ℕ, Bool, List, Option}
use Rattle.ioa_value.specs.Actions.{Name}
use Rattle.ioa_value.specs.declared.operator.Op.{Op}
use Rattle.ioa_tree.specs.declared.tree.Infix.{Infix}
use Rattle.ioa_tree.specs.declared.tree.Kind.{Kind}

-- an expression, and expressions in order: those of a tuple's fields
mutual
  pub data Expr : Type 0 where
    number : ℕ → Expr
    truth : Bool → Expr
    named : Name → Expr
    parens : Expr → Expr
    prefix : Op → Expr → Expr
    binary : Expr → Infix → Expr → Expr
    empty : Name → Expr
    make : Name → Exprs → Expr
    select : Expr → Name → Expr

  pub data Exprs : Type 0 where
    no_expr : Exprs
    also : Expr → Exprs → Exprs

-- a name and the name of its type: a formal, a variable or a parameter
pub record FieldTree : Type 0 where
  pub name : Name
  pub ty : Name

-- a constant: a number without or with `-` before it, a truth value, or the name of a formal or of an enumeration's value
pub data ConstantTree : Type 0 where
  positive : ℕ → ConstantTree
  negative : ℕ → ConstantTree
  truth_literal : Bool → ConstantTree
  reference : Name → ConstantTree

-- a position of an entry: a parameter, which stands for any value of its type, or one value only
pub data PositionTree : Type 0 where
  typed : FieldTree → PositionTree
  only : ConstantTree → PositionTree

-- an entry of a signature
pub record EntryTree : Type 0 where
  pub kind : Kind
  pub name : Name
  pub positions : List PositionTree

-- a state variable, with its start expression where there is one; a crash keeps what is stable
pub record VariableTree : Type 0 where
  pub stable : Bool
  pub field : FieldTree
  pub start : Option Expr

-- what a proposal gives its parameter: the value of an expression, or any whole number from 0 that is below it
pub data ChoiceTree : Type 0 where
  exactly : Expr → ChoiceTree
  any_below : Expr → ChoiceTree

-- the expression that it asks for
abbrev pub expr_in : ChoiceTree → Expr
expr_in (exactly e) = e
expr_in (any_below e) = e

-- the value of a parameter to try
pub record ProposalTree : Type 0 where
  pub name : Name
  pub choice : ChoiceTree

-- statements in sequence: each assigns a whole variable, chooses by conditions, with statements for where none is true, or does statements
-- once for each item of a sequence, with a name for the item
mutual
  pub data Stmt : Type 0 where
    assign : Name → Expr → Stmt
    choose : Arms → Stmts → Stmt
    each : Name → Expr → Stmts → Stmt

  pub data Stmts : Type 0 where
    stop : Stmts
    seq : Stmt → Stmts → Stmts

  -- conditions, each with its statements
  pub data Arms : Type 0 where
    no_arm : Arms
    arm : Expr → Stmts → Arms → Arms

pub record TransitionTree : Type 0 where
  pub kind : Kind
  pub name : Name
  pub pre : Option Expr
  pub proposals : List ProposalTree
  pub effect : Stmts

pub record AutomatonTree : Type 0 where
  pub name : Name
  pub formals : List FieldTree
  pub entries : List EntryTree
  pub variables : List VariableTree
  pub transitions : List TransitionTree

-- the names of the actions by which a component crashes and recovers
pub record CrashTree : Type 0 where
  pub crash : Name
  pub recover : Name

-- a component: its name, its automaton's name, the arguments, and its crash and recover, where it has them
pub record InstanceTree : Type 0 where
  pub name : Name
  pub automaton : Name
  pub arguments : List Expr
  pub crash : Option CrashTree

-- a composition: its components, and the names of the outputs that it hides
pub record CompositionTree : Type 0 where
  pub name : Name
  pub instances : List InstanceTree
  pub hidden : List Name

-- what a type is declared to be: the names of an enumeration, the fields of a tuple, or at most so many items of a type
pub data FormTree : Type 0 where
  enumeration : List Name → FormTree
  tuple : List FieldTree → FormTree
  sequence : ℕ → Name → FormTree

pub record TypeTree : Type 0 where
  pub name : Name
  pub form : FormTree

-- what is to hold in each state of an automaton: a condition on its variables and formals
pub record InvariantTree : Type 0 where
  pub automaton : Name
  pub condition : Expr

pub data DeclarationTree : Type 0 where
  declared_type : TypeTree → DeclarationTree
  automaton : AutomatonTree → DeclarationTree
  composition : CompositionTree → DeclarationTree
  invariant : InvariantTree → DeclarationTree

-- a source
abbrev pub SourceTree : Type 0
SourceTree = List DeclarationTree
