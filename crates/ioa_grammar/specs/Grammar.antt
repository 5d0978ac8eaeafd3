-- Which tokens spell a tree: the grammar, production by production. A language is a set of token lists.
use Rattle.std.specs.Prelude.{◌≡◌, ℕ, ◌≤◌, ◌⊎◌, Bool, true, false, List, [], ◌∷◌, ◌++◌, Option, Some, None, IsTrue}
use Rattle.ioa_value.specs.declared.terminal.Terminal.{Terminal}
use Rattle.ioa_value.specs.declared.terminal.Terminal.TheVariants as terminals
use Rattle.ioa_lex.specs.Tokens as tokens
use Rattle.ioa_lex.specs.Tokens.{Tok, terminal}
use Rattle.ioa_value.specs.Actions.{Name}
use Rattle.ioa_tree.specs.declared.tree.Kind.{Kind}
use Rattle.ioa_tree.specs.declared.tree.Kind.TheVariants.{Input, Output, Internal}
use Rattle.ioa_tree.specs.declared.tree.Infix.TheVariants.{Operator}
use Rattle.ioa_grammar.specs.Operators.{stands_before, stands_between, encloses, level_of, left_of, right_of, operator_word, tightest}
use Rattle.ioa_tree.specs.Tree as tree
use Rattle.ioa_tree.specs.Tree.{Expr, number, truth, named, parens, prefix, binary, make, select, Exprs, no_expr, also, FieldTree, ConstantTree, positive, negative, truth_literal, reference, PositionTree, typed, only, EntryTree, VariableTree, ChoiceTree, exactly, any_below, ProposalTree, Stmt, assign, choose, each, Stmts, stop, seq, Arms, no_arm, arm, TransitionTree, AutomatonTree, CrashTree, InstanceTree, CompositionTree, InvariantTree, FormTree, enumeration, tuple, sequence, TypeTree, DeclarationTree, declared_type, automaton, composition, invariant, SourceTree}

abbrev pub Language : Type 1
Language = List Tok → Type 0

-- ---- languages

abbrev pub nothing : Language
nothing = λ ts. ts ≡ []

-- no list at all
abbrev pub empty : Language
empty = λ ts. ⊥

abbrev pub single : Tok → Language
single x = λ ts. ts ≡ x ∷ []

abbrev pub word : Terminal → Language
word t = single (terminal t)

abbrev pub called : Name → Language
called n = single (tokens.name n)

-- one after the other
infixr 12 ◌▹◌
abbrev pub ◌▹◌ : Language → Language → Language
L ▹ M = λ ts. (a : List Tok) × (b : List Tok) × L a × M b × (ts ≡ a ++ b)

-- the word or sign, or nothing
abbrev pub perhaps : Terminal → Language
perhaps t = λ ts. word t ts ⊎ nothing ts

-- what may be absent is introduced by a word or sign
abbrev pub optional : {A : Type 0} → Terminal → (A → Language) → Option A → Language
optional t L None = nothing
optional t L (Some x) = word t ▹ L x

-- the same of a list, which is empty where it is absent
abbrev pub optional_list : {A : Type 0} → Terminal → (List A → Language) → List A → Language
optional_list t L [] = nothing
optional_list t L (x ∷ xs) = word t ▹ L (x ∷ xs)

-- the word where it is so, and nothing where it is not
abbrev pub flagged : Terminal → Bool → Language
flagged t true = word t
flagged t false = nothing

-- each item after a separator
abbrev pub each_after : {A : Type 0} → Terminal → (A → Language) → List A → Language
each_after t L [] = nothing
each_after t L (x ∷ xs) = word t ▹ (L x ▹ each_after t L xs)

-- one item or more, with a separator between them
abbrev pub separated : {A : Type 0} → Terminal → (A → Language) → List A → Language
separated t L [] = empty
separated t L (x ∷ xs) = L x ▹ each_after t L xs

-- the same, and perhaps one separator at the end
abbrev pub terminated : {A : Type 0} → Terminal → (A → Language) → List A → Language
terminated t L xs = separated t L xs ▹ perhaps t

-- any number of items
abbrev pub many : {A : Type 0} → (A → Language) → List A → Language
many L [] = nothing
many L (x ∷ xs) = L x ▹ many L xs

-- between parentheses
abbrev pub enclosed : Language → Language
enclosed L = word terminals.Open ▹ (L ▹ word terminals.Close)

-- one item or more between braces, with commas between them
abbrev pub braced : {A : Type 0} → (A → Language) → List A → Language
braced L xs = word terminals.OpenBrace ▹ (separated terminals.Comma L xs ▹ word terminals.CloseBrace)

-- ---- expressions

-- an expression whose operators outside parentheses have at least this level
abbrev mutual
  pub SpellsExpr : ℕ → Expr → Language
  SpellsExpr k (number n) = single (tokens.number n)
  SpellsExpr k (truth true) = word terminals.True
  SpellsExpr k (truth false) = word terminals.False
  SpellsExpr k (named n) = called n
  SpellsExpr k (parens e) = enclosed (SpellsExpr 0 e)
  SpellsExpr k (prefix o e) = λ ts.
      (IsTrue (stands_before o) × (k ≤ level_of (Operator o)) × (word (operator_word (Operator o)) ▹ SpellsExpr (right_of (Operator o)) e) ts)
      ⊎ ((encloses (Operator o) ≡ 1) × (word (operator_word (Operator o)) ▹ enclosed (SpellsExpr 0 e)) ts)
  SpellsExpr k (binary l o r) = λ ts.
      (IsTrue (stands_between o) × (k ≤ level_of o) × (SpellsExpr (left_of o) l ▹ (word (operator_word o) ▹ SpellsExpr (right_of o) r)) ts)
      ⊎ ((encloses o ≡ 2) × (word (operator_word o) ▹ enclosed (SpellsExpr 0 l ▹ (word terminals.Comma ▹ SpellsExpr 0 r))) ts)
  SpellsExpr k (tree.empty n) = word terminals.Empty ▹ enclosed (called n)
  SpellsExpr k (make n es) = called n ▹ enclosed (SpellsExprs es)
  -- of an expression without operators outside parentheses
  SpellsExpr k (select e n) = SpellsExpr tightest e ▹ (word terminals.Dot ▹ called n)

  -- one expression or more, with commas between them
  pub SpellsExprs : Exprs → Language
  SpellsExprs no_expr = empty
  SpellsExprs (also e es) = SpellsExpr 0 e ▹ SpellsOthers es

  -- each expression after a comma
  pub SpellsOthers : Exprs → Language
  SpellsOthers no_expr = nothing
  SpellsOthers (also e es) = word terminals.Comma ▹ (SpellsExpr 0 e ▹ SpellsOthers es)

-- ---- automata

abbrev pub SpellsField : FieldTree → Language
SpellsField f = called f.name ▹ (word terminals.Colon ▹ called f.ty)

abbrev pub SpellsFields : List FieldTree → Language
SpellsFields fs = separated terminals.Comma SpellsField fs ▹ word terminals.Close

abbrev pub kind_word : Kind → Terminal
kind_word Input = terminals.Input
kind_word Output = terminals.Output
kind_word Internal = terminals.Internal

abbrev pub SpellsConstant : ConstantTree → Language
SpellsConstant (positive n) = single (tokens.number n)
SpellsConstant (negative n) = word terminals.Minus ▹ single (tokens.number n)
SpellsConstant (truth_literal true) = word terminals.True
SpellsConstant (truth_literal false) = word terminals.False
SpellsConstant (reference x) = called x

abbrev pub SpellsPosition : PositionTree → Language
SpellsPosition (typed f) = SpellsField f
SpellsPosition (only c) = word terminals.Const ▹ SpellsConstant c

abbrev pub SpellsPositions : List PositionTree → Language
SpellsPositions ps = separated terminals.Comma SpellsPosition ps ▹ word terminals.Close

abbrev pub SpellsEntry : EntryTree → Language
SpellsEntry e = word (kind_word e.kind) ▹ (called e.name ▹ optional_list terminals.Open SpellsPositions e.positions)

abbrev pub SpellsVariable : VariableTree → Language
SpellsVariable v = flagged terminals.Stable v.stable ▹ (SpellsField v.field ▹ optional terminals.Becomes (SpellsExpr 0) v.start)

abbrev pub SpellsChoice : ChoiceTree → Language
SpellsChoice (exactly e) = SpellsExpr 0 e
SpellsChoice (any_below e) = word terminals.Any ▹ enclosed (SpellsExpr 0 e)

abbrev pub SpellsProposal : ProposalTree → Language
SpellsProposal p = called p.name ▹ (word terminals.Becomes ▹ SpellsChoice p.choice)

-- statements, with `;` between them and perhaps at the end
abbrev mutual
  pub SpellsStmt : Stmt → Language
  SpellsStmt (assign n e) = called n ▹ (word terminals.Becomes ▹ SpellsExpr 0 e)
  SpellsStmt (choose no_arm others) = empty
  SpellsStmt (choose (arm c ss more) others) =
      word terminals.If ▹ (SpellsExpr 0 c ▹ (word terminals.Then ▹ (SpellsStmts ss ▹ (SpellsArms more ▹ (SpellsAfter terminals.Else others ▹ word terminals.Fi)))))
  SpellsStmt (each x e ss) =
      word terminals.For ▹ (called x ▹ (word terminals.In ▹ (SpellsExpr 0 e ▹ (word terminals.Do ▹ (SpellsStmts ss ▹ word terminals.Od)))))

  pub SpellsStmts : Stmts → Language
  SpellsStmts stop = empty
  SpellsStmts (seq s ss) = SpellsStmt s ▹ (SpellsMore ss ▹ perhaps terminals.Semicolon)

  -- each statement after a `;`
  pub SpellsMore : Stmts → Language
  SpellsMore stop = nothing
  SpellsMore (seq s ss) = word terminals.Semicolon ▹ (SpellsStmt s ▹ SpellsMore ss)

  -- statements that a word introduces, or nothing
  pub SpellsAfter : Terminal → Stmts → Language
  SpellsAfter t stop = nothing
  SpellsAfter t (seq s ss) = word t ▹ (SpellsStmt s ▹ (SpellsMore ss ▹ perhaps terminals.Semicolon))

  -- the arms after the first
  pub SpellsArms : Arms → Language
  SpellsArms no_arm = nothing
  SpellsArms (arm c ss more) = word terminals.Elseif ▹ (SpellsExpr 0 c ▹ (word terminals.Then ▹ (SpellsStmts ss ▹ SpellsArms more)))

abbrev pub SpellsTransition : TransitionTree → Language
SpellsTransition t =
    word (kind_word t.kind) ▹ (called t.name
    ▹ (optional terminals.Pre (SpellsExpr 0) t.pre
    ▹ (optional_list terminals.Propose (separated terminals.Comma SpellsProposal) t.proposals
    ▹ SpellsAfter terminals.Eff t.effect)))

-- after the word `automaton`
abbrev pub SpellsAutomaton : AutomatonTree → Language
SpellsAutomaton a =
    called a.name ▹ (optional_list terminals.Open SpellsFields a.formals
    ▹ (word terminals.Signature ▹ (terminated terminals.Semicolon SpellsEntry a.entries
    ▹ (optional_list terminals.States (terminated terminals.Semicolon SpellsVariable) a.variables
    ▹ (word terminals.Transitions ▹ many SpellsTransition a.transitions)))))

-- ---- compositions

abbrev pub SpellsArguments : List Expr → Language
SpellsArguments es = separated terminals.Comma (SpellsExpr 0) es ▹ word terminals.Close

-- after the word `crash`
abbrev pub SpellsCrash : CrashTree → Language
SpellsCrash c = called c.crash ▹ (word terminals.Recover ▹ called c.recover)

abbrev pub SpellsInstance : InstanceTree → Language
SpellsInstance i =
    called i.name ▹ (word terminals.Colon ▹ (called i.automaton
    ▹ (optional_list terminals.Open SpellsArguments i.arguments ▹ optional terminals.Crash SpellsCrash i.crash)))

abbrev pub SpellsInstances : List InstanceTree → Language
SpellsInstances is = terminated terminals.Semicolon SpellsInstance is

-- after the word `hidden`
abbrev pub SpellsHidden : List Name → Language
SpellsHidden ns = separated terminals.Comma called ns ▹ perhaps terminals.Semicolon

-- after the word `composition`
abbrev pub SpellsComposition : CompositionTree → Language
SpellsComposition c =
    called c.name ▹ (word terminals.Components ▹ (SpellsInstances c.instances ▹ optional_list terminals.Hidden SpellsHidden c.hidden))

-- ---- types

abbrev pub SpellsForm : FormTree → Language
SpellsForm (enumeration ns) = word terminals.Enum ▹ braced called ns
SpellsForm (tuple fs) = word terminals.Tuple ▹ braced SpellsField fs
SpellsForm (sequence most of) = word terminals.Seq ▹ (single (tokens.number most) ▹ (word terminals.Of ▹ called of))

-- after the word `type`
abbrev pub SpellsType : TypeTree → Language
SpellsType t = called t.name ▹ (word terminals.Equal ▹ SpellsForm t.form)

-- ---- invariants

-- after the word `invariant`
abbrev pub SpellsInvariant : InvariantTree → Language
SpellsInvariant i =
    word terminals.Of ▹ (called i.automaton ▹ (word terminals.Colon ▹ (SpellsExpr 0 i.condition ▹ perhaps terminals.Semicolon)))

-- ---- sources

abbrev pub SpellsDeclaration : DeclarationTree → Language
SpellsDeclaration (declared_type t) = word terminals.Type ▹ SpellsType t
SpellsDeclaration (automaton a) = word terminals.Automaton ▹ SpellsAutomaton a
SpellsDeclaration (composition c) = word terminals.Composition ▹ SpellsComposition c
SpellsDeclaration (invariant i) = word terminals.Invariant ▹ SpellsInvariant i

-- These tokens, all of them, spell the source.
abbrev pub SpellsSource : SourceTree → Language
SpellsSource ds = many SpellsDeclaration ds

-- ---- beginnings

-- both are at their end, or go on with one token
abbrev pub SameHead : List Tok → List Tok → Type 0
SameHead [] [] = Unit {0}
SameHead [] (y ∷ ys) = ⊥
SameHead (x ∷ xs) [] = ⊥
SameHead (x ∷ xs) (y ∷ ys) = x ≡ y

-- No source is spelled that begins with the front and then goes on, or ends, as the rest does with its first token.
abbrev pub IsDeadEnd : List Tok → List Tok → Type 0
IsDeadEnd front rest = (others : List Tok) (t : SourceTree) → SameHead rest others → SpellsSource t (front ++ others) → ⊥
