-- What the parser does, as a function on lists of tokens: an outcome is what was read and the tokens left, or a fault.
use Rattle.std.specs.Prelude.{◌≡◌, ℕ, zero, suc, ◌-◌, ◌==◌, Bool, true, false, ◌&&◌, ◌||◌, if◌then◌else◌, find, nat_lt, nat_le, is_some, List, [], ◌∷◌, ◌++◌, length, drop, Option, Some, None, Result, Ok, Err}
use denote.Enum.Bare.{sameb}
use Rattle.ioa_value.specs.contracts.terminal.Terminal.{the_type}
use Rattle.ioa_value.specs.declared.terminal.Terminal.{Terminal}
use Rattle.ioa_value.specs.declared.terminal.Terminal.TheVariants as terminals
use Rattle.ioa_lex.specs.Tokens.{Tok, number, name, terminal}
use Rattle.ioa_lex.specs.declared.refusal.Refusal.{Refusal}
use Rattle.ioa_lex.specs.declared.refusal.Refusal.TheVariants as refusals
use Rattle.ioa_lex.specs.declared.token.Token.{Token}
use Rattle.ioa_value.specs.Actions as actions
use Rattle.ioa_value.specs.declared.operator.Op.{Op}
use Rattle.ioa_grammar.specs.declared.fault.Fault.{Fault}
use Rattle.ioa_grammar.specs.declared.fault.Fault.TheVariants.{Syntax, TooDeep}
use Rattle.ioa_grammar.specs.declared.fault.ReadError.{ReadError}
use Rattle.ioa_grammar.specs.declared.fault.ReadError.TheVariants as errors
use Rattle.ioa_tree.specs.declared.tree.Kind.{Kind}
use Rattle.ioa_tree.specs.declared.tree.Kind.TheVariants as kinds
use Rattle.ioa_tree.specs.Tree as tree
use Rattle.ioa_tree.specs.Tree.{Expr, truth, named, parens, prefix, binary, make, select, Exprs, no_expr, also, FieldTree, ConstantTree, positive, negative, truth_literal, reference, PositionTree, typed, only, EntryTree, VariableTree, ChoiceTree, exactly, any_below, ProposalTree, Stmt, assign, choose, each, Stmts, stop, seq, Arms, no_arm, arm, TransitionTree, AutomatonTree, CrashTree, InstanceTree, CompositionTree, InvariantTree, FormTree, enumeration, tuple, TypeTree, DeclarationTree, declared_type, automaton, composition, invariant, SourceTree}
use Rattle.ioa_tree.specs.Rows.{in_order, sequence, choices}
use Rattle.ioa_tree.specs.Depth.{depth_of}
use Rattle.ioa_tree.specs.declared.tree.Infix.{Infix}
use Rattle.ioa_tree.specs.declared.tree.Infix.TheVariants.{Operator}
use Rattle.ioa_grammar.specs.Operators.{infixes, prefixes, enclosing, encloses, operator_word, level_of, right_of, after_of, tightest}

abbrev pub Outcome : Type 0 → Type 0
Outcome A = Result (A × List Tok) Fault

abbrev pub Reader : Type 0 → Type 0
Reader A = List Tok → Outcome A

-- What a function returned, seen by view, with the tokens left is the outcome, unless memory ran out.
abbrev pub Fails : {Y : Type 0} → ReadError → Result Y Fault → Type 0
Fails errors.OutOfMemory read = Unit {0}
Fails (errors.Fault f) read = read ≡ Err f

abbrev pub ReadsAs : {X Y : Type 0} → (X → Y) → Outcome Y → Result X ReadError → List Tok → Type 0
ReadsAs view read (Ok x) left = read ≡ Ok (view x, left)
ReadsAs view read (Err e) left = Fails e read

infixl 10 ◌>>=◌
abbrev pub ◌>>=◌ : {A B : Type 0} → Result A Fault → (A → Result B Fault) → Result B Fault
(Ok x) >>= f = f x
(Err e) >>= f = Err e

-- one after the other
infixr 12 ◌▸◌
abbrev pub ◌▸◌ : {A B : Type 0} → Reader A → Reader B → Reader (A × B)
p ▸ q = λ ts. p ts >>= λ x. q x.1 >>= λ y. Ok ((x.0, y.0), y.1)

abbrev pub built : {A B : Type 0} → (A → B) → Reader A → Reader B
built f p = λ ts. p ts >>= λ x. Ok (f x.0, x.1)

-- ---- single tokens

unfoldable pub same_terminal : Terminal → Terminal → Bool
same_terminal = sameb the_type

abbrev pub is_terminal : Terminal → Tok → Bool
is_terminal t (number n) = false
is_terminal t (name n) = false
is_terminal t (terminal u) = same_terminal u t

abbrev pub terminal_in : Tok → Option Terminal
terminal_in (number n) = None
terminal_in (name n) = None
terminal_in (terminal t) = Some t

-- the word or sign that comes next
unfoldable pub terminal_at : List Tok → Option Terminal
terminal_at [] = None
terminal_at (x ∷ ts) = terminal_in x

-- the next token is this word or sign
unfoldable pub sees : Terminal → List Tok → Bool
sees t [] = false
sees t (x ∷ ts) = is_terminal t x

abbrev pub rest : List Tok → List Tok
rest [] = []
rest (x ∷ ts) = ts

-- what is left after it, where it comes next
unfoldable pub after : Terminal → List Tok → List Tok
after t ts = if sees t ts then rest ts else ts

unfoldable pub sign : Terminal → Reader (Unit {0})
sign t ts = if sees t ts then Ok (tt, rest ts) else Err (Syntax (length ts))

unfoldable pub a_name : Reader actions.Name
a_name [] = Err (Syntax 0)
a_name (number n ∷ ts) = Err (Syntax (length (number n ∷ ts)))
a_name (name n ∷ ts) = Ok (n, ts)
a_name (terminal t ∷ ts) = Err (Syntax (length (terminal t ∷ ts)))

unfoldable pub a_number : Reader ℕ
a_number [] = Err (Syntax 0)
a_number (number n ∷ ts) = Ok (n, ts)
a_number (name n ∷ ts) = Err (Syntax (length (name n ∷ ts)))
a_number (terminal t ∷ ts) = Err (Syntax (length (terminal t ∷ ts)))

unfoldable pub kind_of : Terminal → Option Kind
kind_of terminals.Input = Some kinds.Input
kind_of terminals.Output = Some kinds.Output
kind_of terminals.Internal = Some kinds.Internal
kind_of _ = None

abbrev pub kind_in : Option Terminal → Option Kind
kind_in None = None
kind_in (Some t) = kind_of t

-- the kind that the next token names
unfoldable pub kind_at : List Tok → Option Kind
kind_at ts = kind_in (terminal_at ts)

abbrev pub taken : {A : Type 0} → List Tok → Option A → Outcome A
taken ts None = Err (Syntax (length ts))
taken ts (Some x) = Ok (x, rest ts)

unfoldable pub a_kind : Reader Kind
a_kind ts = taken ts (kind_at ts)

-- ---- what may be absent, and lists

-- what the word or sign introduces, where that comes next
unfoldable pub optional : {A : Type 0} → Terminal → Reader A → Reader (Option A)
optional t p ts = if sees t ts then built Some p (after t ts) else Ok (None, after t ts)

-- the same of a list, which is empty where it is absent
unfoldable pub optional_list : {A : Type 0} → Terminal → Reader (List A) → Reader (List A)
optional_list t p ts = if sees t ts then p (after t ts) else Ok ([], after t ts)

-- Items with a separator between, as long as the tokens after it go on: at most so many more, after those found.
unfoldable pub items_from : {A : Type 0} → (List Tok → Bool) → Terminal → Reader A → ℕ → List A → Reader (List A)
items_from goes_on separator item zero found ts = Err (Syntax (length ts))
items_from goes_on separator item (suc n) found ts =
    item ts >>= λ x. if sees separator x.1 && goes_on (after separator x.1) then items_from goes_on separator item n (found ++ x.0 ∷ []) (after separator x.1) else Ok (found ++ x.0 ∷ [], after separator x.1)

abbrev pub always : List Tok → Bool
always ts = true

-- after a separator another item has to follow
unfoldable pub separated : {A : Type 0} → Terminal → Reader A → Reader (List A)
separated separator item ts = items_from always separator item (length ts) [] ts

-- after a separator another item follows where the tokens begin one
unfoldable pub terminated : {A : Type 0} → (List Tok → Bool) → Terminal → Reader A → Reader (List A)
terminated begins separator item ts = items_from begins separator item (length ts) [] ts

-- what stands between parentheses, after the first of them
unfoldable pub closing : {A : Type 0} → Reader A → Reader A
closing p = built (λ p. p.0) (p ▸ sign terminals.Close)

-- what stands between parentheses
unfoldable pub enclosed : {A : Type 0} → Reader A → Reader A
enclosed p = built (λ p. p.1) (sign terminals.Open ▸ closing p)

-- one item or more between braces
unfoldable pub braced : {A : Type 0} → Reader A → Reader (List A)
braced p = built (λ p. p.1.0) (sign terminals.OpenBrace ▸ (separated terminals.Comma p ▸ sign terminals.CloseBrace))

-- this word or sign, where it comes next
unfoldable pub perhaps : Terminal → Reader (Unit {0})
perhaps t ts = Ok (tt, after t ts)

-- items as long as the tokens begin one
unfoldable pub many_from : {A : Type 0} → (List Tok → Bool) → Reader A → ℕ → List A → Reader (List A)
many_from begins item zero found ts = Ok (found, ts)
many_from begins item (suc n) found ts = if begins ts then (item ts >>= λ x. many_from begins item n (found ++ x.0 ∷ []) x.1) else Ok (found, ts)

unfoldable pub many : {A : Type 0} → (List Tok → Bool) → Reader A → Reader (List A)
many begins item ts = many_from begins item (length ts) [] ts

abbrev pub is_name : Tok → Bool
is_name (number n) = false
is_name (name n) = true
is_name (terminal t) = false

unfoldable pub sees_name : List Tok → Bool
sees_name [] = false
sees_name (x ∷ ts) = is_name x

unfoldable pub sees_kind : List Tok → Bool
sees_kind ts = is_some (kind_at ts)

-- ---- expressions

-- what stands between two expressions and is written so
unfoldable pub operator_of : Terminal → Option Infix
operator_of t = find (λ o. same_terminal (operator_word o) t) infixes

-- the operator that stands before an expression and is written so
unfoldable pub prefix_of : Terminal → Option Op
prefix_of t = find (λ o. same_terminal (operator_word (Operator o)) t) prefixes

abbrev pub operator_in : Option Terminal → Option Infix
operator_in None = None
operator_in (Some t) = operator_of t

abbrev pub prefix_in : Option Terminal → Option Op
prefix_in None = None
prefix_in (Some t) = prefix_of t

-- the next token as an operator before an expression
unfoldable pub prefix_at : List Tok → Option Op
prefix_at ts = prefix_in (terminal_at ts)

abbrev pub allowed : ℕ → ℕ → Option Infix → Option Infix
allowed least below None = None
allowed least below (Some o) = if nat_le least (level_of o) && nat_lt (level_of o) below then Some o else None

-- the next token as an operator of a level from least on and below the other
unfoldable pub operator_at : ℕ → ℕ → List Tok → Option Infix
operator_at least below ts = allowed least below (operator_in (terminal_at ts))

-- the operator that is written around expressions with this word
unfoldable pub around_of : Terminal → Option Op
around_of t = find (λ o. same_terminal (operator_word (Operator o)) t) enclosing

-- how an operand begins: all of a number, a truth value or a name, and else the sign or word that comes first
pub data Start : Type 0 where
  with_number : ℕ → Start
  with_truth : Bool → Start
  with_name : actions.Name → Start
  with_open : Start
  with_empty : Start
  with_operator : Op → Start

abbrev pub around_start : Option Op → Option Start
around_start None = None
around_start (Some o) = Some (with_operator o)

unfoldable pub start_of : Terminal → Option Start
start_of terminals.True = Some (with_truth true)
start_of terminals.False = Some (with_truth false)
start_of terminals.Open = Some with_open
start_of terminals.Empty = Some with_empty
start_of t = around_start (around_of t)

abbrev pub start_in : Tok → Option Start
start_in (number n) = Some (with_number n)
start_in (name n) = Some (with_name n)
start_in (terminal t) = start_of t

unfoldable pub start_at : List Tok → Option Start
start_at [] = None
start_at (x ∷ ts) = start_in x

-- after the word of an operator that is written around one expression, or around two
unfoldable pub around_one : Reader Expr → Op → Reader Expr
around_one inner o = built (prefix o) (enclosed inner)

unfoldable pub around_two : Reader Expr → Op → Reader Expr
around_two inner o = built (λ p. binary p.0 (Operator o) p.1.1) (enclosed (inner ▸ (sign terminals.Comma ▸ inner)))

unfoldable pub around : Reader Expr → Op → Reader Expr
around inner o ts = if encloses (Operator o) == 1 then around_one inner o ts else around_two inner o ts

-- after the word `empty`
unfoldable pub an_empty : Reader Expr
an_empty = built tree.empty (enclosed a_name)

-- after a name: fields in parentheses make a tuple of the type of this name
unfoldable pub after_name : Reader Expr → actions.Name → Reader Expr
after_name inner n ts =
    if sees terminals.Open ts then built (λ es. make n (in_order es)) (closing (separated terminals.Comma inner)) (after terminals.Open ts) else Ok (named n, after terminals.Open ts)

-- the rest of a primary that begins so
abbrev pub operand_after : Reader Expr → Start → Reader Expr
operand_after inner (with_number n) ts = Ok (tree.number n, ts)
operand_after inner (with_truth b) ts = Ok (truth b, ts)
operand_after inner (with_name n) ts = after_name inner n ts
operand_after inner with_open ts = built parens (closing inner) ts
operand_after inner with_empty ts = an_empty ts
operand_after inner (with_operator o) ts = around inner o ts

-- what comes after the first token, as that says
abbrev pub begun : {A B : Type 0} → (A → Reader B) → List Tok → Option A → Outcome B
begun p ts None = Err (Syntax (length ts))
begun p ts (Some x) = p x (rest ts)

-- a primary, whose inner expressions are read so
unfoldable pub primary : Reader Expr → Reader Expr
primary inner ts = begun (operand_after inner) ts (start_at ts)

-- fields of an expression of at most depth levels, and so on: at most so many
module _ (depth : ℕ) where
  unfoldable pub fields_from : ℕ → Expr → Reader Expr
  fields_from zero e ts = if sees terminals.Dot ts then Err TooDeep else Ok (e, after terminals.Dot ts)
  fields_from (suc n) e ts =
      if sees terminals.Dot ts then (if nat_le (depth_of e) depth then (a_name (after terminals.Dot ts) >>= λ p. fields_from n (select e p.0) p.1) else Err TooDeep) else Ok (e, after terminals.Dot ts)

-- an operand, whose inner expressions are of at most depth levels and are read so
unfoldable pub operand : ℕ → Reader Expr → Reader Expr
operand depth inner ts = primary inner ts >>= λ p. fields_from depth depth p.0 p.1

-- expr: an expression of at most depth levels, at the level that it is given
module _ (depth : ℕ) (expr : ℕ → Reader Expr) where
  abbrev pub climb_by : (ℕ → Expr → Reader Expr) → Expr → List Tok → Option Infix → Outcome Expr
  climb_by more left ts None = Ok (left, ts)
  climb_by more left ts (Some o) =
      if nat_le (depth_of left) depth then (expr (right_of o) (rest ts) >>= λ q. more (after_of o) (binary left o q.0) q.1) else Err TooDeep

  abbrev pub stop_by : Expr → List Tok → Option Infix → Outcome Expr
  stop_by left ts None = Ok (left, ts)
  stop_by left ts (Some o) = Err TooDeep

  -- more operators, at most so many
  unfoldable pub climb : ℕ → ℕ → ℕ → Expr → Reader Expr
  climb zero least below left ts = stop_by left ts (operator_at least below ts)
  climb (suc n) least below left ts = climb_by (climb n least) left ts (operator_at least below ts)

-- At the end of the tokens there is no expression of any depth.
abbrev pub no_depth : Reader Expr
no_depth [] = Err (Syntax 0)
no_depth (x ∷ ts) = Err TooDeep

-- what an expression begins with: an operator and its operand, where the operator's level is from least on, or an operand
-- without one; the number bounds the level of the operators that may follow
abbrev pub first_by : ℕ → ℕ → (ℕ → Reader Expr) → List Tok → Option Op → Outcome (Expr × ℕ)
first_by depth least expr ts None = built (λ e. (e, tightest)) (operand depth (expr 0)) ts
first_by depth least expr ts (Some o) =
    if nat_le least (level_of (Operator o)) then built (λ e. (prefix o e, after_of (Operator o))) (expr (right_of (Operator o))) (rest ts) else Err (Syntax (length ts))

unfoldable pub first : ℕ → ℕ → (ℕ → Reader Expr) → Reader (Expr × ℕ)
first depth least expr ts = first_by depth least expr ts (prefix_at ts)

unfoldable pub expr : ℕ → ℕ → Reader Expr
expr zero least ts = no_depth ts
expr (suc depth) least ts = first depth least (expr depth) ts >>= λ p. climb depth (expr depth) depth least p.0.1 p.0.0 p.1

unfoldable pub expression : ℕ → Reader Expr
expression depth = expr depth 0

-- ---- declarations. The number bounds the depth of their expressions and of their statements.

unfoldable pub field : Reader FieldTree
field = built (λ p. record { name = p.0; ty = p.1.1 }) (a_name ▸ (sign terminals.Colon ▸ a_name))

unfoldable pub fields : Reader (List FieldTree)
fields = closing (separated terminals.Comma field)

unfoldable pub literal_of : Terminal → Option ConstantTree
literal_of terminals.True = Some (truth_literal true)
literal_of terminals.False = Some (truth_literal false)
literal_of _ = None

abbrev pub literal_in : Tok → Option ConstantTree
literal_in (number n) = Some (positive n)
literal_in (name n) = Some (reference n)
literal_in (terminal t) = literal_of t

-- the constant that is written with the next token alone
unfoldable pub literal_at : List Tok → Option ConstantTree
literal_at [] = None
literal_at (x ∷ ts) = literal_in x

unfoldable pub literal : Reader ConstantTree
literal ts = taken ts (literal_at ts)

-- after the word `const`
unfoldable pub a_constant : Reader ConstantTree
a_constant ts = if sees terminals.Minus ts then built negative a_number (after terminals.Minus ts) else literal (after terminals.Minus ts)

unfoldable pub position : Reader PositionTree
position ts = if sees terminals.Const ts then built only a_constant (after terminals.Const ts) else built typed field (after terminals.Const ts)

unfoldable pub positions : Reader (List PositionTree)
positions = closing (separated terminals.Comma position)

unfoldable pub entry : Reader EntryTree
entry = built (λ p. record { kind = p.0; name = p.1.0; positions = p.1.1 }) (a_kind ▸ (a_name ▸ optional_list terminals.Open positions))

unfoldable pub entries : Reader (List EntryTree)
entries = terminated sees_kind terminals.Semicolon entry

-- whether the word comes next
unfoldable pub flag : Terminal → Reader Bool
flag t ts = Ok (sees t ts, after t ts)

unfoldable pub variable : ℕ → Reader VariableTree
variable depth =
    built (λ p. record { stable = p.0; field = p.1.0; start = p.1.1 }) (flag terminals.Stable ▸ (field ▸ optional terminals.Becomes (expression depth)))

-- the next token begins a variable
unfoldable pub sees_variable : List Tok → Bool
sees_variable ts = sees_name ts || sees terminals.Stable ts

unfoldable pub variables : ℕ → Reader (List VariableTree)
variables depth = terminated sees_variable terminals.Semicolon (variable depth)

unfoldable pub a_choice : ℕ → Reader ChoiceTree
a_choice depth ts =
    if sees terminals.Any ts then built any_below (enclosed (expression depth)) (after terminals.Any ts) else built exactly (expression depth) (after terminals.Any ts)

unfoldable pub proposal : ℕ → Reader ProposalTree
proposal depth = built (λ p. record { name = p.0; choice = p.1.1 }) (a_name ▸ (sign terminals.Becomes ▸ a_choice depth))

unfoldable pub proposals : ℕ → Reader (List ProposalTree)
proposals depth = separated terminals.Comma (proposal depth)

unfoldable pub assignment : ℕ → Reader Stmt
assignment depth = built (λ p. assign p.0 p.1.1) (a_name ▸ (sign terminals.Becomes ▸ expression depth))

-- the next token begins a statement
unfoldable pub sees_statement : List Tok → Bool
sees_statement ts = sees_name ts || (sees terminals.If ts || sees terminals.For ts)

-- statements that are read so, in sequence
unfoldable pub in_sequence : Reader Stmt → Reader Stmts
in_sequence one = built sequence (terminated sees_statement terminals.Semicolon one)

-- what a word introduces, where that comes next
unfoldable pub introduced : Terminal → Reader Stmts → Reader Stmts
introduced t p ts = if sees t ts then p (after t ts) else Ok (stop, after t ts)

-- after `if` or `elseif`
unfoldable pub an_arm : ℕ → Reader Stmts → Reader (Expr × Stmts)
an_arm depth inner = built (λ p. (p.0, p.1.1)) (expression depth ▸ (sign terminals.Then ▸ inner))

unfoldable pub more_arms : ℕ → Reader Stmts → Reader (List (Expr × Stmts))
more_arms depth inner = many (sees terminals.Elseif) (built (λ p. p.1) (sign terminals.Elseif ▸ an_arm depth inner))

-- after `if`, with the statements of arms read so
unfoldable pub choice : ℕ → Reader Stmts → Reader Stmt
choice depth inner =
    built (λ p. choose (arm p.0.0 p.0.1 (choices p.1.0)) p.1.1.0)
    (an_arm depth inner ▸ (more_arms depth inner ▸ (introduced terminals.Else inner ▸ sign terminals.Fi)))

-- after `for`, with the statements of the body read so
unfoldable pub a_loop : ℕ → Reader Stmts → Reader Stmt
a_loop depth inner =
    built (λ p. each p.0 p.1.1.0 p.1.1.1.1.0)
    (a_name ▸ (sign terminals.In ▸ (expression depth ▸ (sign terminals.Do ▸ (inner ▸ sign terminals.Od)))))

-- all but a choice
unfoldable pub unconditional : ℕ → Reader Stmts → Reader Stmt
unconditional depth inner ts = if sees terminals.For ts then a_loop depth inner (after terminals.For ts) else assignment depth (after terminals.For ts)

-- At the end of the tokens there is no statement of any depth.
abbrev pub no_statement : Reader Stmt
no_statement [] = Err (Syntax 0)
no_statement (x ∷ ts) = Err TooDeep

-- a statement of at most so many levels, whose expressions have at most depth levels
unfoldable pub statement : ℕ → ℕ → Reader Stmt
statement depth zero ts = no_statement ts
statement depth (suc levels) ts =
    if sees terminals.If ts then choice depth (in_sequence (statement depth levels)) (after terminals.If ts)
    else unconditional depth (in_sequence (statement depth levels)) (after terminals.If ts)

unfoldable pub statements : ℕ → Reader Stmts
statements depth = in_sequence (statement depth depth)

unfoldable pub transition : ℕ → Reader TransitionTree
transition depth =
    built (λ p. record { kind = p.0; name = p.1.0; pre = p.1.1.0; proposals = p.1.1.1.0; effect = p.1.1.1.1 })
    (a_kind ▸ (a_name ▸ (optional terminals.Pre (expression depth) ▸ (optional_list terminals.Propose (proposals depth) ▸ introduced terminals.Eff (statements depth)))))

unfoldable pub transitions : ℕ → Reader (List TransitionTree)
transitions depth = many sees_kind (transition depth)

-- after the word `automaton`
unfoldable pub an_automaton : ℕ → Reader AutomatonTree
an_automaton depth =
    built (λ p. record { name = p.0; formals = p.1.0; entries = p.1.1.1.0; variables = p.1.1.1.1.0; transitions = p.1.1.1.1.1.1 })
    (a_name ▸ (optional_list terminals.Open fields ▸ (sign terminals.Signature ▸ (entries ▸ (optional_list terminals.States (variables depth) ▸ (sign terminals.Transitions ▸ transitions depth))))))

unfoldable pub arguments : ℕ → Reader (List Expr)
arguments depth = closing (separated terminals.Comma (expression depth))

-- after the word `crash`
unfoldable pub a_crash : Reader CrashTree
a_crash = built (λ p. record { crash = p.0; recover = p.1.1 }) (a_name ▸ (sign terminals.Recover ▸ a_name))

unfoldable pub instance : ℕ → Reader InstanceTree
instance depth =
    built (λ p. record { name = p.0; automaton = p.1.1.0; arguments = p.1.1.1.0; crash = p.1.1.1.1 })
    (a_name ▸ (sign terminals.Colon ▸ (a_name ▸ (optional_list terminals.Open (arguments depth) ▸ optional terminals.Crash a_crash))))

unfoldable pub instances : ℕ → Reader (List InstanceTree)
instances depth = terminated sees_name terminals.Semicolon (instance depth)

-- after the word `hidden`
unfoldable pub hidden_names : Reader (List actions.Name)
hidden_names = built (λ p. p.0) (separated terminals.Comma a_name ▸ perhaps terminals.Semicolon)

-- after the word `composition`
unfoldable pub a_composition : ℕ → Reader CompositionTree
a_composition depth =
    built (λ p. record { name = p.0; instances = p.1.1.0; hidden = p.1.1.1 })
    (a_name ▸ (sign terminals.Components ▸ (instances depth ▸ optional_list terminals.Hidden hidden_names)))

unfoldable pub composed : ℕ → Reader DeclarationTree
composed depth = built (λ p. composition p.1) (sign terminals.Composition ▸ a_composition depth)

-- after the words `enum`, `tuple` and `seq`
unfoldable pub an_enumeration : Reader FormTree
an_enumeration = built enumeration (braced a_name)

unfoldable pub a_tuple : Reader FormTree
a_tuple = built tuple (braced field)

unfoldable pub a_sequence : Reader FormTree
a_sequence = built (λ p. tree.sequence p.0 p.1.1) (a_number ▸ (sign terminals.Of ▸ a_name))

unfoldable pub sequence_form : Reader FormTree
sequence_form = built (λ p. p.1) (sign terminals.Seq ▸ a_sequence)

unfoldable pub compound_form : Reader FormTree
compound_form ts = if sees terminals.Tuple ts then a_tuple (after terminals.Tuple ts) else sequence_form (after terminals.Tuple ts)

unfoldable pub type_form : Reader FormTree
type_form ts = if sees terminals.Enum ts then an_enumeration (after terminals.Enum ts) else compound_form (after terminals.Enum ts)

-- after the word `type`
unfoldable pub a_type : Reader TypeTree
a_type = built (λ p. record { name = p.0; form = p.1.1 }) (a_name ▸ (sign terminals.Equal ▸ type_form))

-- after the word `invariant`
unfoldable pub an_invariant : ℕ → Reader InvariantTree
an_invariant depth =
    built (λ p. record { automaton = p.1.0; condition = p.1.1.1.0 })
    (sign terminals.Of ▸ (a_name ▸ (sign terminals.Colon ▸ (expression depth ▸ perhaps terminals.Semicolon))))

-- an automaton or a composition
unfoldable pub machine : ℕ → Reader DeclarationTree
machine depth ts =
    if sees terminals.Automaton ts then built automaton (an_automaton depth) (after terminals.Automaton ts) else composed depth (after terminals.Automaton ts)

-- all but a type
unfoldable pub about_machines : ℕ → Reader DeclarationTree
about_machines depth ts =
    if sees terminals.Invariant ts then built invariant (an_invariant depth) (after terminals.Invariant ts) else machine depth (after terminals.Invariant ts)

unfoldable pub declaration : ℕ → Reader DeclarationTree
declaration depth ts =
    if sees terminals.Type ts then built declared_type a_type (after terminals.Type ts) else about_machines depth (after terminals.Type ts)

-- ---- sources. A refusal names a line: lines gives that of the token before whose end so many tokens are left.

abbrev pub refusal_of : (ℕ → ℕ) → ℕ → Fault → Refusal
refusal_of lines first (Syntax left) = refusals.Syntax (lines left)
refusal_of lines first TooDeep = refusals.TooDeep (lines first)

abbrev pub RefusedBy : (ℕ → ℕ) → ℕ → ReadError → Refusal → Type 0
RefusedBy lines first errors.OutOfMemory r = r ≡ refusals.OutOfMemory
RefusedBy lines first (errors.Fault f) r = r ≡ refusal_of lines first f

module _ (depth : ℕ) (lines : ℕ → ℕ) where
  abbrev pub declared_by : (DeclarationTree → List Tok → Result SourceTree Refusal) → ℕ → Outcome DeclarationTree → Result SourceTree Refusal
  declared_by more first (Ok p) = more p.0 p.1
  declared_by more first (Err f) = Err (refusal_of lines first f)

  -- declarations up to the end of the tokens: at most so many more, after those found
  unfoldable pub source_from : ℕ → SourceTree → List Tok → Result SourceTree Refusal
  source_from n found [] = Ok found
  source_from zero found (x ∷ ts) = Ok found
  source_from (suc n) found (x ∷ ts) = declared_by (λ d left. source_from n (found ++ d ∷ []) left) (length (x ∷ ts)) (declaration depth (x ∷ ts))

  unfoldable pub source : List Tok → Result SourceTree Refusal
  source ts = source_from (length ts) [] ts

-- What a function returned, as a source, unless memory ran out.
abbrev pub Refuses : Refusal → Result SourceTree Refusal → Type 0
Refuses refusals.OutOfMemory read = Unit {0}
Refuses e read = read ≡ Err e

abbrev pub ReturnsSource : {X : Type 0} → (X → SourceTree) → Result X Refusal → Result SourceTree Refusal → Type 0
ReturnsSource view (Ok x) read = read ≡ Ok (view x)
ReturnsSource view (Err e) read = Refuses e read

-- the line of the first token, or of the end
abbrev pub line_of : ℕ → List Token → ℕ
line_of end [] = end
line_of end (t ∷ ts) = t.line

-- the line of the token where so many are left
abbrev pub line_at : List Token → ℕ → ℕ → ℕ
line_at tokens end left = line_of end (drop (length tokens - left) tokens)
