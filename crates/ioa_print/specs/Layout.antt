-- The text that `print` writes: after each token stands a space, or LF at the end of a line.
use Rattle.std.specs.Prelude.{ℕ, Bool, true, false, if◌then◌else◌, List, [], ◌∷◌, ◌++◌, Option, Some, None}
use Rattle.std.specs.List.{flat_map}
use Rattle.std.specs.Fmt.{decimal}
use Rattle.ioa_value.specs.declared.terminal.Terminal.{Terminal}
use Rattle.ioa_value.specs.declared.terminal.Terminal.TheVariants as terminals
use Rattle.ioa_value.specs.Spelling.{spelling_of}
use Rattle.ioa_value.specs.Actions.{Name}
use Rattle.ioa_tree.specs.Tree as tree
use Rattle.ioa_tree.specs.Tree.{Expr, truth, named, parens, prefix, binary, make, select, Exprs, no_expr, also, FieldTree, ConstantTree, positive, negative, truth_literal, reference, PositionTree, typed, only, EntryTree, VariableTree, ChoiceTree, exactly, any_below, ProposalTree, Stmt, assign, choose, each, Stmts, stop, seq, Arms, no_arm, arm, TransitionTree, AutomatonTree, CrashTree, InstanceTree, CompositionTree, InvariantTree, FormTree, enumeration, tuple, sequence, TypeTree, DeclarationTree, declared_type, automaton, composition, invariant, SourceTree}
use Rattle.ioa_tree.specs.declared.tree.Infix.TheVariants.{Operator}
use Rattle.ioa_grammar.specs.Operators.{operator_word, stands_around}
use Rattle.ioa_grammar.specs.Grammar.{kind_word}

abbrev pub space : ℕ
space = 32

abbrev pub line : ℕ
line = 10

-- a word or sign, a name and a number, each with the byte after it
abbrev pub text_word : ℕ → Terminal → List ℕ
text_word b t = spelling_of t ++ b ∷ []

abbrev pub text_name : ℕ → Name → List ℕ
text_name b n = n ++ b ∷ []

abbrev pub text_number : ℕ → ℕ → List ℕ
text_number b n = decimal n ++ b ∷ []

-- ---- lists

-- the separator and an item, for each item
abbrev pub text_more : {A : Type 0} → Terminal → (A → List ℕ) → List A → List ℕ
text_more t f xs = flat_map (λ x. text_word space t ++ f x) xs

abbrev pub text_list : {A : Type 0} → Terminal → (A → List ℕ) → List A → List ℕ
text_list t f [] = []
text_list t f (x ∷ xs) = f x ++ text_more t f xs

-- each item
unfoldable pub text_all : {A : Type 0} → (A → List ℕ) → List A → List ℕ
text_all f xs = flat_map f xs

-- a list after its word, or nothing
abbrev pub text_optional_list : {A : Type 0} → List ℕ → (List A → List ℕ) → List A → List ℕ
text_optional_list w f [] = []
text_optional_list w f (x ∷ xs) = w ++ f (x ∷ xs)

-- a list in parentheses, at the end of a line
abbrev pub text_parens : {A : Type 0} → (A → List ℕ) → List A → List ℕ
text_parens f xs = text_optional_list (text_word space terminals.Open) (λ xs. text_list terminals.Comma f xs ++ text_word line terminals.Close) xs

-- what stands before a part that may be absent: a space, and else the end of the line
abbrev pub before_list : {A : Type 0} → List A → ℕ
before_list [] = line
before_list (x ∷ xs) = space

abbrev pub before_option : {A : Type 0} → Option A → ℕ
before_option None = line
before_option (Some x) = space

-- the word where it is so, and nothing where it is not
abbrev pub text_flag : Terminal → Bool → List ℕ
text_flag t true = text_word space t
text_flag t false = []

-- ---- expressions, with the byte after the last token

-- between parentheses
abbrev pub text_enclosed : ℕ → List ℕ → List ℕ
text_enclosed b text = text_word space terminals.Open ++ (text ++ text_word b terminals.Close)

abbrev mutual
  pub text_expr : ℕ → Expr → List ℕ
  text_expr b (tree.number n) = text_number b n
  text_expr b (truth true) = text_word b terminals.True
  text_expr b (truth false) = text_word b terminals.False
  text_expr b (named n) = text_name b n
  text_expr b (parens e) = text_enclosed b (text_expr space e)
  text_expr b (prefix o e) =
      text_word space (operator_word (Operator o)) ++ (if stands_around (Operator o) then text_enclosed b (text_expr space e) else text_expr b e)
  text_expr b (binary l o r) =
      if stands_around o
      then text_word space (operator_word o) ++ text_enclosed b (text_expr space l ++ (text_word space terminals.Comma ++ text_expr space r))
      else text_expr space l ++ (text_word space (operator_word o) ++ text_expr b r)
  text_expr b (tree.empty n) = text_word space terminals.Empty ++ text_enclosed b (text_name space n)
  text_expr b (make n es) = text_name space n ++ text_enclosed b (text_exprs es)
  text_expr b (select e n) = text_expr space e ++ (text_word space terminals.Dot ++ text_name b n)

  -- with commas between them
  pub text_exprs : Exprs → List ℕ
  text_exprs no_expr = []
  text_exprs (also e es) = text_expr space e ++ text_others es

  -- a comma and an expression, for each expression
  pub text_others : Exprs → List ℕ
  text_others no_expr = []
  text_others (also e es) = text_word space terminals.Comma ++ (text_expr space e ++ text_others es)

abbrev pub text_option : List ℕ → Option Expr → List ℕ
text_option w None = []
text_option w (Some e) = w ++ text_expr line e

-- ---- automata

abbrev pub text_field : ℕ → FieldTree → List ℕ
text_field b f = text_name space f.name ++ (text_word space terminals.Colon ++ text_name b f.ty)

abbrev pub text_constant : ConstantTree → List ℕ
text_constant (positive n) = text_number space n
text_constant (negative n) = text_word space terminals.Minus ++ text_number space n
text_constant (truth_literal true) = text_word space terminals.True
text_constant (truth_literal false) = text_word space terminals.False
text_constant (reference x) = text_name space x

abbrev pub text_position : PositionTree → List ℕ
text_position (typed f) = text_field space f
text_position (only c) = text_word space terminals.Const ++ text_constant c

abbrev pub text_entry : EntryTree → List ℕ
text_entry e = text_word space (kind_word e.kind) ++ (text_name (before_list e.positions) e.name ++ text_parens text_position e.positions)

abbrev pub text_variable : VariableTree → List ℕ
text_variable v = text_flag terminals.Stable v.stable ++ (text_field (before_option v.start) v.field ++ text_option (text_word space terminals.Becomes) v.start)

abbrev pub text_choice : ChoiceTree → List ℕ
text_choice (exactly e) = text_expr line e
text_choice (any_below e) = text_word space terminals.Any ++ text_enclosed line (text_expr space e)

abbrev pub text_proposal : ProposalTree → List ℕ
text_proposal p = text_name space p.name ++ (text_word space terminals.Becomes ++ text_choice p.choice)

abbrev pub text_assignment : Name → Expr → List ℕ
text_assignment n e = text_name space n ++ (text_word space terminals.Becomes ++ text_expr line e)

abbrev mutual
  pub text_stmt : Stmt → List ℕ
  text_stmt (assign n e) = text_assignment n e
  text_stmt (choose no_arm others) = []
  text_stmt (choose (arm c ss more) others) =
      text_word space terminals.If ++ (text_expr space c ++ (text_word line terminals.Then
      ++ (text_stmts ss ++ (text_arms more ++ (text_after (text_word line terminals.Else) others ++ text_word line terminals.Fi)))))
  text_stmt (each x e ss) =
      text_word space terminals.For ++ (text_name space x ++ (text_word space terminals.In ++ (text_expr space e
      ++ (text_word line terminals.Do ++ (text_stmts ss ++ text_word line terminals.Od)))))

  pub text_stmts : Stmts → List ℕ
  text_stmts stop = []
  text_stmts (seq s ss) = text_stmt s ++ text_more_stmts ss

  -- the separator and a statement, for each statement
  pub text_more_stmts : Stmts → List ℕ
  text_more_stmts stop = []
  text_more_stmts (seq s ss) = text_word space terminals.Semicolon ++ (text_stmt s ++ text_more_stmts ss)

  -- statements after their word, or nothing
  pub text_after : List ℕ → Stmts → List ℕ
  text_after w stop = []
  text_after w (seq s ss) = w ++ (text_stmt s ++ text_more_stmts ss)

  -- the arms after the first
  pub text_arms : Arms → List ℕ
  text_arms no_arm = []
  text_arms (arm c ss more) =
      text_word space terminals.Elseif ++ (text_expr space c ++ (text_word line terminals.Then ++ (text_stmts ss ++ text_arms more)))

abbrev pub text_transition : TransitionTree → List ℕ
text_transition t =
    text_word space (kind_word t.kind) ++ (text_name line t.name
    ++ (text_option (text_word space terminals.Pre) t.pre
    ++ (text_optional_list (text_word space terminals.Propose) (text_list terminals.Comma text_proposal) t.proposals
    ++ text_after (text_word space terminals.Eff) t.effect)))

-- up to the entries, and after them
abbrev pub text_signature : AutomatonTree → List ℕ
text_signature a =
    text_name (before_list a.formals) a.name ++ (text_parens (text_field space) a.formals
    ++ (text_word line terminals.Signature ++ text_list terminals.Semicolon text_entry a.entries))

abbrev pub text_behaviour : AutomatonTree → List ℕ
text_behaviour a =
    text_optional_list (text_word line terminals.States) (text_list terminals.Semicolon text_variable) a.variables
    ++ (text_word line terminals.Transitions ++ text_all text_transition a.transitions)

abbrev pub text_automaton : AutomatonTree → List ℕ
text_automaton a = text_signature a ++ text_behaviour a

-- ---- types

-- a list in braces, at the end of a line
abbrev pub text_braces : {A : Type 0} → (A → List ℕ) → List A → List ℕ
text_braces f xs = text_word space terminals.OpenBrace ++ (text_list terminals.Comma f xs ++ text_word line terminals.CloseBrace)

abbrev pub text_form : FormTree → List ℕ
text_form (enumeration ns) = text_word space terminals.Enum ++ text_braces (text_name space) ns
text_form (tuple fs) = text_word space terminals.Tuple ++ text_braces (text_field space) fs
text_form (sequence most of) = text_word space terminals.Seq ++ (text_number space most ++ (text_word space terminals.Of ++ text_name line of))

abbrev pub text_type : TypeTree → List ℕ
text_type t = text_name space t.name ++ (text_word space terminals.Equal ++ text_form t.form)

-- ---- compositions, invariants and sources

-- crash and recover, on a line, or nothing
abbrev pub text_crash : Option CrashTree → List ℕ
text_crash None = []
text_crash (Some c) = text_word space terminals.Crash ++ (text_name space c.crash ++ (text_word space terminals.Recover ++ text_name line c.recover))

abbrev pub text_instance : InstanceTree → List ℕ
text_instance i =
    text_name space i.name ++ (text_word space terminals.Colon
    ++ (text_name (before_list i.arguments) i.automaton ++ (text_parens (text_expr space) i.arguments ++ text_crash i.crash)))

-- names after their word, each on a line, or nothing
abbrev pub text_hidden : List Name → List ℕ
text_hidden ns = text_optional_list (text_word space terminals.Hidden) (text_list terminals.Comma (text_name line)) ns

abbrev pub text_composition : CompositionTree → List ℕ
text_composition c =
    text_name space c.name ++ (text_word line terminals.Components ++ (text_list terminals.Semicolon text_instance c.instances ++ text_hidden c.hidden))

abbrev pub text_invariant : InvariantTree → List ℕ
text_invariant i = text_word space terminals.Of ++ (text_name space i.automaton ++ (text_word space terminals.Colon ++ text_expr line i.condition))

abbrev pub text_declaration : DeclarationTree → List ℕ
text_declaration (declared_type t) = text_word space terminals.Type ++ text_type t
text_declaration (automaton a) = text_word space terminals.Automaton ++ text_automaton a
text_declaration (composition c) = text_word space terminals.Composition ++ text_composition c
text_declaration (invariant i) = text_word space terminals.Invariant ++ text_invariant i

-- the source's text
abbrev pub text_source : SourceTree → List ℕ
text_source ds = text_all text_declaration ds
