-- The text that is written of a tree lexes to tokens that spell the tree.
use Rattle.std.proofs.Common.{◌≡◌, ℕ, inl, inr, true, false, Bool, if◌then◌else◌, List, [], ◌∷◌, ◌++◌, Option, Some, None, refl, sym, subst, append_assoc, append-nil}
use Rattle.ioa_value.specs.declared.terminal.Terminal.{Terminal}
use Rattle.ioa_value.specs.declared.terminal.Terminal.TheVariants as terminals
use Rattle.ioa_lex.specs.Tokens as tokens
use Rattle.ioa_lex.specs.Tokens.{Tok, terminal}
use Rattle.ioa_lex.specs.Lexing.{Lexes, is_blank}
use Rattle.ioa_lex.specs.Spaced.{Spaced, IsToken, text_of}
use Rattle.ioa_lex.proofs.SpacedLemmas.{spaced_lexes, spaced_append, spaced_one}
use Rattle.ioa_tree.specs.Tree.{Expr, number, truth, named, parens, prefix, binary, empty, make, select, Exprs, no_expr, also, FieldTree, ConstantTree, positive, negative, truth_literal, reference, PositionTree, typed, only, EntryTree, VariableTree, ChoiceTree, exactly, any_below, ProposalTree, Stmt, assign, choose, each as looped, Stmts, stop, seq, Arms, no_arm, arm, TransitionTree, AutomatonTree, CrashTree, InstanceTree, CompositionTree, InvariantTree, FormTree, enumeration, tuple, sequence, TypeTree, DeclarationTree, declared_type, automaton, composition, invariant, SourceTree}
use Rattle.ioa_value.specs.declared.operator.Op.{Op}
use Rattle.ioa_tree.specs.declared.tree.Infix.{Infix}
use Rattle.ioa_tree.specs.declared.tree.Infix.TheVariants.{Operator}
use Rattle.ioa_grammar.specs.Operators.{operator_word, left_of, right_of, tightest}
use Rattle.ioa_grammar.specs.Grammar.{Language, ◌▹◌, single, word, called, nothing, optional, optional_list, flagged, each_after, perhaps, separated, terminated, many, enclosed, braced, kind_word, SpellsExpr, SpellsExprs, SpellsOthers, SpellsField, SpellsFields, SpellsConstant, SpellsPosition, SpellsPositions, SpellsEntry, SpellsVariable, SpellsChoice, SpellsProposal, SpellsStmt, SpellsStmts, SpellsMore, SpellsAfter, SpellsArms, SpellsTransition, SpellsAutomaton, SpellsArguments, SpellsCrash, SpellsInstance, SpellsInstances, SpellsHidden, SpellsComposition, SpellsForm, SpellsType, SpellsInvariant, SpellsDeclaration, SpellsSource}
use Rattle.ioa_syntax.specs.Source.{AreTokens, IsSource, plain}
use Rattle.ioa_print.specs.Layout.{space, line, text_word, text_name, text_more, text_list, text_all, text_optional_list, text_parens, before_list, before_option, text_flag, text_number, text_enclosed, text_expr, text_exprs, text_others, text_option, text_field, text_constant, text_position, text_entry, text_variable, text_assignment, text_choice, text_proposal, text_stmt, text_stmts, text_more_stmts, text_after, text_arms, text_transition, text_behaviour, text_automaton, text_crash, text_instance, text_hidden, text_composition, text_braces, text_form, text_type, text_invariant, text_declaration, text_source}
use Rattle.ioa_syntax.proofs.LegalNames.{tokens_apart}
use Rattle.ioa_grammar.proofs.Binding.{before_encloses, between_encloses, around_stands}

-- the text has tokens of the language
abbrev Prints : Language → List ℕ → Type 0
Prints L text = (us : List Tok) × L us × Spaced us text

-- it has, if some tokens that a text can hold are of the language
abbrev pub Reprints : Language → List ℕ → Type 0
Reprints L text = (ts : List Tok) → L ts → AreTokens ts → Prints L text

then_reprints : (L M : Language) (a b : List ℕ) → Reprints L a → Reprints M b → Reprints (L ▹ M) (a ++ b)
then_reprints L M a b p q ts s are =
    let legal = tokens_apart s.0 s.1 (subst AreTokens s.4 are) in
    let first = p s.0 s.2 legal.0 in
    let second = q s.1 s.3 legal.1 in
    (first.0 ++ second.0, (first.0, second.0, first.1, second.1, refl), spaced_append first.0 second.0 a b first.2 second.2)

single_reprints : (x : Tok) (b : ℕ) → is_blank b ≡ true → Reprints (single x) (text_of x ++ b ∷ [])
single_reprints x b blank ts s are = let legal : IsToken x = (subst AreTokens s are).0 in (x ∷ [], refl, spaced_one x b legal blank)

word_reprints : (t : Terminal) (b : ℕ) → is_blank b ≡ true → Reprints (word t) (text_word b t)
word_reprints t b blank = single_reprints (terminal t) b blank

name_reprints : (n : List ℕ) (b : ℕ) → is_blank b ≡ true → Reprints (called n) (text_name b n)
name_reprints n b blank = single_reprints (tokens.name n) b blank

nothing_reprints : Reprints nothing []
nothing_reprints ts s are = ([], refl, refl)

flag_reprints : (t : Terminal) (v : Bool) → Reprints (flagged t v) (text_flag t v)
flag_reprints t true = word_reprints t space refl
flag_reprints t false = nothing_reprints

-- what may end with a word is written without it
unended_reprints : (t : Terminal) (L : Language) (a : List ℕ) → Reprints L a → Reprints (L ▹ perhaps t) a
unended_reprints t L a p ts s are = let m = p s.0 s.2 (tokens_apart s.0 s.1 (subst AreTokens s.4 are)).0 in (m.0, (m.0, [], m.1, inr refl, sym (append-nil m.0)), m.2)

-- the same text, put together in another way
as_text : (L : Language) (a b : List ℕ) → a ≡ b → Reprints L a → Reprints L b
as_text L a b same p = subst (Reprints L) same p

space_blank : is_blank space ≡ true
space_blank = refl

line_blank : is_blank line ≡ true
line_blank = refl

list_blank : {A : Type 0} (xs : List A) → is_blank (before_list xs) ≡ true
list_blank [] = refl
list_blank (x ∷ xs) = refl

option_blank : {A : Type 0} (x : Option A) → is_blank (before_option x) ≡ true
option_blank None = refl
option_blank (Some x) = refl

-- ---- lists

module _ {A : Type 0} (t : Terminal) (L : A → Language) (f : A → List ℕ) (each : (x : A) → Reprints (L x) (f x)) where
  more_reprints : (xs : List A) → Reprints (each_after t L xs) (text_more t f xs)
  more_reprints [] = nothing_reprints
  more_reprints (x ∷ xs) =
      as_text (each_after t L (x ∷ xs)) (text_word space t ++ (f x ++ text_more t f xs)) (text_more t f (x ∷ xs)) (sym (append_assoc (text_word space t) (f x) (text_more t f xs)))
      (then_reprints (word t) (L x ▹ each_after t L xs) (text_word space t) (f x ++ text_more t f xs) (word_reprints t space space_blank) (then_reprints (L x) (each_after t L xs) (f x) (text_more t f xs) (each x) (more_reprints xs)))

  list_reprints : (xs : List A) → Reprints (separated t L xs) (text_list t f xs)
  list_reprints [] = λ ts s are. absurd s
  list_reprints (x ∷ xs) = then_reprints (L x) (each_after t L xs) (f x) (text_more t f xs) (each x) (more_reprints xs)

  terminated_reprints : (xs : List A) → Reprints (terminated t L xs) (text_list t f xs)
  terminated_reprints xs = unended_reprints t (separated t L xs) (text_list t f xs) (list_reprints xs)

all_reprints : {A : Type 0} (L : A → Language) (f : A → List ℕ) → ((x : A) → Reprints (L x) (f x)) → (xs : List A) → Reprints (many L xs) (text_all f xs)
unfolding text_all
all_reprints L f each [] = nothing_reprints
all_reprints L f each (x ∷ xs) = then_reprints (L x) (many L xs) (f x) (text_all f xs) (each x) (all_reprints L f each xs)

optional_reprints : {A : Type 0} (t : Terminal) (b : ℕ) (L : List A → Language) (f : List A → List ℕ) → is_blank b ≡ true → ((xs : List A) → Reprints (L xs) (f xs)) → (xs : List A) → Reprints (optional_list t L xs) (text_optional_list (text_word b t) f xs)
optional_reprints t b L f blank each [] = nothing_reprints
optional_reprints t b L f blank each (x ∷ xs) = then_reprints (word t) (L (x ∷ xs)) (text_word b t) (f (x ∷ xs)) (word_reprints t b blank) (each (x ∷ xs))

parens_reprints : {A : Type 0} (L : A → Language) (f : A → List ℕ) → ((x : A) → Reprints (L x) (f x)) → (xs : List A) → Reprints (optional_list terminals.Open (λ xs. separated terminals.Comma L xs ▹ word terminals.Close) xs) (text_parens f xs)
parens_reprints L f each xs =
    optional_reprints terminals.Open space (λ xs. separated terminals.Comma L xs ▹ word terminals.Close) (λ xs. text_list terminals.Comma f xs ++ text_word line terminals.Close) space_blank
    (λ xs. then_reprints (separated terminals.Comma L xs) (word terminals.Close) (text_list terminals.Comma f xs) (text_word line terminals.Close) (list_reprints terminals.Comma L f each xs) (word_reprints terminals.Close line line_blank)) xs

-- ---- expressions

enclosed_reprints : (L : Language) (a : List ℕ) (b : ℕ) → is_blank b ≡ true → Reprints L a → Reprints (enclosed L) (text_enclosed b a)
enclosed_reprints L a b blank inner =
    then_reprints (word terminals.Open) (L ▹ word terminals.Close) (text_word space terminals.Open) (a ++ text_word b terminals.Close) (word_reprints terminals.Open space space_blank)
    (then_reprints L (word terminals.Close) a (text_word b terminals.Close) inner (word_reprints terminals.Close b blank))

-- a word and what stands in parentheses after it
call_reprints : (t : Terminal) (L : Language) (a : List ℕ) (b : ℕ) → is_blank b ≡ true → Reprints L a → Reprints (word t ▹ enclosed L) (text_word space t ++ text_enclosed b a)
call_reprints t L a b blank inner = then_reprints (word t) (enclosed L) (text_word space t) (text_enclosed b a) (word_reprints t space space_blank) (enclosed_reprints L a b blank inner)

prefix_reprints : (o : Op) (e : Expr) (k b : ℕ) → is_blank b ≡ true → Reprints (SpellsExpr (right_of (Operator o)) e) (text_expr b e) → Reprints (SpellsExpr 0 e) (text_expr space e) → Reprints (SpellsExpr k (prefix o e)) (text_expr b (prefix o e))
prefix_reprints o e k b blank operand inner ts s are = by s
  where
    w : Terminal
    w = operator_word (Operator o)

    text : Bool → List ℕ
    text v = text_word space w ++ (if v then text_enclosed b (text_expr space e) else text_expr b e)

    by : SpellsExpr k (prefix o e) ts → Prints (SpellsExpr k (prefix o e)) (text_expr b (prefix o e))
    by (inl s) =
        let m = then_reprints (word w) (SpellsExpr (right_of (Operator o)) e) (text_word space w) (text_expr b e) (word_reprints w space space_blank) operand ts s.2 are in
        (m.0, inl (s.0, s.1, m.1), subst (λ v. Spaced m.0 (text v)) (sym (before_encloses o s.0)) m.2)
    by (inr s) =
        let m = call_reprints w (SpellsExpr 0 e) (text_expr space e) b blank inner ts s.1 are in
        (m.0, inr (s.0, m.1), subst (λ v. Spaced m.0 (text v)) (sym (around_stands (Operator o) 1 refl s.0)) m.2)

binary_reprints : (l : Expr) (o : Infix) (r : Expr) (k b : ℕ) → is_blank b ≡ true → Reprints (SpellsExpr (left_of o) l) (text_expr space l) → Reprints (SpellsExpr (right_of o) r) (text_expr b r) →
    Reprints (SpellsExpr 0 l) (text_expr space l) → Reprints (SpellsExpr 0 r) (text_expr space r) → Reprints (SpellsExpr k (binary l o r)) (text_expr b (binary l o r))
binary_reprints l o r k b blank first second left right ts s are = by s
  where
    w : Terminal
    w = operator_word o

    parts : List ℕ
    parts = text_expr space l ++ (text_word space terminals.Comma ++ text_expr space r)

    text : Bool → List ℕ
    text v = if v then text_word space w ++ text_enclosed b parts else text_expr space l ++ (text_word space w ++ text_expr b r)

    inside : Reprints (SpellsExpr 0 l ▹ (word terminals.Comma ▹ SpellsExpr 0 r)) parts
    inside =
        then_reprints (SpellsExpr 0 l) (word terminals.Comma ▹ SpellsExpr 0 r) (text_expr space l) (text_word space terminals.Comma ++ text_expr space r) left
        (then_reprints (word terminals.Comma) (SpellsExpr 0 r) (text_word space terminals.Comma) (text_expr space r) (word_reprints terminals.Comma space space_blank) right)

    by : SpellsExpr k (binary l o r) ts → Prints (SpellsExpr k (binary l o r)) (text_expr b (binary l o r))
    by (inl s) =
        let m = then_reprints (SpellsExpr (left_of o) l) (word w ▹ SpellsExpr (right_of o) r) (text_expr space l) (text_word space w ++ text_expr b r) first
        (then_reprints (word w) (SpellsExpr (right_of o) r) (text_word space w) (text_expr b r) (word_reprints w space space_blank) second) ts s.2 are in
        (m.0, inl (s.0, s.1, m.1), subst (λ v. Spaced m.0 (text v)) (sym (between_encloses o s.0)) m.2)
    by (inr s) =
        let m = call_reprints w (SpellsExpr 0 l ▹ (word terminals.Comma ▹ SpellsExpr 0 r)) parts b blank inside ts s.1 are in
        (m.0, inr (s.0, m.1), subst (λ v. Spaced m.0 (text v)) (sym (around_stands o 2 refl s.0)) m.2)

mutual
  expr_reprints : (e : Expr) (k b : ℕ) → is_blank b ≡ true → Reprints (SpellsExpr k e) (text_expr b e)
  expr_reprints (number n) k b blank = single_reprints (tokens.number n) b blank
  expr_reprints (truth true) k b blank = word_reprints terminals.True b blank
  expr_reprints (truth false) k b blank = word_reprints terminals.False b blank
  expr_reprints (named n) k b blank = name_reprints n b blank
  expr_reprints (parens e) k b blank = enclosed_reprints (SpellsExpr 0 e) (text_expr space e) b blank (expr_reprints e 0 space space_blank)
  expr_reprints (prefix o e) k b blank = prefix_reprints o e k b blank (expr_reprints e (right_of (Operator o)) b blank) (expr_reprints e 0 space space_blank)
  expr_reprints (binary l o r) k b blank =
      binary_reprints l o r k b blank (expr_reprints l (left_of o) space space_blank) (expr_reprints r (right_of o) b blank) (expr_reprints l 0 space space_blank) (expr_reprints r 0 space space_blank)
  expr_reprints (empty n) k b blank = call_reprints terminals.Empty (called n) (text_name space n) b blank (name_reprints n space space_blank)
  expr_reprints (make n es) k b blank =
      then_reprints (called n) (enclosed (SpellsExprs es)) (text_name space n) (text_enclosed b (text_exprs es)) (name_reprints n space space_blank) (enclosed_reprints (SpellsExprs es) (text_exprs es) b blank (exprs_reprint es))
  expr_reprints (select e n) k b blank =
      then_reprints (SpellsExpr tightest e) (word terminals.Dot ▹ called n) (text_expr space e) (text_word space terminals.Dot ++ text_name b n) (expr_reprints e tightest space space_blank)
      (then_reprints (word terminals.Dot) (called n) (text_word space terminals.Dot) (text_name b n) (word_reprints terminals.Dot space space_blank) (name_reprints n b blank))

  exprs_reprint : (es : Exprs) → Reprints (SpellsExprs es) (text_exprs es)
  exprs_reprint no_expr = λ ts s are. absurd s
  exprs_reprint (also e es) = then_reprints (SpellsExpr 0 e) (SpellsOthers es) (text_expr space e) (text_others es) (expr_reprints e 0 space space_blank) (others_reprint es)

  others_reprint : (es : Exprs) → Reprints (SpellsOthers es) (text_others es)
  others_reprint no_expr = nothing_reprints
  others_reprint (also e es) =
      then_reprints (word terminals.Comma) (SpellsExpr 0 e ▹ SpellsOthers es) (text_word space terminals.Comma) (text_expr space e ++ text_others es) (word_reprints terminals.Comma space space_blank)
      (then_reprints (SpellsExpr 0 e) (SpellsOthers es) (text_expr space e) (text_others es) (expr_reprints e 0 space space_blank) (others_reprint es))

option_reprints : (t : Terminal) (x : Option Expr) → Reprints (optional t (SpellsExpr 0) x) (text_option (text_word space t) x)
option_reprints t None = nothing_reprints
option_reprints t (Some e) = then_reprints (word t) (SpellsExpr 0 e) (text_word space t) (text_expr line e) (word_reprints t space space_blank) (expr_reprints e 0 line line_blank)

-- ---- automata

field_reprints : (b : ℕ) → is_blank b ≡ true → (f : FieldTree) → Reprints (SpellsField f) (text_field b f)
field_reprints b blank f =
    then_reprints (called f.name) (word terminals.Colon ▹ called f.ty) (text_name space f.name) (text_word space terminals.Colon ++ text_name b f.ty) (name_reprints f.name space space_blank)
    (then_reprints (word terminals.Colon) (called f.ty) (text_word space terminals.Colon) (text_name b f.ty) (word_reprints terminals.Colon space space_blank) (name_reprints f.ty b blank))

constant_reprints : (c : ConstantTree) → Reprints (SpellsConstant c) (text_constant c)
constant_reprints (positive n) = single_reprints (tokens.number n) space space_blank
constant_reprints (negative n) =
    then_reprints (word terminals.Minus) (single (tokens.number n)) (text_word space terminals.Minus) (text_number space n) (word_reprints terminals.Minus space space_blank) (single_reprints (tokens.number n) space space_blank)
constant_reprints (truth_literal true) = word_reprints terminals.True space space_blank
constant_reprints (truth_literal false) = word_reprints terminals.False space space_blank
constant_reprints (reference x) = name_reprints x space space_blank

position_reprints : (p : PositionTree) → Reprints (SpellsPosition p) (text_position p)
position_reprints (typed f) = field_reprints space space_blank f
position_reprints (only c) = then_reprints (word terminals.Const) (SpellsConstant c) (text_word space terminals.Const) (text_constant c) (word_reprints terminals.Const space space_blank) (constant_reprints c)

entry_reprints : (e : EntryTree) → Reprints (SpellsEntry e) (text_entry e)
entry_reprints e =
    then_reprints (word (kind_word e.kind)) (called e.name ▹ optional_list terminals.Open SpellsPositions e.positions) (text_word space (kind_word e.kind)) (text_name (before_list e.positions) e.name ++ text_parens text_position e.positions) (word_reprints (kind_word e.kind) space space_blank)
    (then_reprints (called e.name) (optional_list terminals.Open SpellsPositions e.positions) (text_name (before_list e.positions) e.name) (text_parens text_position e.positions) (name_reprints e.name (before_list e.positions) (list_blank e.positions)) (parens_reprints SpellsPosition text_position position_reprints e.positions))

variable_reprints : (v : VariableTree) → Reprints (SpellsVariable v) (text_variable v)
variable_reprints v =
    let start = optional terminals.Becomes (SpellsExpr 0) v.start in
    let field_text = text_field (before_option v.start) v.field in
    let start_text = text_option (text_word space terminals.Becomes) v.start in
    let field_printed = field_reprints (before_option v.start) (option_blank v.start) v.field in
    then_reprints (flagged terminals.Stable v.stable) (SpellsField v.field ▹ start) (text_flag terminals.Stable v.stable) (field_text ++ start_text)
    (flag_reprints terminals.Stable v.stable)
    (then_reprints (SpellsField v.field) start field_text start_text field_printed (option_reprints terminals.Becomes v.start))

assignment_reprints : (n : List ℕ) (e : Expr) → Reprints (called n ▹ (word terminals.Becomes ▹ SpellsExpr 0 e)) (text_assignment n e)
assignment_reprints n e =
    then_reprints (called n) (word terminals.Becomes ▹ SpellsExpr 0 e) (text_name space n) (text_word space terminals.Becomes ++ text_expr line e) (name_reprints n space space_blank)
    (then_reprints (word terminals.Becomes) (SpellsExpr 0 e) (text_word space terminals.Becomes) (text_expr line e) (word_reprints terminals.Becomes space space_blank) (expr_reprints e 0 line line_blank))

-- a condition with its statements, and what comes behind them
arm_reprints : (c : Expr) (ss : Stmts) (L : Language) (a : List ℕ) → Reprints (SpellsStmts ss) (text_stmts ss) → Reprints L a →
    Reprints (SpellsExpr 0 c ▹ (word terminals.Then ▹ (SpellsStmts ss ▹ L))) (text_expr space c ++ (text_word line terminals.Then ++ (text_stmts ss ++ a)))
arm_reprints c ss L a statements more =
    then_reprints (SpellsExpr 0 c) (word terminals.Then ▹ (SpellsStmts ss ▹ L)) (text_expr space c) (text_word line terminals.Then ++ (text_stmts ss ++ a)) (expr_reprints c 0 space space_blank)
    (then_reprints (word terminals.Then) (SpellsStmts ss ▹ L) (text_word line terminals.Then) (text_stmts ss ++ a) (word_reprints terminals.Then line line_blank)
    (then_reprints (SpellsStmts ss) L (text_stmts ss) a statements more))

mutual
  stmt_reprints : (s : Stmt) → Reprints (SpellsStmt s) (text_stmt s)
  stmt_reprints (assign n e) = assignment_reprints n e
  stmt_reprints (looped x e ss) =
      let body = SpellsStmts ss ▹ word terminals.Od in
      let items = SpellsExpr 0 e ▹ (word terminals.Do ▹ body) in
      let text_body = text_stmts ss ++ text_word line terminals.Od in
      let text_items = text_expr space e ++ (text_word line terminals.Do ++ text_body) in
      then_reprints (word terminals.For) (called x ▹ (word terminals.In ▹ items)) (text_word space terminals.For) (text_name space x ++ (text_word space terminals.In ++ text_items)) (word_reprints terminals.For space space_blank)
      (then_reprints (called x) (word terminals.In ▹ items) (text_name space x) (text_word space terminals.In ++ text_items) (name_reprints x space space_blank)
      (then_reprints (word terminals.In) items (text_word space terminals.In) text_items (word_reprints terminals.In space space_blank)
      (then_reprints (SpellsExpr 0 e) (word terminals.Do ▹ body) (text_expr space e) (text_word line terminals.Do ++ text_body) (expr_reprints e 0 space space_blank)
      (then_reprints (word terminals.Do) body (text_word line terminals.Do) text_body (word_reprints terminals.Do line line_blank)
      (then_reprints (SpellsStmts ss) (word terminals.Od) (text_stmts ss) (text_word line terminals.Od) (stmts_reprint ss) (word_reprints terminals.Od line line_blank))))))
  stmt_reprints (choose no_arm others) = λ ts s are. absurd s
  stmt_reprints (choose (arm c ss more) others) =
      let ending = then_reprints (SpellsAfter terminals.Else others) (word terminals.Fi) (text_after (text_word line terminals.Else) others) (text_word line terminals.Fi) (after_reprints terminals.Else line line_blank others) (word_reprints terminals.Fi line line_blank) in
      let arms = then_reprints (SpellsArms more) (SpellsAfter terminals.Else others ▹ word terminals.Fi) (text_arms more) (text_after (text_word line terminals.Else) others ++ text_word line terminals.Fi) (arms_reprint more) ending in
      let first = arm_reprints c ss (SpellsArms more ▹ (SpellsAfter terminals.Else others ▹ word terminals.Fi)) (text_arms more ++ (text_after (text_word line terminals.Else) others ++ text_word line terminals.Fi)) (stmts_reprint ss) arms in
      then_reprints (word terminals.If) (SpellsExpr 0 c ▹ (word terminals.Then ▹ (SpellsStmts ss ▹ (SpellsArms more ▹ (SpellsAfter terminals.Else others ▹ word terminals.Fi))))) (text_word space terminals.If)
      (text_expr space c ++ (text_word line terminals.Then ++ (text_stmts ss ++ (text_arms more ++ (text_after (text_word line terminals.Else) others ++ text_word line terminals.Fi))))) (word_reprints terminals.If space space_blank) first

  stmts_reprint : (ss : Stmts) → Reprints (SpellsStmts ss) (text_stmts ss)
  stmts_reprint stop = λ ts s are. absurd s
  stmts_reprint (seq x ss) =
      then_reprints (SpellsStmt x) (SpellsMore ss ▹ perhaps terminals.Semicolon) (text_stmt x) (text_more_stmts ss) (stmt_reprints x) (unended_reprints terminals.Semicolon (SpellsMore ss) (text_more_stmts ss) (more_stmts_reprint ss))

  more_stmts_reprint : (ss : Stmts) → Reprints (SpellsMore ss) (text_more_stmts ss)
  more_stmts_reprint stop = nothing_reprints
  more_stmts_reprint (seq x ss) =
      then_reprints (word terminals.Semicolon) (SpellsStmt x ▹ SpellsMore ss) (text_word space terminals.Semicolon) (text_stmt x ++ text_more_stmts ss) (word_reprints terminals.Semicolon space space_blank)
      (then_reprints (SpellsStmt x) (SpellsMore ss) (text_stmt x) (text_more_stmts ss) (stmt_reprints x) (more_stmts_reprint ss))

  after_reprints : (t : Terminal) (b : ℕ) → is_blank b ≡ true → (ss : Stmts) → Reprints (SpellsAfter t ss) (text_after (text_word b t) ss)
  after_reprints t b blank stop = nothing_reprints
  after_reprints t b blank (seq x ss) =
      then_reprints (word t) (SpellsStmt x ▹ (SpellsMore ss ▹ perhaps terminals.Semicolon)) (text_word b t) (text_stmt x ++ text_more_stmts ss) (word_reprints t b blank)
      (then_reprints (SpellsStmt x) (SpellsMore ss ▹ perhaps terminals.Semicolon) (text_stmt x) (text_more_stmts ss) (stmt_reprints x) (unended_reprints terminals.Semicolon (SpellsMore ss) (text_more_stmts ss) (more_stmts_reprint ss)))

  arms_reprint : (cs : Arms) → Reprints (SpellsArms cs) (text_arms cs)
  arms_reprint no_arm = nothing_reprints
  arms_reprint (arm c ss more) =
      then_reprints (word terminals.Elseif) (SpellsExpr 0 c ▹ (word terminals.Then ▹ (SpellsStmts ss ▹ SpellsArms more))) (text_word space terminals.Elseif) (text_expr space c ++ (text_word line terminals.Then ++ (text_stmts ss ++ text_arms more)))
      (word_reprints terminals.Elseif space space_blank) (arm_reprints c ss (SpellsArms more) (text_arms more) (stmts_reprint ss) (arms_reprint more))

choice_reprints : (c : ChoiceTree) → Reprints (SpellsChoice c) (text_choice c)
choice_reprints (exactly e) = expr_reprints e 0 line line_blank
choice_reprints (any_below e) = call_reprints terminals.Any (SpellsExpr 0 e) (text_expr space e) line line_blank (expr_reprints e 0 space space_blank)

proposal_reprints : (p : ProposalTree) → Reprints (SpellsProposal p) (text_proposal p)
proposal_reprints p =
    then_reprints (called p.name) (word terminals.Becomes ▹ SpellsChoice p.choice) (text_name space p.name) (text_word space terminals.Becomes ++ text_choice p.choice) (name_reprints p.name space space_blank)
    (then_reprints (word terminals.Becomes) (SpellsChoice p.choice) (text_word space terminals.Becomes) (text_choice p.choice) (word_reprints terminals.Becomes space space_blank) (choice_reprints p.choice))

abbrev Trials : List ProposalTree → Language
Trials ps = optional_list terminals.Propose (separated terminals.Comma SpellsProposal) ps

abbrev Effect : Stmts → Language
Effect ss = SpellsAfter terminals.Eff ss

abbrev text_trials : List ProposalTree → List ℕ
text_trials ps = text_optional_list (text_word space terminals.Propose) (text_list terminals.Comma text_proposal) ps

abbrev text_effect : Stmts → List ℕ
text_effect ss = text_after (text_word space terminals.Eff) ss

trials_reprint : (ps : List ProposalTree) → Reprints (Trials ps) (text_trials ps)
trials_reprint ps =
    optional_reprints terminals.Propose space (separated terminals.Comma SpellsProposal) (text_list terminals.Comma text_proposal) space_blank
    (list_reprints terminals.Comma SpellsProposal text_proposal proposal_reprints) ps

effect_reprints : (ss : Stmts) → Reprints (Effect ss) (text_effect ss)
effect_reprints ss = after_reprints terminals.Eff space space_blank ss

transition_reprints : (t : TransitionTree) → Reprints (SpellsTransition t) (text_transition t)
transition_reprints t =
    let last = then_reprints (Trials t.proposals) (Effect t.effect) (text_trials t.proposals) (text_effect t.effect) (trials_reprint t.proposals) (effect_reprints t.effect) in
    let parts = then_reprints (optional terminals.Pre (SpellsExpr 0) t.pre) (Trials t.proposals ▹ Effect t.effect) (text_option (text_word space terminals.Pre) t.pre) (text_trials t.proposals ++ text_effect t.effect) (option_reprints terminals.Pre t.pre) last in
    let name = then_reprints (called t.name) (optional terminals.Pre (SpellsExpr 0) t.pre ▹ (Trials t.proposals ▹ Effect t.effect)) (text_name line t.name) (text_option (text_word space terminals.Pre) t.pre ++ (text_trials t.proposals ++ text_effect t.effect)) (name_reprints t.name line line_blank) parts in
    then_reprints (word (kind_word t.kind)) (called t.name ▹ (optional terminals.Pre (SpellsExpr 0) t.pre ▹ (Trials t.proposals ▹ Effect t.effect))) (text_word space (kind_word t.kind)) (text_name line t.name ++ (text_option (text_word space terminals.Pre) t.pre ++ (text_trials t.proposals ++ text_effect t.effect))) (word_reprints (kind_word t.kind) space space_blank) name

abbrev Entries : List EntryTree → Language
Entries es = terminated terminals.Semicolon SpellsEntry es

abbrev States : List VariableTree → Language
States vs = optional_list terminals.States (terminated terminals.Semicolon SpellsVariable) vs

abbrev Rules : List TransitionTree → Language
Rules rs = word terminals.Transitions ▹ many SpellsTransition rs

abbrev text_states : List VariableTree → List ℕ
text_states vs = text_optional_list (text_word line terminals.States) (text_list terminals.Semicolon text_variable) vs

abbrev text_rules : List TransitionTree → List ℕ
text_rules rs = text_word line terminals.Transitions ++ text_all text_transition rs

automaton_reprints : (a : AutomatonTree) → Reprints (SpellsAutomaton a) (text_automaton a)
automaton_reprints a =
    let rules = then_reprints (word terminals.Transitions) (many SpellsTransition a.transitions) (text_word line terminals.Transitions) (text_all text_transition a.transitions) (word_reprints terminals.Transitions line line_blank) (all_reprints SpellsTransition text_transition transition_reprints a.transitions) in
    let states = optional_reprints terminals.States line (terminated terminals.Semicolon SpellsVariable) (text_list terminals.Semicolon text_variable) line_blank (terminated_reprints terminals.Semicolon SpellsVariable text_variable variable_reprints) a.variables in
    let behaviour = then_reprints (States a.variables) (Rules a.transitions) (text_states a.variables) (text_rules a.transitions) states rules in
    let entries = then_reprints (Entries a.entries) (States a.variables ▹ Rules a.transitions) (text_list terminals.Semicolon text_entry a.entries) (text_states a.variables ++ text_rules a.transitions) (terminated_reprints terminals.Semicolon SpellsEntry text_entry entry_reprints a.entries) behaviour in
    let signature = then_reprints (word terminals.Signature) (Entries a.entries ▹ (States a.variables ▹ Rules a.transitions)) (text_word line terminals.Signature) (text_list terminals.Semicolon text_entry a.entries ++ (text_states a.variables ++ text_rules a.transitions)) (word_reprints terminals.Signature line line_blank) entries in
    let formals = then_reprints (optional_list terminals.Open SpellsFields a.formals) (word terminals.Signature ▹ (Entries a.entries ▹ (States a.variables ▹ Rules a.transitions))) (text_parens (text_field space) a.formals) (text_word line terminals.Signature ++ (text_list terminals.Semicolon text_entry a.entries ++ (text_states a.variables ++ text_rules a.transitions))) (parens_reprints SpellsField (text_field space) (field_reprints space space_blank) a.formals) signature in
    let name = then_reprints (called a.name) (optional_list terminals.Open SpellsFields a.formals ▹ (word terminals.Signature ▹ (Entries a.entries ▹ (States a.variables ▹ Rules a.transitions)))) (text_name (before_list a.formals) a.name) (text_parens (text_field space) a.formals ++ (text_word line terminals.Signature ++ (text_list terminals.Semicolon text_entry a.entries ++ (text_states a.variables ++ text_rules a.transitions)))) (name_reprints a.name (before_list a.formals) (list_blank a.formals)) formals in
    as_text (SpellsAutomaton a) (text_name (before_list a.formals) a.name ++ (text_parens (text_field space) a.formals ++ (text_word line terminals.Signature ++ (text_list terminals.Semicolon text_entry a.entries ++ (text_states a.variables ++ text_rules a.transitions))))) (text_automaton a)
    (sym (regroup (text_name (before_list a.formals) a.name) (text_parens (text_field space) a.formals) (text_word line terminals.Signature) (text_list terminals.Semicolon text_entry a.entries) (text_behaviour a))) name
  where
    regroup : (v w x y z : List ℕ) → (v ++ (w ++ (x ++ y))) ++ z ≡ v ++ (w ++ (x ++ (y ++ z)))
    regroup v w x y z = simp append_assoc

-- ---- compositions, invariants and sources

crash_reprints : (c : Option CrashTree) → Reprints (optional terminals.Crash SpellsCrash c) (text_crash c)
crash_reprints None = nothing_reprints
crash_reprints (Some c) =
    let word_text = text_word space terminals.Recover in
    let crash_text = text_name space c.crash in
    let recover_text = text_name line c.recover in
    then_reprints (word terminals.Crash) (SpellsCrash c) (text_word space terminals.Crash) (crash_text ++ (word_text ++ recover_text))
    (word_reprints terminals.Crash space space_blank)
    (then_reprints (called c.crash) (word terminals.Recover ▹ called c.recover) crash_text (word_text ++ recover_text) (name_reprints c.crash space space_blank)
    (then_reprints (word terminals.Recover) (called c.recover) word_text recover_text (word_reprints terminals.Recover space space_blank)
    (name_reprints c.recover line line_blank)))

instance_reprints : (i : InstanceTree) → Reprints (SpellsInstance i) (text_instance i)
instance_reprints i =
    let arguments = optional_list terminals.Open SpellsArguments i.arguments in
    let crash = optional terminals.Crash SpellsCrash i.crash in
    let automaton_text = text_name (before_list i.arguments) i.automaton in
    let arguments_text = text_parens (text_expr space) i.arguments in
    let crash_text = text_crash i.crash in
    let text = automaton_text ++ (arguments_text ++ crash_text) in
    then_reprints (called i.name) (word terminals.Colon ▹ (called i.automaton ▹ (arguments ▹ crash))) (text_name space i.name) (text_word space terminals.Colon ++ text)
    (name_reprints i.name space space_blank)
    (then_reprints (word terminals.Colon) (called i.automaton ▹ (arguments ▹ crash)) (text_word space terminals.Colon) text
    (word_reprints terminals.Colon space space_blank)
    (then_reprints (called i.automaton) (arguments ▹ crash) automaton_text (arguments_text ++ crash_text)
    (name_reprints i.automaton (before_list i.arguments) (list_blank i.arguments))
    (then_reprints arguments crash arguments_text crash_text
    (parens_reprints (SpellsExpr 0) (text_expr space) (λ e. expr_reprints e 0 space space_blank) i.arguments) (crash_reprints i.crash))))

hidden_reprints : (ns : List (List ℕ)) → Reprints (optional_list terminals.Hidden SpellsHidden ns) (text_hidden ns)
hidden_reprints ns =
    optional_reprints terminals.Hidden space SpellsHidden (text_list terminals.Comma (text_name line)) space_blank
    (λ ns. unended_reprints terminals.Semicolon (separated terminals.Comma called ns) (text_list terminals.Comma (text_name line) ns) (list_reprints terminals.Comma called (text_name line) (λ n. name_reprints n line line_blank) ns)) ns

composition_reprints : (c : CompositionTree) → Reprints (SpellsComposition c) (text_composition c)
composition_reprints c =
    let hidden = optional_list terminals.Hidden SpellsHidden c.hidden in
    let instances = text_list terminals.Semicolon text_instance c.instances in
    then_reprints (called c.name) (word terminals.Components ▹ (SpellsInstances c.instances ▹ hidden)) (text_name space c.name) (text_word line terminals.Components ++ (instances ++ text_hidden c.hidden)) (name_reprints c.name space space_blank)
    (then_reprints (word terminals.Components) (SpellsInstances c.instances ▹ hidden) (text_word line terminals.Components) (instances ++ text_hidden c.hidden) (word_reprints terminals.Components line line_blank)
    (then_reprints (SpellsInstances c.instances) hidden instances (text_hidden c.hidden) (terminated_reprints terminals.Semicolon SpellsInstance text_instance instance_reprints c.instances) (hidden_reprints c.hidden)))

braced_reprints : {A : Type 0} (L : A → Language) (f : A → List ℕ) → ((x : A) → Reprints (L x) (f x)) → (xs : List A) → Reprints (braced L xs) (text_braces f xs)
braced_reprints L f each xs =
    then_reprints (word terminals.OpenBrace) (separated terminals.Comma L xs ▹ word terminals.CloseBrace) (text_word space terminals.OpenBrace) (text_list terminals.Comma f xs ++ text_word line terminals.CloseBrace) (word_reprints terminals.OpenBrace space space_blank)
    (then_reprints (separated terminals.Comma L xs) (word terminals.CloseBrace) (text_list terminals.Comma f xs) (text_word line terminals.CloseBrace) (list_reprints terminals.Comma L f each xs) (word_reprints terminals.CloseBrace line line_blank))

form_reprints : (f : FormTree) → Reprints (SpellsForm f) (text_form f)
form_reprints (enumeration ns) =
    then_reprints (word terminals.Enum) (braced called ns) (text_word space terminals.Enum) (text_braces (text_name space) ns) (word_reprints terminals.Enum space space_blank)
    (braced_reprints called (text_name space) (λ n. name_reprints n space space_blank) ns)
form_reprints (tuple fs) =
    then_reprints (word terminals.Tuple) (braced SpellsField fs) (text_word space terminals.Tuple) (text_braces (text_field space) fs) (word_reprints terminals.Tuple space space_blank)
    (braced_reprints SpellsField (text_field space) (field_reprints space space_blank) fs)
form_reprints (sequence most item) =
    let last = then_reprints (word terminals.Of) (called item) (text_word space terminals.Of) (text_name line item) (word_reprints terminals.Of space space_blank) (name_reprints item line line_blank) in
    let number = then_reprints (single (tokens.number most)) (word terminals.Of ▹ called item) (text_number space most) (text_word space terminals.Of ++ text_name line item) (single_reprints (tokens.number most) space space_blank) last in
    then_reprints (word terminals.Seq) (single (tokens.number most) ▹ (word terminals.Of ▹ called item)) (text_word space terminals.Seq) (text_number space most ++ (text_word space terminals.Of ++ text_name line item)) (word_reprints terminals.Seq space space_blank) number

type_reprints : (t : TypeTree) → Reprints (SpellsType t) (text_type t)
type_reprints t =
    then_reprints (called t.name) (word terminals.Equal ▹ SpellsForm t.form) (text_name space t.name) (text_word space terminals.Equal ++ text_form t.form) (name_reprints t.name space space_blank)
    (then_reprints (word terminals.Equal) (SpellsForm t.form) (text_word space terminals.Equal) (text_form t.form) (word_reprints terminals.Equal space space_blank) (form_reprints t.form))

invariant_reprints : (i : InvariantTree) → Reprints (SpellsInvariant i) (text_invariant i)
invariant_reprints i =
    let ended = SpellsExpr 0 i.condition ▹ perhaps terminals.Semicolon in
    let condition = text_expr line i.condition in
    then_reprints (word terminals.Of) (called i.automaton ▹ (word terminals.Colon ▹ ended)) (text_word space terminals.Of)
    (text_name space i.automaton ++ (text_word space terminals.Colon ++ condition)) (word_reprints terminals.Of space space_blank)
    (then_reprints (called i.automaton) (word terminals.Colon ▹ ended) (text_name space i.automaton) (text_word space terminals.Colon ++ condition)
    (name_reprints i.automaton space space_blank)
    (then_reprints (word terminals.Colon) ended (text_word space terminals.Colon) condition (word_reprints terminals.Colon space space_blank)
    (unended_reprints terminals.Semicolon (SpellsExpr 0 i.condition) condition (expr_reprints i.condition 0 line line_blank))))

declaration_reprints : (d : DeclarationTree) → Reprints (SpellsDeclaration d) (text_declaration d)
declaration_reprints (declared_type t) = then_reprints (word terminals.Type) (SpellsType t) (text_word space terminals.Type) (text_type t) (word_reprints terminals.Type space space_blank) (type_reprints t)
declaration_reprints (automaton a) = then_reprints (word terminals.Automaton) (SpellsAutomaton a) (text_word space terminals.Automaton) (text_automaton a) (word_reprints terminals.Automaton space space_blank) (automaton_reprints a)
declaration_reprints (composition c) = then_reprints (word terminals.Composition) (SpellsComposition c) (text_word space terminals.Composition) (text_composition c) (word_reprints terminals.Composition space space_blank) (composition_reprints c)
declaration_reprints (invariant i) =
    then_reprints (word terminals.Invariant) (SpellsInvariant i) (text_word space terminals.Invariant) (text_invariant i)
    (word_reprints terminals.Invariant space space_blank) (invariant_reprints i)

pub source_printed : (t : SourceTree) → IsSource t → (ts : List (Tok × ℕ)) × Lexes (text_source t) ts × SpellsSource t (plain ts)
source_printed t source =
    let m = all_reprints SpellsDeclaration text_declaration declaration_reprints t source.0.0 source.0.2 source.0.1 in
    let lexed = spaced_lexes m.0 (text_source t) m.2 in
    (lexed.0, lexed.1, subst (SpellsSource t) (sym lexed.2) m.1)
