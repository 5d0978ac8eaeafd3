-- The names of a source that some tokens spell are legal.
use Rattle.std.proofs.Common.{◌≡◌, ℕ, inl, inr, refl, List, [], ◌∷◌, ◌++◌, Option, Some, None, All, sym, ap, ◌∙◌, subst, append_assoc}
use Rattle.std.specs.List.{flat_map}
use Rattle.std.proofs.lemmas.List.Elements.{All-nil, All-cons, All-append}
use Rattle.ioa_value.specs.declared.terminal.Terminal.{Terminal}
use Rattle.ioa_value.specs.declared.terminal.Terminal.TheVariants as terminals
use Rattle.ioa_lex.specs.Tokens as tokens
use Rattle.ioa_lex.specs.Tokens.{Tok}
use Rattle.ioa_value.specs.Actions.{Name}
use Rattle.ioa_value.specs.Names.{IsName}
use Rattle.ioa_tree.specs.Tree.{Expr, number, truth, named, parens, prefix, binary, empty, make, select, Exprs, no_expr, also, FieldTree, ConstantTree, positive, negative, truth_literal, reference, PositionTree, typed, only, EntryTree, VariableTree, ChoiceTree, exactly, any_below, expr_in, ProposalTree, Stmt, assign, choose, each as looped, Stmts, stop, seq, Arms, no_arm, arm, TransitionTree, AutomatonTree, CrashTree, InstanceTree, CompositionTree, InvariantTree, FormTree, enumeration, tuple, sequence, TypeTree, DeclarationTree, declared_type, automaton, composition, invariant, SourceTree}
use Rattle.ioa_tree.specs.declared.tree.Infix.TheVariants.{Operator}
use Rattle.ioa_grammar.specs.Operators.{left_of, right_of, operator_word, tightest}
use Rattle.ioa_grammar.specs.Grammar.{Language, ◌▹◌, word, called, perhaps, optional, optional_list, flagged, each_after, separated, terminated, many, single, enclosed, braced, kind_word, SpellsExpr, SpellsExprs, SpellsOthers, SpellsField, SpellsFields, SpellsConstant, SpellsPosition, SpellsPositions, SpellsEntry, SpellsVariable, SpellsChoice, SpellsProposal, SpellsStmt, SpellsStmts, SpellsMore, SpellsAfter, SpellsArms, SpellsTransition, SpellsAutomaton, SpellsArguments, SpellsCrash, SpellsInstance, SpellsInstances, SpellsHidden, SpellsComposition, SpellsForm, SpellsType, SpellsInvariant, SpellsDeclaration}
use Rattle.ioa_syntax.specs.Source.{AreTokens, IsSource}
use Rattle.ioa_tree.specs.Names.{names_of_expr, names_of_exprs, names_of_option, names_of_field, names_of_constant, names_of_position, names_of_entry, names_of_variable, names_of_proposal, names_of_stmt, names_of_stmts, names_of_arms, names_of_transition, names_of_automaton, names_of_crash, names_of_instance, names_of_composition, names_of_form, names_of_type, names_of_invariant, names_of_declaration, LegalNames}

abbrev AreNames : List Name → Type 0
AreNames ns = All IsName ns

pub tokens_apart : (a b : List Tok) → AreTokens (a ++ b) → AreTokens a × AreTokens b
tokens_apart [] b h = (tt, h)
tokens_apart (t ∷ a) b h = let r = tokens_apart a b h.1 in ((h.0, r.0), r.1)

-- where tokens of the language are legal, so are these names
abbrev Lawful : Language → List Name → Type 0
Lawful L ns = (ts : List Tok) → AreTokens ts → L ts → AreNames ns

-- ---- languages

none_lawful : (L : Language) → Lawful L []
none_lawful L ts h s = All-nil IsName

called_lawful : (n : Name) → Lawful (called n) (n ∷ [])
called_lawful n ts h s = let k : AreTokens (tokens.name n ∷ []) = subst AreTokens s h in All-cons IsName n [] k.0 (All-nil IsName)

then_lawful : (L M : Language) (ns ms : List Name) → Lawful L ns → Lawful M ms → Lawful (L ▹ M) (ns ++ ms)
then_lawful L M ns ms first second ts h s =
    let p = tokens_apart s.0 s.1 (subst AreTokens s.4 h) in
    All-append IsName ns ms (first s.0 p.0 s.2) (second s.1 p.1 s.3)

after_word : (t : Terminal) (M : Language) (ms : List Name) → Lawful M ms → Lawful (word t ▹ M) ms
after_word t M ms second = then_lawful (word t) M [] ms (none_lawful (word t)) second

before_lawful : (L M : Language) (ns : List Name) → Lawful L ns → Lawful (L ▹ M) ns
before_lawful L M ns first ts h s = let p = tokens_apart s.0 s.1 (subst AreTokens s.4 h) in first s.0 p.0 s.2

-- a name, and what comes after it
name_then : (n : Name) (M : Language) (ms : List Name) → Lawful M ms → Lawful (called n ▹ M) (n ∷ ms)
name_then n M ms second = then_lawful (called n) M (n ∷ []) ms (called_lawful n) second

optional_lawful : (t : Terminal) (L : Expr → Language) (o : Option Expr) → ((e : Expr) → Lawful (L e) (names_of_expr e)) → Lawful (optional t L o) (names_of_option o)
optional_lawful t L None inner = none_lawful (optional t L None)
optional_lawful t L (Some e) inner = after_word t (L e) (names_of_expr e) (inner e)

module _ {A : Type 0} (f : A → List Name) where
  optional_list_lawful : (t : Terminal) (L : List A → Language) (xs : List A) → ((ys : List A) → Lawful (L ys) (flat_map f ys)) → Lawful (optional_list t L xs) (flat_map f xs)
  optional_list_lawful t L [] inner = none_lawful (optional_list t L [])
  optional_list_lawful t L (x ∷ xs) inner = after_word t (L (x ∷ xs)) (flat_map f (x ∷ xs)) (inner (x ∷ xs))

  module _ (L : A → Language) (inner : (x : A) → Lawful (L x) (f x)) where
    each_lawful : (t : Terminal) (xs : List A) → Lawful (each_after t L xs) (flat_map f xs)
    each_lawful t [] = none_lawful (each_after t L [])
    each_lawful t (x ∷ xs) =
        after_word t (L x ▹ each_after t L xs) (flat_map f (x ∷ xs)) (then_lawful (L x) (each_after t L xs) (f x) (flat_map f xs) (inner x) (each_lawful t xs))

    separated_lawful : (t : Terminal) (xs : List A) → Lawful (separated t L xs) (flat_map f xs)
    separated_lawful t [] = λ ts h s. absurd s
    separated_lawful t (x ∷ xs) = then_lawful (L x) (each_after t L xs) (f x) (flat_map f xs) (inner x) (each_lawful t xs)

    terminated_lawful : (t : Terminal) (xs : List A) → Lawful (terminated t L xs) (flat_map f xs)
    terminated_lawful t xs = before_lawful (separated t L xs) (perhaps t) (flat_map f xs) (separated_lawful t xs)

    closed_lawful : (xs : List A) → Lawful (separated terminals.Comma L xs ▹ word terminals.Close) (flat_map f xs)
    closed_lawful xs = before_lawful (separated terminals.Comma L xs) (word terminals.Close) (flat_map f xs) (separated_lawful terminals.Comma xs)

    many_lawful : (xs : List A) → Lawful (many L xs) (flat_map f xs)
    many_lawful [] = none_lawful (many L [])
    many_lawful (x ∷ xs) = then_lawful (L x) (many L xs) (f x) (flat_map f xs) (inner x) (many_lawful xs)

-- ---- productions

again : (a b c d : List Name) → a ++ (b ++ (c ++ d)) ≡ (a ++ (b ++ c)) ++ d
again a b c d = ap (λ l. a ++ l) (sym (append_assoc b c d)) ∙ sym (append_assoc a (b ++ c) d)

enclosed_lawful : (L : Language) (ns : List Name) → Lawful L ns → Lawful (enclosed L) ns
enclosed_lawful L ns inner = after_word terminals.Open (L ▹ word terminals.Close) ns (before_lawful L (word terminals.Close) ns inner)

mutual
  expr_lawful : (k : ℕ) (e : Expr) → Lawful (SpellsExpr k e) (names_of_expr e)
  expr_lawful k (number n) ts h s = none_lawful (SpellsExpr k (number n)) ts h s
  expr_lawful k (truth b) ts h s = none_lawful (SpellsExpr k (truth b)) ts h s
  expr_lawful k (named x) ts h s = called_lawful x ts h s
  expr_lawful k (parens e) ts h s = enclosed_lawful (SpellsExpr 0 e) (names_of_expr e) (expr_lawful 0 e) ts h s
  expr_lawful k (prefix o e) ts h (inl s) = after_word (operator_word (Operator o)) (SpellsExpr (right_of (Operator o)) e) (names_of_expr e) (expr_lawful (right_of (Operator o)) e) ts h s.2
  expr_lawful k (prefix o e) ts h (inr s) =
      after_word (operator_word (Operator o)) (enclosed (SpellsExpr 0 e)) (names_of_expr e) (enclosed_lawful (SpellsExpr 0 e) (names_of_expr e) (expr_lawful 0 e)) ts h s.1
  expr_lawful k (binary l o r) ts h (inl s) =
      then_lawful (SpellsExpr (left_of o) l) (word (operator_word o) ▹ SpellsExpr (right_of o) r) (names_of_expr l) (names_of_expr r) (expr_lawful (left_of o) l)
      (after_word (operator_word o) (SpellsExpr (right_of o) r) (names_of_expr r) (expr_lawful (right_of o) r)) ts h s.2
  expr_lawful k (binary l o r) ts h (inr s) =
      let inner = SpellsExpr 0 l ▹ (word terminals.Comma ▹ SpellsExpr 0 r) in
      after_word (operator_word o) (enclosed inner) (names_of_expr (binary l o r))
      (enclosed_lawful inner (names_of_expr (binary l o r))
      (then_lawful (SpellsExpr 0 l) (word terminals.Comma ▹ SpellsExpr 0 r) (names_of_expr l) (names_of_expr r) (expr_lawful 0 l) (after_word terminals.Comma (SpellsExpr 0 r) (names_of_expr r) (expr_lawful 0 r)))) ts h s.1
  expr_lawful k (empty n) ts h s = after_word terminals.Empty (enclosed (called n)) (n ∷ []) (enclosed_lawful (called n) (n ∷ []) (called_lawful n)) ts h s
  expr_lawful k (make n es) ts h s = name_then n (enclosed (SpellsExprs es)) (names_of_exprs es) (enclosed_lawful (SpellsExprs es) (names_of_exprs es) (exprs_lawful es)) ts h s
  expr_lawful k (select e n) ts h s =
      then_lawful (SpellsExpr tightest e) (word terminals.Dot ▹ called n) (names_of_expr e) (n ∷ []) (expr_lawful tightest e) (after_word terminals.Dot (called n) (n ∷ []) (called_lawful n)) ts h s

  exprs_lawful : (es : Exprs) → Lawful (SpellsExprs es) (names_of_exprs es)
  exprs_lawful no_expr ts h s = absurd s
  exprs_lawful (also e es) ts h s = then_lawful (SpellsExpr 0 e) (SpellsOthers es) (names_of_expr e) (names_of_exprs es) (expr_lawful 0 e) (others_lawful es) ts h s

  others_lawful : (es : Exprs) → Lawful (SpellsOthers es) (names_of_exprs es)
  others_lawful no_expr ts h s = none_lawful (SpellsOthers no_expr) ts h s
  others_lawful (also e es) ts h s =
      after_word terminals.Comma (SpellsExpr 0 e ▹ SpellsOthers es) (names_of_exprs (also e es))
      (then_lawful (SpellsExpr 0 e) (SpellsOthers es) (names_of_expr e) (names_of_exprs es) (expr_lawful 0 e) (others_lawful es)) ts h s

field_lawful : (f : FieldTree) → Lawful (SpellsField f) (names_of_field f)
field_lawful f =
    name_then f.name (word terminals.Colon ▹ called f.ty) (f.ty ∷ []) (after_word terminals.Colon (called f.ty) (f.ty ∷ []) (called_lawful f.ty))

constant_lawful : (c : ConstantTree) → Lawful (SpellsConstant c) (names_of_constant c)
constant_lawful (positive n) = none_lawful (SpellsConstant (positive n))
constant_lawful (negative n) = none_lawful (SpellsConstant (negative n))
constant_lawful (truth_literal b) = none_lawful (SpellsConstant (truth_literal b))
constant_lawful (reference x) = called_lawful x

position_lawful : (p : PositionTree) → Lawful (SpellsPosition p) (names_of_position p)
position_lawful (typed f) = field_lawful f
position_lawful (only c) = after_word terminals.Const (SpellsConstant c) (names_of_constant c) (constant_lawful c)

entry_lawful : (e : EntryTree) → Lawful (SpellsEntry e) (names_of_entry e)
entry_lawful e =
    after_word (kind_word e.kind) (called e.name ▹ optional_list terminals.Open SpellsPositions e.positions) (names_of_entry e)
    (name_then e.name (optional_list terminals.Open SpellsPositions e.positions) (flat_map names_of_position e.positions)
    (optional_list_lawful names_of_position terminals.Open SpellsPositions e.positions (closed_lawful names_of_position SpellsPosition position_lawful)))

variable_lawful : (v : VariableTree) → Lawful (SpellsVariable v) (names_of_variable v)
variable_lawful v =
    let start = optional terminals.Becomes (SpellsExpr 0) v.start in
    let flag = flagged terminals.Stable v.stable in
    then_lawful flag (SpellsField v.field ▹ start) [] (names_of_field v.field ++ names_of_option v.start) (none_lawful flag)
    (then_lawful (SpellsField v.field) start (names_of_field v.field) (names_of_option v.start)
    (field_lawful v.field) (optional_lawful terminals.Becomes (SpellsExpr 0) v.start (expr_lawful 0)))

assignment_lawful : (x : Name) (e : Expr) → Lawful (called x ▹ (word terminals.Becomes ▹ SpellsExpr 0 e)) (x ∷ names_of_expr e)
assignment_lawful x e =
    name_then x (word terminals.Becomes ▹ SpellsExpr 0 e) (names_of_expr e) (after_word terminals.Becomes (SpellsExpr 0 e) (names_of_expr e) (expr_lawful 0 e))

-- a condition, its statements, and what comes after them
arm_lawful : (c : Expr) (L M : Language) (ns ms : List Name) → Lawful L ns → Lawful M ms → Lawful (SpellsExpr 0 c ▹ (word terminals.Then ▹ (L ▹ M))) (names_of_expr c ++ (ns ++ ms))
arm_lawful c L M ns ms first second =
    then_lawful (SpellsExpr 0 c) (word terminals.Then ▹ (L ▹ M)) (names_of_expr c) (ns ++ ms) (expr_lawful 0 c)
    (after_word terminals.Then (L ▹ M) (ns ++ ms) (then_lawful L M ns ms first second))

mutual
  stmt_lawful : (s : Stmt) → Lawful (SpellsStmt s) (names_of_stmt s)
  stmt_lawful (assign x e) = assignment_lawful x e
  stmt_lawful (looped x e ss) =
      let body = SpellsStmts ss ▹ word terminals.Od in
      let items = SpellsExpr 0 e ▹ (word terminals.Do ▹ body) in
      let names = names_of_expr e ++ names_of_stmts ss in
      after_word terminals.For (called x ▹ (word terminals.In ▹ items)) (x ∷ names)
      (name_then x (word terminals.In ▹ items) names (after_word terminals.In items names
      (then_lawful (SpellsExpr 0 e) (word terminals.Do ▹ body) (names_of_expr e) (names_of_stmts ss) (expr_lawful 0 e)
      (after_word terminals.Do body (names_of_stmts ss) (before_lawful (SpellsStmts ss) (word terminals.Od) (names_of_stmts ss) (stmts_lawful ss))))))
  stmt_lawful (choose no_arm others) = λ ts h s. absurd s
  stmt_lawful (choose (arm c ss more) others) = λ ts h s.
      let rest = SpellsArms more ▹ (SpellsAfter terminals.Else others ▹ word terminals.Fi) in
      let P : List Name → Type 0 = AreNames in
      subst P (again (names_of_expr c) (names_of_stmts ss) (names_of_arms more) (names_of_stmts others))
      (after_word terminals.If (SpellsExpr 0 c ▹ (word terminals.Then ▹ (SpellsStmts ss ▹ rest))) (names_of_expr c ++ (names_of_stmts ss ++ (names_of_arms more ++ names_of_stmts others)))
      (arm_lawful c (SpellsStmts ss) rest (names_of_stmts ss) (names_of_arms more ++ names_of_stmts others) (stmts_lawful ss)
      (then_lawful (SpellsArms more) (SpellsAfter terminals.Else others ▹ word terminals.Fi) (names_of_arms more) (names_of_stmts others) (arms_lawful more)
      (before_lawful (SpellsAfter terminals.Else others) (word terminals.Fi) (names_of_stmts others) (after_lawful terminals.Else others)))) ts h s)

  stmts_lawful : (ss : Stmts) → Lawful (SpellsStmts ss) (names_of_stmts ss)
  stmts_lawful stop = λ ts h s. absurd s
  stmts_lawful (seq s ss) =
      then_lawful (SpellsStmt s) (SpellsMore ss ▹ perhaps terminals.Semicolon) (names_of_stmt s) (names_of_stmts ss) (stmt_lawful s)
      (before_lawful (SpellsMore ss) (perhaps terminals.Semicolon) (names_of_stmts ss) (more_lawful ss))

  more_lawful : (ss : Stmts) → Lawful (SpellsMore ss) (names_of_stmts ss)
  more_lawful stop = none_lawful (SpellsMore stop)
  more_lawful (seq s ss) =
      after_word terminals.Semicolon (SpellsStmt s ▹ SpellsMore ss) (names_of_stmts (seq s ss))
      (then_lawful (SpellsStmt s) (SpellsMore ss) (names_of_stmt s) (names_of_stmts ss) (stmt_lawful s) (more_lawful ss))

  after_lawful : (t : Terminal) (ss : Stmts) → Lawful (SpellsAfter t ss) (names_of_stmts ss)
  after_lawful t stop = none_lawful (SpellsAfter t stop)
  after_lawful t (seq s ss) =
      after_word t (SpellsStmt s ▹ (SpellsMore ss ▹ perhaps terminals.Semicolon)) (names_of_stmts (seq s ss))
      (then_lawful (SpellsStmt s) (SpellsMore ss ▹ perhaps terminals.Semicolon) (names_of_stmt s) (names_of_stmts ss) (stmt_lawful s)
      (before_lawful (SpellsMore ss) (perhaps terminals.Semicolon) (names_of_stmts ss) (more_lawful ss)))

  arms_lawful : (arms : Arms) → Lawful (SpellsArms arms) (names_of_arms arms)
  arms_lawful no_arm = none_lawful (SpellsArms no_arm)
  arms_lawful (arm c ss more) =
      after_word terminals.Elseif (SpellsExpr 0 c ▹ (word terminals.Then ▹ (SpellsStmts ss ▹ SpellsArms more))) (names_of_arms (arm c ss more))
      (arm_lawful c (SpellsStmts ss) (SpellsArms more) (names_of_stmts ss) (names_of_arms more) (stmts_lawful ss) (arms_lawful more))

choice_lawful : (c : ChoiceTree) → Lawful (SpellsChoice c) (names_of_expr (expr_in c))
choice_lawful (exactly e) = expr_lawful 0 e
choice_lawful (any_below e) =
    after_word terminals.Any (enclosed (SpellsExpr 0 e)) (names_of_expr e) (enclosed_lawful (SpellsExpr 0 e) (names_of_expr e) (expr_lawful 0 e))

proposal_lawful : (p : ProposalTree) → Lawful (SpellsProposal p) (names_of_proposal p)
proposal_lawful p =
    let names = names_of_expr (expr_in p.choice) in
    name_then p.name (word terminals.Becomes ▹ SpellsChoice p.choice) names (after_word terminals.Becomes (SpellsChoice p.choice) names (choice_lawful p.choice))

transition_lawful : (t : TransitionTree) → Lawful (SpellsTransition t) (names_of_transition t)
transition_lawful t =
    let pre = optional terminals.Pre (SpellsExpr 0) t.pre in
    let proposals = optional_list terminals.Propose (separated terminals.Comma SpellsProposal) t.proposals in
    let effect = SpellsAfter terminals.Eff t.effect in
    let proposed = flat_map names_of_proposal t.proposals in
    let done = names_of_stmts t.effect in
    after_word (kind_word t.kind) (called t.name ▹ (pre ▹ (proposals ▹ effect))) (names_of_transition t)
    (name_then t.name (pre ▹ (proposals ▹ effect)) (names_of_option t.pre ++ (proposed ++ done))
    (then_lawful pre (proposals ▹ effect) (names_of_option t.pre) (proposed ++ done) (optional_lawful terminals.Pre (SpellsExpr 0) t.pre (expr_lawful 0))
    (then_lawful proposals effect proposed done
    (optional_list_lawful names_of_proposal terminals.Propose (separated terminals.Comma SpellsProposal) t.proposals (separated_lawful names_of_proposal SpellsProposal proposal_lawful terminals.Comma))
    (after_lawful terminals.Eff t.effect))))

automaton_lawful : (a : AutomatonTree) → Lawful (SpellsAutomaton a) (names_of_automaton a)
automaton_lawful a =
    let formals = optional_list terminals.Open SpellsFields a.formals in
    let entries = terminated terminals.Semicolon SpellsEntry a.entries in
    let variables = optional_list terminals.States (terminated terminals.Semicolon SpellsVariable) a.variables in
    let transitions = word terminals.Transitions ▹ many SpellsTransition a.transitions in
    let of_formals = flat_map names_of_field a.formals in
    let of_entries = flat_map names_of_entry a.entries in
    let of_variables = flat_map names_of_variable a.variables in
    let of_transitions = flat_map names_of_transition a.transitions in
    name_then a.name (formals ▹ (word terminals.Signature ▹ (entries ▹ (variables ▹ transitions)))) (of_formals ++ (of_entries ++ (of_variables ++ of_transitions)))
    (then_lawful formals (word terminals.Signature ▹ (entries ▹ (variables ▹ transitions))) of_formals (of_entries ++ (of_variables ++ of_transitions))
    (optional_list_lawful names_of_field terminals.Open SpellsFields a.formals (closed_lawful names_of_field SpellsField field_lawful))
    (after_word terminals.Signature (entries ▹ (variables ▹ transitions)) (of_entries ++ (of_variables ++ of_transitions))
    (then_lawful entries (variables ▹ transitions) of_entries (of_variables ++ of_transitions) (terminated_lawful names_of_entry SpellsEntry entry_lawful terminals.Semicolon a.entries)
    (then_lawful variables transitions of_variables of_transitions
    (optional_list_lawful names_of_variable terminals.States (terminated terminals.Semicolon SpellsVariable) a.variables (terminated_lawful names_of_variable SpellsVariable variable_lawful terminals.Semicolon))
    (after_word terminals.Transitions (many SpellsTransition a.transitions) of_transitions (many_lawful names_of_transition SpellsTransition transition_lawful a.transitions))))))

crash_lawful : (o : Option CrashTree) → Lawful (optional terminals.Crash SpellsCrash o) (names_of_crash o)
crash_lawful None = none_lawful (optional terminals.Crash SpellsCrash None)
crash_lawful (Some c) =
    after_word terminals.Crash (SpellsCrash c) (c.crash ∷ c.recover ∷ [])
    (name_then c.crash (word terminals.Recover ▹ called c.recover) (c.recover ∷ []) (after_word terminals.Recover (called c.recover) (c.recover ∷ []) (called_lawful c.recover)))

instance_lawful : (i : InstanceTree) → Lawful (SpellsInstance i) (names_of_instance i)
instance_lawful i =
    let arguments = optional_list terminals.Open SpellsArguments i.arguments in
    let crash = optional terminals.Crash SpellsCrash i.crash in
    let inner = flat_map names_of_expr i.arguments ++ names_of_crash i.crash in
    name_then i.name (word terminals.Colon ▹ (called i.automaton ▹ (arguments ▹ crash))) (i.automaton ∷ inner)
    (after_word terminals.Colon (called i.automaton ▹ (arguments ▹ crash)) (i.automaton ∷ inner)
    (name_then i.automaton (arguments ▹ crash) inner
    (then_lawful arguments crash (flat_map names_of_expr i.arguments) (names_of_crash i.crash)
    (optional_list_lawful names_of_expr terminals.Open SpellsArguments i.arguments (closed_lawful names_of_expr (SpellsExpr 0) (expr_lawful 0)))
    (crash_lawful i.crash))))

names_alone : (ns : List Name) → flat_map (λ n. n ∷ []) ns ≡ ns
names_alone [] = refl
names_alone (n ∷ ns) = ap (λ r. n ∷ r) (names_alone ns)

hidden_lawful : (ns : List Name) → Lawful (SpellsHidden ns) (flat_map (λ n. n ∷ []) ns)
hidden_lawful ns =
    let names = separated terminals.Comma called ns in
    before_lawful names (perhaps terminals.Semicolon) (flat_map (λ n. n ∷ []) ns) (separated_lawful (λ n. n ∷ []) called called_lawful terminals.Comma ns)

composition_lawful : (c : CompositionTree) → Lawful (SpellsComposition c) (names_of_composition c)
composition_lawful c =
    let hidden = optional_list terminals.Hidden SpellsHidden c.hidden in
    let of_instances = flat_map names_of_instance c.instances in
    name_then c.name (word terminals.Components ▹ (SpellsInstances c.instances ▹ hidden)) (of_instances ++ c.hidden)
    (after_word terminals.Components (SpellsInstances c.instances ▹ hidden) (of_instances ++ c.hidden)
    (then_lawful (SpellsInstances c.instances) hidden of_instances c.hidden
    (terminated_lawful names_of_instance SpellsInstance instance_lawful terminals.Semicolon c.instances)
    (λ ts h s. subst AreNames (names_alone c.hidden) (optional_list_lawful (λ n. n ∷ []) terminals.Hidden SpellsHidden c.hidden hidden_lawful ts h s))))

braced_lawful : {A : Type 0} (f : A → List Name) (L : A → Language) → ((x : A) → Lawful (L x) (f x)) → (xs : List A) → Lawful (braced L xs) (flat_map f xs)
braced_lawful f L each xs =
    after_word terminals.OpenBrace (separated terminals.Comma L xs ▹ word terminals.CloseBrace) (flat_map f xs)
    (before_lawful (separated terminals.Comma L xs) (word terminals.CloseBrace) (flat_map f xs) (separated_lawful f L each terminals.Comma xs))

form_lawful : (f : FormTree) → Lawful (SpellsForm f) (names_of_form f)
form_lawful (enumeration ns) ts h s =
    subst AreNames (names_alone ns) (after_word terminals.Enum (braced called ns) (flat_map (λ n. n ∷ []) ns) (braced_lawful (λ n. n ∷ []) called called_lawful ns) ts h s)
form_lawful (tuple fs) ts h s = after_word terminals.Tuple (braced SpellsField fs) (flat_map names_of_field fs) (braced_lawful names_of_field SpellsField field_lawful fs) ts h s
form_lawful (sequence most item) ts h s =
    let last = after_word terminals.Of (called item) (item ∷ []) (called_lawful item) in
    let number = single (tokens.number most) in
    after_word terminals.Seq (number ▹ (word terminals.Of ▹ called item)) (item ∷ []) (then_lawful number (word terminals.Of ▹ called item) [] (item ∷ []) (none_lawful number) last) ts h s

type_lawful : (t : TypeTree) → Lawful (SpellsType t) (names_of_type t)
type_lawful t = name_then t.name (word terminals.Equal ▹ SpellsForm t.form) (names_of_form t.form) (after_word terminals.Equal (SpellsForm t.form) (names_of_form t.form) (form_lawful t.form))

invariant_lawful : (i : InvariantTree) → Lawful (SpellsInvariant i) (names_of_invariant i)
invariant_lawful i =
    let condition = SpellsExpr 0 i.condition ▹ perhaps terminals.Semicolon in
    after_word terminals.Of (called i.automaton ▹ (word terminals.Colon ▹ condition)) (names_of_invariant i)
    (name_then i.automaton (word terminals.Colon ▹ condition) (names_of_expr i.condition)
    (after_word terminals.Colon condition (names_of_expr i.condition)
    (before_lawful (SpellsExpr 0 i.condition) (perhaps terminals.Semicolon) (names_of_expr i.condition) (expr_lawful 0 i.condition))))

declaration_lawful : (d : DeclarationTree) → Lawful (SpellsDeclaration d) (names_of_declaration d)
declaration_lawful (declared_type t) = after_word terminals.Type (SpellsType t) (names_of_type t) (type_lawful t)
declaration_lawful (automaton a) = after_word terminals.Automaton (SpellsAutomaton a) (names_of_automaton a) (automaton_lawful a)
declaration_lawful (composition c) = after_word terminals.Composition (SpellsComposition c) (names_of_composition c) (composition_lawful c)
declaration_lawful (invariant i) = after_word terminals.Invariant (SpellsInvariant i) (names_of_invariant i) (invariant_lawful i)

-- a source has legal names alone
pub source_legal : (s : SourceTree) → IsSource s → LegalNames s
source_legal s h = many_lawful names_of_declaration SpellsDeclaration declaration_lawful s h.0.0 h.0.1 h.0.2
