-- Readers of statements and choices against their languages, where those of the statements inside are exact.
use Rattle.std.proofs.Common.{◌≡◌, ℕ, ◌+◌, ◌-◌, ◌<◌, ◌⊎◌, inl, inr, max, true, false, ◌||◌, List, [], ◌∷◌, ◌++◌, length, refl, sym, ap, ◌∙◌, subst, arith, append_assoc}
use Rattle.ioa_value.specs.declared.terminal.Terminal.{Terminal}
use Rattle.ioa_value.specs.declared.terminal.Terminal.TheVariants as terminals
use Rattle.ioa_lex.specs.Tokens as tokens
use Rattle.ioa_lex.specs.Tokens.{Tok, terminal}
use Rattle.ioa_value.specs.Actions.{Name}
use Rattle.ioa_tree.specs.Tree.{Expr, Stmt, assign, choose, each, Stmts, stop, seq, Arms, no_arm, arm}
use Rattle.ioa_tree.specs.Depth.{depth_of, deepest, deep_stmt, deep_stmts, deep_arms, stmt_depth, stmts_depth, arms_depth}
use Rattle.ioa_grammar.specs.Grammar as grammar
use Rattle.ioa_grammar.specs.Grammar.{Language, SameHead, ◌▹◌, word, called, nothing, empty, each_after, perhaps, SpellsExpr, SpellsStmt, SpellsStmts, SpellsMore, SpellsAfter, SpellsArms}
use Rattle.ioa_grammar.specs.Reading.{Reader, built, sees, sees_name, is_name, is_terminal, sees_statement, same_terminal, sign, ◌▸◌, terminal_at, operator_of, expression, assignment, in_sequence, introduced, an_arm, more_arms, choice, a_loop}
use Rattle.ioa_tree.specs.Rows.{sequence, choices}
use Rattle.ioa_declarations.proofs.Outcomes.{LooksAhead, head_alike}
use Rattle.ioa_declarations.proofs.Exact.{ExactFor, any, deep_as, before, then, built_as, said_as}
use Rattle.ioa_declarations.proofs.Singles.{sign_for, name_for, introduced_exact}
use Rattle.ioa_declarations.proofs.Absent.{into_exact}
use Rattle.ioa_declarations.proofs.Lists.{terminated_exact, many_exact}
use Rattle.ioa_declarations.proofs.FirstTokens.{first_some, leads, alone}
use Rattle.ioa_declarations.proofs.Endings.{Ends}
use Rattle.ioa_declarations.proofs.Deepening.{expression_exact}

-- ---- statements and arms as lists

abbrev pub list_of : Stmts → List Stmt
list_of stop = []
list_of (seq s ss) = s ∷ list_of ss

abbrev pub pairs_of : Arms → List (Expr × Stmts)
pairs_of no_arm = []
pairs_of (arm c ss more) = (c, ss) ∷ pairs_of more

sequence_list : (ss : Stmts) → sequence (list_of ss) ≡ ss
sequence_list stop = refl
sequence_list (seq s ss) = ap (seq s) (sequence_list ss)

list_sequence : (xs : List Stmt) → list_of (sequence xs) ≡ xs
list_sequence [] = refl
list_sequence (s ∷ xs) = ap (λ r. s ∷ r) (list_sequence xs)

choices_pairs : (cs : Arms) → choices (pairs_of cs) ≡ cs
choices_pairs no_arm = refl
choices_pairs (arm c ss more) = ap (arm c ss) (choices_pairs more)

-- ---- languages, put together in another way

assoc_of : (L M N : Language) (ts : List Tok) → (L ▹ (M ▹ N)) ts → ((L ▹ M) ▹ N) ts
assoc_of L M N ts s = let m = s.3 in (s.0 ++ m.0, m.1, (s.0, m.0, s.2, m.2, refl), m.3, s.4 ∙ ap (λ z. s.0 ++ z) m.4 ∙ sym (append_assoc s.0 m.0 m.1))

assoc_to : (L M N : Language) (ts : List Tok) → ((L ▹ M) ▹ N) ts → (L ▹ (M ▹ N)) ts
assoc_to L M N ts s = let m = s.2 in (m.0, m.1 ++ s.1, m.2, (m.1, s.1, m.3, s.3, refl), s.4 ∙ ap (λ z. z ++ s.1) m.4 ∙ append_assoc m.0 m.1 s.1)

behind : (L M N : Language) → ((ts : List Tok) → M ts → N ts) → (ts : List Tok) → (L ▹ M) ts → (L ▹ N) ts
behind L M N f ts s = (s.0, s.1, s.2, f s.1 s.3, s.4)

in_front : (L M N : Language) → ((ts : List Tok) → L ts → M ts) → (ts : List Tok) → (L ▹ N) ts → (M ▹ N) ts
in_front L M N f ts s = (s.0, s.1, f s.0 s.2, s.3, s.4)

pub more_same : (ss : Stmts) → SpellsMore ss ≡ each_after terminals.Semicolon SpellsStmt (list_of ss)
more_same stop = refl
more_same (seq s ss) = ap (λ (L : Language). word terminals.Semicolon ▹ (SpellsStmt s ▹ L)) (more_same ss)

abbrev Listed : Stmts → Language
Listed ss = grammar.terminated terminals.Semicolon SpellsStmt (list_of ss)

abbrev Each : Stmts → Language
Each ss = each_after terminals.Semicolon SpellsStmt (list_of ss)

listed_of : (ss : Stmts) (ts : List Tok) → SpellsStmts ss ts → Listed ss ts
listed_of stop ts s = absurd s
listed_of (seq x ss) ts s = subst (λ (L : Language). ((SpellsStmt x ▹ L) ▹ perhaps terminals.Semicolon) ts) (more_same ss) (assoc_of (SpellsStmt x) (SpellsMore ss) (perhaps terminals.Semicolon) ts s)

listed_to : (ss : Stmts) (ts : List Tok) → Listed ss ts → SpellsStmts ss ts
listed_to stop ts s = absurd (s.2)
listed_to (seq x ss) ts s = assoc_to (SpellsStmt x) (SpellsMore ss) (perhaps terminals.Semicolon) ts (subst (λ (L : Language). ((SpellsStmt x ▹ L) ▹ perhaps terminals.Semicolon) ts) (sym (more_same ss)) s)

abbrev SpellsArm : Expr × Stmts → Language
SpellsArm c = SpellsExpr 0 c.0 ▹ (word terminals.Then ▹ SpellsStmts c.1)

abbrev SpellsItem : Expr × Stmts → Language
SpellsItem c = word terminals.Elseif ▹ SpellsArm c

-- an arm, and what comes behind it
arm_of : (c : Expr × Stmts) (N : Language) (ts : List Tok) → (SpellsExpr 0 c.0 ▹ (word terminals.Then ▹ (SpellsStmts c.1 ▹ N))) ts → (SpellsArm c ▹ N) ts
arm_of c N ts s =
    assoc_of (SpellsExpr 0 c.0) (word terminals.Then ▹ SpellsStmts c.1) N ts
    (behind (SpellsExpr 0 c.0) (word terminals.Then ▹ (SpellsStmts c.1 ▹ N)) ((word terminals.Then ▹ SpellsStmts c.1) ▹ N) (assoc_of (word terminals.Then) (SpellsStmts c.1) N) ts s)

arm_to : (c : Expr × Stmts) (N : Language) (ts : List Tok) → (SpellsArm c ▹ N) ts → (SpellsExpr 0 c.0 ▹ (word terminals.Then ▹ (SpellsStmts c.1 ▹ N))) ts
arm_to c N ts s =
    behind (SpellsExpr 0 c.0) ((word terminals.Then ▹ SpellsStmts c.1) ▹ N) (word terminals.Then ▹ (SpellsStmts c.1 ▹ N)) (assoc_to (word terminals.Then) (SpellsStmts c.1) N) ts
    (assoc_to (SpellsExpr 0 c.0) (word terminals.Then ▹ SpellsStmts c.1) N ts s)

abbrev SpellsChoices : List (Expr × Stmts) → Language
SpellsChoices cs = SpellsArms (choices cs)

items_of : (cs : List (Expr × Stmts)) (ts : List Tok) → SpellsChoices cs ts → grammar.many SpellsItem cs ts
items_of [] ts s = s
items_of (c ∷ cs) ts s =
    assoc_of (word terminals.Elseif) (SpellsArm c) (grammar.many SpellsItem cs) ts
    (behind (word terminals.Elseif) (SpellsExpr 0 c.0 ▹ (word terminals.Then ▹ (SpellsStmts c.1 ▹ SpellsChoices cs))) (SpellsArm c ▹ grammar.many SpellsItem cs)
    (λ ts s. behind (SpellsArm c) (SpellsChoices cs) (grammar.many SpellsItem cs) (items_of cs) ts (arm_of c (SpellsChoices cs) ts s)) ts s)

items_to : (cs : List (Expr × Stmts)) (ts : List Tok) → grammar.many SpellsItem cs ts → SpellsChoices cs ts
items_to [] ts s = s
items_to (c ∷ cs) ts s =
    behind (word terminals.Elseif) (SpellsArm c ▹ grammar.many SpellsItem cs) (SpellsExpr 0 c.0 ▹ (word terminals.Then ▹ (SpellsStmts c.1 ▹ SpellsChoices cs)))
    (λ ts s. arm_to c (SpellsChoices cs) ts (behind (SpellsArm c) (grammar.many SpellsItem cs) (SpellsChoices cs) (items_to cs) ts s)) ts
    (assoc_to (word terminals.Elseif) (SpellsArm c) (grammar.many SpellsItem cs) ts s)

-- ---- first tokens

pub sees_statement_alike : LooksAhead sees_statement
unfolding sees_statement sees_name sees
sees_statement_alike = head_alike sees_statement false (λ x. is_name x || (is_terminal terminals.If x || is_terminal terminals.For x)) refl (λ x ts. refl)

name_begins : (n : Name) (z : List Tok) → sees_statement (tokens.name n ∷ z) ≡ true
unfolding sees_statement sees_name
name_begins n z = refl

if_begins : (z : List Tok) → sees_statement (terminal terminals.If ∷ z) ≡ true
unfolding sees_statement sees_name sees same_terminal
if_begins z = refl

for_begins : (z : List Tok) → sees_statement (terminal terminals.For ∷ z) ≡ true
unfolding sees_statement sees_name sees same_terminal
for_begins z = refl

for_is_no_if : (z : List Tok) → sees terminals.If (terminal terminals.For ∷ z) ≡ false
unfolding sees same_terminal
for_is_no_if z = refl

name_is_no_for : (n : Name) (z : List Tok) → sees terminals.For (tokens.name n ∷ z) ≡ false
unfolding sees
name_is_no_for n z = refl

name_is_no_if : (n : Name) (z : List Tok) → sees terminals.If (tokens.name n ∷ z) ≡ false
unfolding sees
name_is_no_if n z = refl

-- what follows `if`
abbrev pub ByChoice : Stmt → Language
ByChoice (assign n e) = empty
ByChoice (choose no_arm others) = empty
ByChoice (choose (arm c ss more) others) = SpellsExpr 0 c ▹ (word terminals.Then ▹ (SpellsStmts ss ▹ (SpellsArms more ▹ (SpellsAfter terminals.Else others ▹ word terminals.Fi))))
ByChoice (each x e ss) = empty

-- what follows `for`
abbrev pub ByLoop : Stmt → Language
ByLoop (assign n e) = empty
ByLoop (choose arms others) = empty
ByLoop (each x e ss) = called x ▹ (word terminals.In ▹ (SpellsExpr 0 e ▹ (word terminals.Do ▹ (SpellsStmts ss ▹ word terminals.Od))))

abbrev pub ByAssignment : Stmt → Language
ByAssignment (assign n e) = called n ▹ (word terminals.Becomes ▹ SpellsExpr 0 e)
ByAssignment (choose arms others) = empty
ByAssignment (each x e ss) = empty

-- all but choices
abbrev pub Unconditional : Stmt → Language
Unconditional (assign n e) = ByAssignment (assign n e)
Unconditional (choose arms others) = empty
Unconditional (each x e ss) = word terminals.For ▹ ByLoop (each x e ss)

abbrev Other : Stmt → Language
Other x = λ ts. ((word terminals.For ▹ ByLoop x) ts) ⊎ ByAssignment x ts

pub other_of : (x : Stmt) (ts : List Tok) → Unconditional x ts → Other x ts
other_of (assign n e) ts s = inr s
other_of (choose arms others) ts s = absurd s
other_of (each x e ss) ts s = inl s

pub other_to : (x : Stmt) (ts : List Tok) → Other x ts → Unconditional x ts
other_to (assign n e) ts (inl s) = absurd (s.3)
other_to (assign n e) ts (inr s) = s
other_to (choose arms others) ts (inl s) = absurd (s.3)
other_to (choose arms others) ts (inr s) = absurd s
other_to (each x e ss) ts (inl s) = s
other_to (each x e ss) ts (inr s) = absurd s

abbrev Either : Stmt → Language
Either x = λ ts. ((word terminals.If ▹ ByChoice x) ts) ⊎ Unconditional x ts

pub either_of : (x : Stmt) (ts : List Tok) → SpellsStmt x ts → Either x ts
either_of (assign n e) ts s = inr s
either_of (each x e ss) ts s = inr s
either_of (choose no_arm others) ts s = absurd s
either_of (choose (arm c ss more) others) ts s = inl s

pub either_to : (x : Stmt) (ts : List Tok) → Either x ts → SpellsStmt x ts
either_to (each x e ss) ts (inr s) = s
either_to (each x e ss) ts (inl s) = absurd (s.3)
either_to (assign n e) ts (inr s) = s
either_to (assign n e) ts (inl s) = absurd (s.3)
either_to (choose no_arm others) ts (inl s) = absurd (s.3)
either_to (choose no_arm others) ts (inr s) = absurd s
either_to (choose (arm c ss more) others) ts (inl s) = s
either_to (choose (arm c ss more) others) ts (inr s) = absurd s

pub assignment_unseen : (x : Stmt) (ts left : List Tok) → ByAssignment x ts → sees terminals.For (ts ++ left) ≡ false
assignment_unseen (assign n e) ts left s = leads (λ z. sees terminals.For z ≡ false) (tokens.name n) (word terminals.Becomes ▹ SpellsExpr 0 e) ts left (name_is_no_for n) s
assignment_unseen (choose arms others) ts left s = absurd s
assignment_unseen (each x e ss) ts left s = absurd s

pub unconditional_unseen : (x : Stmt) (ts left : List Tok) → Unconditional x ts → sees terminals.If (ts ++ left) ≡ false
unconditional_unseen (assign n e) ts left s = leads (λ z. sees terminals.If z ≡ false) (tokens.name n) (word terminals.Becomes ▹ SpellsExpr 0 e) ts left (name_is_no_if n) s
unconditional_unseen (choose arms others) ts left s = absurd s
unconditional_unseen (each x e ss) ts left s = leads (λ z. sees terminals.If z ≡ false) (terminal terminals.For) (ByLoop (each x e ss)) ts left for_is_no_if s

pub statement_some : (x : Stmt) (ts : List Tok) → SpellsStmt x ts → 0 < length ts
statement_some (assign n e) ts s = first_some (tokens.name n) (word terminals.Becomes ▹ SpellsExpr 0 e) ts s
statement_some (choose no_arm others) ts s = absurd s
statement_some (each x e ss) ts s = first_some (terminal terminals.For) (ByLoop (each x e ss)) ts s
statement_some (choose (arm c ss more) others) ts s = first_some (terminal terminals.If) (ByChoice (choose (arm c ss more) others)) ts s

pub statement_begins : (x : Stmt) (ts left : List Tok) → SpellsStmt x ts → sees_statement (ts ++ left) ≡ true
statement_begins (assign n e) ts left s = leads (λ z. sees_statement z ≡ true) (tokens.name n) (word terminals.Becomes ▹ SpellsExpr 0 e) ts left (name_begins n) s
statement_begins (choose no_arm others) ts left s = absurd s
statement_begins (each x e ss) ts left s = leads (λ z. sees_statement z ≡ true) (terminal terminals.For) (ByLoop (each x e ss)) ts left for_begins s
statement_begins (choose (arm c ss more) others) ts left s = leads (λ z. sees_statement z ≡ true) (terminal terminals.If) (ByChoice (choose (arm c ss more) others)) ts left if_begins s

item_some : (c : Expr × Stmts) (ts : List Tok) → SpellsItem c ts → 0 < length ts
item_some c ts s = first_some (terminal terminals.Elseif) (SpellsArm c) ts s

-- what may follow statements
pub record AfterStatements (left : List Tok) : Type 0 where
  pub ends : Ends 0 left
  pub semicolon : sees terminals.Semicolon left ≡ false
  pub begins : sees_statement left ≡ false

abbrev pub AfterArms : Language
AfterArms left = AfterStatements left × (sees terminals.Elseif left ≡ false)

pub ends_semicolon : (z : List Tok) → Ends 0 (terminal terminals.Semicolon ∷ z)
unfolding terminal_at operator_of sees same_terminal
ends_semicolon z = (tt, refl, refl)

ends_then : (z : List Tok) → Ends 0 (terminal terminals.Then ∷ z)
unfolding terminal_at operator_of sees same_terminal
ends_then z = (tt, refl, refl)

ends_do : (z : List Tok) → Ends 0 (terminal terminals.Do ∷ z)
unfolding terminal_at operator_of sees same_terminal
ends_do z = (tt, refl, refl)

at_od : (z : List Tok) → AfterStatements (terminal terminals.Od ∷ z)
unfolding sees same_terminal terminal_at operator_of sees_statement sees_name
at_od z = record { ends = (tt, refl, refl); semicolon = refl; begins = refl }

at_elseif : (z : List Tok) → AfterStatements (terminal terminals.Elseif ∷ z)
unfolding sees same_terminal terminal_at operator_of sees_statement sees_name
at_elseif z = record { ends = (tt, refl, refl); semicolon = refl; begins = refl }

at_else : (z : List Tok) → AfterArms (terminal terminals.Else ∷ z)
unfolding sees same_terminal terminal_at operator_of sees_statement sees_name
at_else z = (record { ends = (tt, refl, refl); semicolon = refl; begins = refl }, refl)

at_fi : (z : List Tok) → AfterArms (terminal terminals.Fi ∷ z)
unfolding sees same_terminal terminal_at operator_of sees_statement sees_name
at_fi z = (record { ends = (tt, refl, refl); semicolon = refl; begins = refl }, refl)

fi_is_no_else : (z : List Tok) → sees terminals.Else (terminal terminals.Fi ∷ z) ≡ false
unfolding sees same_terminal
fi_is_no_else z = refl

elseif_seen : (z : List Tok) → sees terminals.Elseif (terminal terminals.Elseif ∷ z) ≡ true
unfolding sees same_terminal
elseif_seen z = refl

elseif_alike : LooksAhead (sees terminals.Elseif)
unfolding sees
elseif_alike = head_alike (sees terminals.Elseif) false (is_terminal terminals.Elseif) refl (λ x ts. refl)

elseif_none : sees terminals.Elseif [] ≡ false
unfolding sees
elseif_none = refl

abbrev Ending : Stmts → Language
Ending others = SpellsAfter terminals.Else others ▹ word terminals.Fi

pub by_after : (F : Language) (t : Terminal) (ss : Stmts) (ts left : List Tok) → ((z : List Tok) → F (terminal t ∷ z)) → F left → SpellsAfter t ss ts → F (ts ++ left)
by_after F t stop ts left h here s = alone F ts left s here
by_after F t (seq x ss) ts left h here s = leads F (terminal t) (SpellsStmts (seq x ss)) ts left h s

ending_follows : (F : Language) (others : Stmts) (ts left : List Tok) → ((z : List Tok) → F (terminal terminals.Else ∷ z)) → ((z : List Tok) → F (terminal terminals.Fi ∷ z)) → Ending others ts → F (ts ++ left)
ending_follows F others ts left h g s =
    subst F (sym (ap (λ z. z ++ left) s.4 ∙ append_assoc s.0 s.1 left))
    (by_after F terminals.Else others s.0 (s.1 ++ left) h (subst (λ z. F (z ++ left)) (sym s.3) (g left)) s.2)

arms_follow : (cs : List (Expr × Stmts)) (others : Stmts) (ts left : List Tok) → (SpellsChoices cs ▹ Ending others) ts → AfterStatements (ts ++ left)
arms_follow [] others ts left s =
    subst (λ z. AfterStatements (z ++ left)) (sym (s.4 ∙ ap (λ z. z ++ s.1) s.2)) (ending_follows AfterStatements others s.1 left (λ z. (at_else z).0) (λ z. (at_fi z).0) s.3)
arms_follow (c ∷ cs) others ts left s =
    subst AfterStatements (sym (ap (λ z. z ++ left) s.4 ∙ append_assoc s.0 s.1 left))
    (leads AfterStatements (terminal terminals.Elseif) (SpellsExpr 0 c.0 ▹ (word terminals.Then ▹ (SpellsStmts c.1 ▹ SpellsChoices cs))) s.0 (s.1 ++ left) at_elseif s.2)

-- ---- how many levels are needed, where expressions may be k levels deeper

abbrev pub stmt_needs : ℕ → Stmt → ℕ
stmt_needs k s = max (deep_stmt s - k) (stmt_depth s)

abbrev pub stmts_need : ℕ → Stmts → ℕ
stmts_need k ss = max (deep_stmts ss - k) (stmts_depth ss)

abbrev arms_need : ℕ → Arms → ℕ
arms_need k cs = max (deep_arms cs - k) (arms_depth cs)

-- what stands in a statement
abbrev pub parts_need : ℕ → Stmt → ℕ
parts_need k s = max (deep_stmt s - k) (stmt_depth s - 1)

abbrev arm_needs : ℕ → Expr × Stmts → ℕ
arm_needs k c = max (depth_of c.0 - k) (stmts_need k c.1)

stmts_needed : (k : ℕ) (ss : Stmts) → stmts_need k ss ≡ deepest (stmt_needs k) (list_of ss)
stmts_needed k stop = omega arith
stmts_needed k (seq s ss) = omega (arith, stmts_needed k ss)

arms_needed : (k : ℕ) (cs : List (Expr × Stmts)) → arms_need k (choices cs) ≡ deepest (arm_needs k) cs
arms_needed k [] = omega arith
arms_needed k (c ∷ cs) = omega (arith, arms_needed k cs)

max_less : (a b k : ℕ) → max a b - k ≡ max (a - k) (b - k)
max_less a b k = omega arith

max_last : (a b c : ℕ) → max (max a b) c ≡ max a (max b (max c 0))
max_last a b c = omega arith

max_swap : (a b c d : ℕ) → max (max a b) (max c d) ≡ max (max a c) (max b d)
max_swap a b c d = omega arith

max_regroup : (a b c d e : ℕ) → max (max a (max b c)) (max d e) ≡ max (max a (max b d)) (max c e)
max_regroup a b c d e = omega arith

-- what a choice needs, of what its first condition, the statements there, the other arms and the last statements need
choice_needs : (k c s t a b o p : ℕ) → max (max (max c (max s a)) o - k) (max (max t b) p + 1 - 1) ≡ max (max (c - k) (max (s - k) t)) (max (max (a - k) b) (max (max (o - k) p) 0))
choice_needs k c s t a b o p =
    let less : max (max c (max s a)) o - k ≡ max (max (c - k) (max (s - k) (a - k))) (o - k) =
    max_less (max c (max s a)) o k ∙ ap (λ z. max z (o - k)) (max_less c (max s a) k ∙ ap (max (c - k)) (max_less s a k)) in
    let same : max (max t b) p + 1 - 1 ≡ max (max t b) p = omega arith in
    ap (λ z. max z (max (max t b) p + 1 - 1)) less ∙ ap (max (max (max (c - k) (max (s - k) (a - k))) (o - k))) same
    ∙ max_swap (max (c - k) (max (s - k) (a - k))) (o - k) (max t b) p
    ∙ ap (λ z. max z (max (o - k) p)) (max_regroup (c - k) (s - k) (a - k) t b)
    ∙ max_last (max (c - k) (max (s - k) t)) (max (a - k) b) (max (o - k) p)

-- what a loop needs, of what it goes over and its statements
loop_needs : (k e s t : ℕ) → max (max e s - k) (t + 1 - 1) ≡ max 0 (max 0 (max (e - k) (max 0 (max (max (s - k) t) 0))))
loop_needs k e s t =
    let same : t + 1 - 1 ≡ t = omega arith in
    ap (λ z. max z (t + 1 - 1)) (max_less e s k) ∙ ap (max (max (e - k) (s - k))) same ∙ regrouped (e - k) (s - k) t
  where
    regrouped : (a b c : ℕ) → max (max a b) c ≡ max 0 (max 0 (max a (max 0 (max (max b c) 0))))
    regrouped a b c = omega arith

pub stmt_positive : (s : Stmt) → 0 < stmt_depth s
stmt_positive (assign n e) = omega arith
stmt_positive (choose arms others) = omega arith
stmt_positive (each x e ss) = omega arith

-- expressions that may be k levels deeper
expressions_for : {I : Type 0} {levels : I → ℕ} (depth : I → ℕ) (k : ℕ) → ((i : I) → depth i ≡ levels i + k) → ExactFor levels (SpellsExpr 0) (λ e. depth_of e - k) (Ends 0) (λ i. expression (depth i))
expressions_for {levels = levels} depth k is = record {
  complete = λ i x ts left s d f. expression_exact.complete (depth i) x ts left s (omega (arith, is i)) f;
  sound = λ i ts x left h. let m = expression_exact.sound (depth i) ts x left h in record { front = m.front; spells = m.spells; apart = m.apart; within = omega (arith, is i, m.within) };
  shrinks = λ i. expression_exact.shrinks (depth i);
  alike = λ i j le s s' same c. expression_exact.alike (depth i) (depth j) (omega (arith, is i, is j)) s s' same c;
  long = λ i ts h. let far = expression_exact.long (depth i) ts h in omega (arith, is i);
}

pub assignments_for : {I : Type 0} {levels : I → ℕ} (depth : I → ℕ) (k : ℕ) → ((i : I) → depth i ≡ levels i + k) → ExactFor levels ByAssignment (parts_need k) (Ends 0) (λ i. assignment (depth i))
unfolding assignment
assignments_for depth k is =
    into_exact (λ p. assign p.0 p.1.1) (then name_for (then (sign_for terminals.Becomes) (expressions_for depth k is) (λ y ts left s g. tt)) (λ y ts left s g. tt)) ByAssignment (parts_need k) of (λ x ts s. s) (λ x. omega arith)
  where
    of : (y : Stmt) (ts : List Tok) → ByAssignment y ts → (x : Name × (Unit {0} × Expr)) × (assign x.0 x.1.1 ≡ y) × (called x.0 ▹ (word terminals.Becomes ▹ SpellsExpr 0 x.1.1)) ts
    of (assign n e) ts s = ((n, (tt, e)), refl, s)
    of (choose arms others) ts s = absurd s
    of (each x e ss) ts s = absurd s

pub sequences_for : {I : Type 0} {levels : I → ℕ} (k : ℕ) (one : I → Reader Stmt) → ExactFor levels SpellsStmt (stmt_needs k) (Ends 0) one → ExactFor levels SpellsStmts (stmts_need k) AfterStatements (λ i. in_sequence (one i))
unfolding in_sequence
sequences_for k one p =
    said_as SpellsStmts listed_of listed_to
    (deep_as (stmts_need k) (stmts_needed k)
    (built_as sequence list_of sequence_list list_sequence
    (before AfterStatements (λ left a. (a.ends, a.semicolon, a.begins)) (terminated_exact sees_statement sees_statement_alike terminals.Semicolon p statement_some ends_semicolon statement_begins))))

abbrev AfterElse : Language
AfterElse left = AfterStatements left × (sees terminals.Else left ≡ false)

-- ---- choices

module _ {I : Type 0} {levels : I → ℕ} (depth : I → ℕ) (k : ℕ) (is : (i : I) → depth i ≡ levels i + k) (inner : I → Reader Stmts)
    (p : ExactFor levels SpellsStmts (stmts_need k) AfterStatements inner) where
  pub introduced_for : (t : Terminal) → ExactFor levels (SpellsAfter t) (stmts_need k) (λ left. AfterStatements left × (sees t left ≡ false)) (λ i. introduced t (inner i))
  unfolding introduced
  introduced_for t = said_as (SpellsAfter t) of to (introduced_exact t stop p (omega arith))
    where
      of : (ss : Stmts) (ts : List Tok) → SpellsAfter t ss ts → ((word t ▹ SpellsStmts ss) ts) ⊎ ((ss ≡ stop) × nothing ts)
      of stop ts s = inr (refl, s)
      of (seq x ss) ts s = inl s

      to : (ss : Stmts) (ts : List Tok) → ((word t ▹ SpellsStmts ss) ts) ⊎ ((ss ≡ stop) × nothing ts) → SpellsAfter t ss ts
      to stop ts (inr s) = s.1
      to stop ts (inl s) = absurd (s.3)
      to (seq x ss) ts (inl s) = s
      to (seq x ss) ts (inr s) = absurd (cc (s.0))

  arm_for : ExactFor levels SpellsArm (arm_needs k) AfterStatements (λ i. an_arm (depth i) (inner i))
  unfolding an_arm
  arm_for =
      deep_as (arm_needs k) (λ c. omega arith)
      (built_as (λ p. (p.0, p.1.1)) (λ c. (c.0, (tt, c.1))) (λ c. refl) (λ p. refl)
      (then (expressions_for depth k is) (then (sign_for terminals.Then) p (λ y ts left s g. tt)) (λ y ts left s g. leads (Ends 0) (terminal terminals.Then) (SpellsStmts y.1) ts left ends_then s)))

  item_for : ExactFor levels SpellsItem (arm_needs k) AfterStatements (λ i. built (λ p. p.1) (sign terminals.Elseif ▸ an_arm (depth i) (inner i)))
  item_for =
      deep_as (arm_needs k) (λ c. omega arith)
      (built_as (λ p. p.1) (λ c. (tt, c)) (λ c. refl) (λ p. refl) (then (sign_for terminals.Elseif) arm_for (λ y ts left s g. tt)))

  more_arms_for : ExactFor levels SpellsChoices (λ cs. arms_need k (choices cs)) AfterArms (λ i. more_arms (depth i) (inner i))
  unfolding more_arms
  more_arms_for =
      said_as SpellsChoices items_of items_to
      (deep_as (λ cs. arms_need k (choices cs)) (arms_needed k)
      (many_exact (sees terminals.Elseif) elseif_alike elseif_none item_for item_some
      (λ c ts left s. leads AfterStatements (terminal terminals.Elseif) (SpellsArm c) ts left at_elseif s)
      (λ c ts left s. leads (λ z. sees terminals.Elseif z ≡ true) (terminal terminals.Elseif) (SpellsArm c) ts left elseif_seen s)))

  pub loop_for : ExactFor levels ByLoop (parts_need k) any (λ i. a_loop (depth i) (inner i))
  unfolding a_loop
  loop_for =
      into_exact (λ p. each p.0 p.1.1.0 p.1.1.1.1.0)
      (then name_for
      (then (sign_for terminals.In)
      (then (expressions_for depth k is)
      (then (sign_for terminals.Do)
      (then p (sign_for terminals.Od) (λ y ts left s g. subst (λ z. AfterStatements (z ++ left)) (sym s) (at_od left)))
      (λ y ts left s g. tt))
      (λ y ts left s g. leads (Ends 0) (terminal terminals.Do) (SpellsStmts y.1.0 ▹ word terminals.Od) ts left ends_do s))
      (λ y ts left s g. tt))
      (λ y ts left s g. tt))
      ByLoop (parts_need k) of (λ x ts s. s) (λ x. loop_needs k (depth_of x.1.1.0) (deep_stmts x.1.1.1.1.0) (stmts_depth x.1.1.1.1.0))
    where
      of : (y : Stmt) (ts : List Tok) → ByLoop y ts →
          (x : Name × (Unit {0} × (Expr × (Unit {0} × (Stmts × Unit {0}))))) × (each x.0 x.1.1.0 x.1.1.1.1.0 ≡ y)
          × (called x.0 ▹ (word terminals.In ▹ (SpellsExpr 0 x.1.1.0 ▹ (word terminals.Do ▹ (SpellsStmts x.1.1.1.1.0 ▹ word terminals.Od))))) ts
      of (assign n e) ts s = absurd s
      of (choose arms others) ts s = absurd s
      of (each x e ss) ts s = ((x, (tt, (e, (tt, (ss, tt))))), refl, s)

  pub choice_for : ExactFor levels ByChoice (parts_need k) any (λ i. choice (depth i) (inner i))
  unfolding choice
  choice_for =
      into_exact (λ p. choose (arm p.0.0 p.0.1 (choices p.1.0)) p.1.1.0)
      (then arm_for
      (then more_arms_for
      (then (introduced_for terminals.Else) (sign_for terminals.Fi) (λ y ts left s g. subst (λ z. AfterElse (z ++ left)) (sym s) ((at_fi left).0, fi_is_no_else left)))
      (λ y ts left s g. ending_follows AfterArms y.0 ts left at_else at_fi s))
      (λ y ts left s g. arms_follow y.0 y.1.0 ts left s))
      ByChoice (parts_need k) of (λ x ts s. arm_to x.0 (SpellsChoices x.1.0 ▹ Ending x.1.1.0) ts s)
      (λ x. choice_needs k (depth_of x.0.0) (deep_stmts x.0.1) (stmts_depth x.0.1) (deep_arms (choices x.1.0)) (arms_depth (choices x.1.0)) (deep_stmts x.1.1.0) (stmts_depth x.1.1.0))
    where
      of : (y : Stmt) (ts : List Tok) → ByChoice y ts →
          (x : (Expr × Stmts) × (List (Expr × Stmts) × (Stmts × Unit {0}))) × (choose (arm x.0.0 x.0.1 (choices x.1.0)) x.1.1.0 ≡ y) × (SpellsArm x.0 ▹ (SpellsChoices x.1.0 ▹ Ending x.1.1.0)) ts
      of (assign n e) ts s = absurd s
      of (each x e ss) ts s = absurd s
      of (choose no_arm others) ts s = absurd s
      of (choose (arm c ss more) others) ts s =
          let same = choices_pairs more in (
            ((c, ss), (pairs_of more, (others, tt))),
            ap (λ more. choose (arm c ss more) others) same,
            arm_of (c, ss) (SpellsChoices (pairs_of more) ▹ Ending others) ts
                (subst (λ more. (SpellsExpr 0 c ▹ (word terminals.Then ▹ (SpellsStmts ss ▹ (SpellsArms more ▹ Ending others)))) ts) (sym same) s),
          )
