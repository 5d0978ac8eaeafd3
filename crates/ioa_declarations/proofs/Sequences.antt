-- Statements and arms, as lists and as trees of their own.
use Rattle.std.proofs.Common.{◌≡◌, ℕ, zero, suc, ◌-◌, ◌<◌, arith, Bool, true, false, List, [], ◌∷◌, ◌++◌, length, map, refl, ap, ◌∙◌, Vec, Global, Result, Ok, Err}
use Rattle.ioa_value.specs.declared.terminal.Terminal.TheVariants as terminals
use Rattle.ioa_value.specs.Actions.{Name}
use Rattle.ioa_lex.specs.Tokens.{Tok, tokens_shown, kind_shown}
use Rattle.ioa_lex.specs.declared.token.Token.{Token}
use Rattle.std.proofs.lemmas.List.{length-map}
use Rattle.ioa_grammar.specs.declared.fault.Fault.{Fault}
use Rattle.ioa_grammar.specs.declared.fault.ReadError.{ReadError}
use Rattle.ioa_grammar.specs.declared.fault.ReadError.TheVariants as errors
use Rattle.ioa_tree.specs.declared.tree.Statement.{Statement}
use Rattle.ioa_tree.specs.declared.tree.Arm.{Arm}
use Rattle.ioa_tree.specs.Tree.{Expr, Stmt, Stmts, choose, each, arm}
use Rattle.ioa_grammar.specs.Reading.{Outcome, Reader, ReadsAs, Fails, ◌>>=◌, ◌▸◌, built, many, many_from, sees, after, unconditional, statement, sees_statement, terminated, in_sequence, an_arm, more_arms, introduced, sign, a_name, expression, choice, a_loop}
use Rattle.ioa_tree.specs.Rows.{sequence, choices}
use Rattle.ioa_tree.specs.View.{stmt_of, stmts_of, arm_of, arms_of}
use Rattle.ioa_declarations.proofs.Outcomes.{ok_pair}
use Rattle.ioa_tree.proofs.StatementRows.{sequence_shown, choices_shown}

-- ---- what was read

sequence_read : (one : Reader Stmt) (ts left : List Tok) (ss : List Statement) → terminated sees_statement terminals.Semicolon one ts ≡ Ok (map stmt_of ss, left) → in_sequence one ts ≡ Ok (stmts_of ss, left)
unfolding in_sequence
sequence_read one ts left ss read = ap (λ o. o >>= λ x. Ok (sequence x.0, x.1)) read ∙ ap (λ r. Ok (r, left)) (sequence_shown ss)

sequence_fails : (one : Reader Stmt) (ts : List Tok) (e : ReadError) → Fails e (terminated sees_statement terminals.Semicolon one ts) → Fails e (in_sequence one ts)
unfolding in_sequence
sequence_fails one ts errors.OutOfMemory failed = tt
sequence_fails one ts (errors.Fault f) failed = ap (λ o. o >>= λ x. Ok (sequence x.0, x.1)) failed

pub sequence_reads : (one : Reader Stmt) (ts left : List Tok) (r : Result (Vec Statement Global) ReadError) →
    ReadsAs (λ v. map stmt_of v.items) (terminated sees_statement terminals.Semicolon one ts) r left → ReadsAs (λ v. stmts_of v.items) (in_sequence one ts) r left
sequence_reads one ts left (Ok v) read = sequence_read one ts left v.items read
sequence_reads one ts left (Err e) read = sequence_fails one ts e read

pub statement_plain : (depth levels : ℕ) (ts : List Tok) → 0 < levels → sees terminals.If ts ≡ false
    → statement depth levels ts ≡ unconditional depth (in_sequence (statement depth (levels - 1))) (after terminals.If ts)
unfolding statement
statement_plain depth zero ts some unseen = absurd (omega arith)
statement_plain depth (suc levels) ts some unseen = let e : suc levels - 1 ≡ levels = omega arith in rw (unseen, e) refl

pub statement_choice : (depth levels : ℕ) (ts : List Tok) → 0 < levels → sees terminals.If ts ≡ true → statement depth levels ts ≡ choice depth (in_sequence (statement depth (levels - 1))) (after terminals.If ts)
unfolding statement
statement_choice depth zero ts some seen = absurd (omega arith)
statement_choice depth (suc levels) ts some seen = let e : suc levels - 1 ≡ levels = omega arith in rw (seen, e) refl

-- what was found before may be put in front afterwards
pub found_before : {A : Type 0} (begins : List Tok → Bool) (item : Reader A) (n : ℕ) (x : A) (found : List A) (ts : List Tok) →
    many_from begins item n (x ∷ found) ts ≡ built (λ more. x ∷ more) (many_from begins item n found) ts
unfolding many_from
found_before begins item zero x found ts = refl
found_before {A} begins item (suc n) x found ts = by (λ p. found_before begins item n x (found ++ p.0 ∷ []) p.1) (begins ts) refl (item ts) refl
  where
    by : ((p : A × List Tok) → many_from begins item n (x ∷ (found ++ p.0 ∷ [])) p.1 ≡ built (λ more. x ∷ more) (many_from begins item n (found ++ p.0 ∷ [])) p.1) →
        (b : Bool) → begins ts ≡ b → (o : Outcome A) → item ts ≡ o → many_from begins item (suc n) (x ∷ found) ts ≡ built (λ more. x ∷ more) (many_from begins item (suc n) found) ts
    by more false e o read = rw e refl
    by more true e (Ok p) read = rw (e, read) (more p)
    by more true e (Err f) read = rw (e, read) refl

pub arms_start : (depth count : ℕ) (inner : Reader Stmts) (first : Arm) (found : List Arm) (tokens : List Token) → found ≡ first ∷ [] → count ≡ length tokens →
    many_from (sees terminals.Elseif) (built (λ p. p.1) (sign terminals.Elseif ▸ an_arm depth inner)) (count - 0) (map arm_of found) (tokens_shown tokens)
    ≡ built (λ more. arm_of first ∷ more) (more_arms depth inner) (tokens_shown tokens)
unfolding more_arms many
arms_start depth count inner first found tokens one is =
    let item = built (λ p. p.1) (sign terminals.Elseif ▸ an_arm depth inner) in
    let ts = tokens_shown tokens in
    let e : count - 0 ≡ length ts = omega (arith, is, length-map tokens (λ t. kind_shown t.kind)) in
    ap (λ n. many_from (sees terminals.Elseif) item n (map arm_of found) ts) e
    ∙ ap (λ r. many_from (sees terminals.Elseif) item (length ts) (map arm_of r) ts) one
    ∙ found_before (sees terminals.Elseif) item (length ts) (arm_of first) [] ts

abbrev in_front : {A : Type 0} → A → List A × List Tok → Outcome (List A)
in_front a p = Ok (a ∷ p.0, p.1)

parted : {A : Type 0} (a : A) (o : Outcome (List A)) (all : List A) (left : List Tok) → (o >>= in_front a) ≡ Ok (all, left) →
    (more : List A) × (o ≡ Ok (more, left)) × (a ∷ more ≡ all)
parted {A} a (Ok p) all left read =
    let e = ok_pair (a ∷ p.0) all p.1 left read in
    (p.0, ap (λ l. Ok (p.0, l)) e.1, e.0)
parted a (Err f) all left read = absurd (cc)

pub choice_read : (depth : ℕ) (inner : Reader Stmts) (a : Expr × Stmts) (ts after_first after_arms after_others left : List Tok) (arms : List Arm) (others : Stmts) →
    an_arm depth inner ts ≡ Ok (a, after_first) → built (λ more. a ∷ more) (more_arms depth inner) after_first ≡ Ok (map arm_of arms, after_arms) →
    introduced terminals.Else inner after_arms ≡ Ok (others, after_others) → sign terminals.Fi after_others ≡ Ok (tt, left) →
    choice depth inner ts ≡ Ok (choose (arms_of arms) others, left)
unfolding choice
choice_read depth inner a ts after_first after_arms after_others left arms others first read else_read closed =
    let p = parted a (more_arms depth inner after_first) (map arm_of arms) after_arms read in
    let more_read : more_arms depth inner after_first ≡ Ok (p.0, after_arms) = p.1 in
    let chosen : arm a.0 a.1 (choices p.0) ≡ arms_of arms = ap choices p.2 ∙ choices_shown arms in
    rw (first, more_read, else_read, closed) (ap (λ as_read. Ok (choose as_read others, left)) chosen)

arms_failed : {A : Type 0} (a : A) (o : Outcome (List A)) (f : Fault) → (o >>= in_front a) ≡ Err f → o ≡ Err f
arms_failed a (Ok p) f failed = absurd (cc)
arms_failed a (Err g) f failed = let e : g ≡ f = cc in ap Err e

pub choice_fails : (depth : ℕ) (inner : Reader Stmts) (a : Expr × Stmts) (ts after_first : List Tok) (e : ReadError) →
    an_arm depth inner ts ≡ Ok (a, after_first) → Fails e (built (λ more. a ∷ more) (more_arms depth inner) after_first) → Fails e (choice depth inner ts)
unfolding choice
choice_fails depth inner a ts after_first errors.OutOfMemory first failed = tt
choice_fails depth inner a ts after_first (errors.Fault f) first failed =
    let more_failed : more_arms depth inner after_first ≡ Err f = arms_failed a (more_arms depth inner after_first) f failed in
    rw (first, more_failed) refl

pub loop_read : (depth : ℕ) (inner : Reader Stmts) (x : Name) (v : Expr) (ss : Stmts) (ts after_name after_in left : List Tok) →
    a_name ts ≡ Ok (x, after_name) → sign terminals.In after_name ≡ Ok (tt, after_in) → (expression depth ▸ (sign terminals.Do ▸ (inner ▸ sign terminals.Od))) after_in ≡ Ok ((v, (tt, (ss, tt))), left) →
    a_loop depth inner ts ≡ Ok (each x v ss, left)
unfolding a_loop
loop_read depth inner x v ss ts after_name after_in left named said turns =
    rw (named, said, turns) refl
