-- Statements are read as they are spelled: an induction on how many levels of choices may still come.
use Rattle.std.proofs.Common.{◌≡◌, ℕ, zero, suc, ◌+◌, ◌<◌, ◌≤◌, ◌⊎◌, inl, inr, max, Bool, true, false, if◌then◌else◌, List, [], ◌∷◌, ◌++◌, length, refl, sym, ap, ◌∙◌, subst, arith, Ok, Err}
use Rattle.ioa_value.specs.declared.terminal.Terminal.{Terminal}
use Rattle.ioa_value.specs.declared.terminal.Terminal.TheVariants as terminals
use Rattle.ioa_lex.specs.Tokens.{Tok}
use Rattle.ioa_grammar.specs.declared.fault.Fault.TheVariants.{Syntax, TooDeep}
use Rattle.ioa_tree.specs.Tree.{Stmt, Stmts}
use Rattle.ioa_tree.specs.Depth.{deep_stmts, stmts_depth}
use Rattle.ioa_grammar.specs.Grammar.{Language, SameHead, SpellsStmt, SpellsStmts, SpellsAfter}
use Rattle.ioa_grammar.specs.Reading.{Reader, rest, sees, after, a_name, assignment, in_sequence, introduced, choice, a_loop, unconditional, no_statement, statement, statements}
use Rattle.ioa_declarations.proofs.Outcomes.{AtMost, Shrinks, Alike, refused_at}
use Rattle.ioa_declarations.proofs.Exact.{Found, ExactFor, Exact, Below, any, deep_as, said_as}
use Rattle.ioa_declarations.proofs.Singles.{seen, after_seen, after_unseen, either_exact}
use Rattle.ioa_declarations.proofs.Endings.{Ends}
use Rattle.ioa_declarations.proofs.ChoiceLemmas.{ByChoice, ByLoop, ByAssignment, Unconditional, either_of, either_to, other_of, other_to, assignment_unseen, unconditional_unseen, stmt_needs, stmts_need, parts_need, stmt_positive, AfterStatements, assignments_for, sequences_for, introduced_for, loop_for, choice_for}

statement_none : (depth levels : ℕ) → statement depth levels [] ≡ Err (Syntax 0)
unfolding statement unconditional assignment a_name after sees
statement_none depth zero = refl
statement_none depth (suc levels) = refl

statement_zero : (depth levels : ℕ) (ts : List Tok) → levels ≡ 0 → statement depth levels ts ≡ no_statement ts
unfolding statement
statement_zero depth levels ts none = ap (λ n. statement depth n ts) none

abbrev Inner : {I : Type 0} → (I → ℕ) → Type 0
Inner {I} levels = (i : I) × (m : ℕ) × (levels i ≡ suc m)

-- the limits have one level more than those of the statements inside
module _ {I : Type 0} (depth levels : I → ℕ) (k : ℕ) (is : (i : I) → depth i ≡ levels i + k)
    (inner : ExactFor {I = Inner levels} (λ j. j.1) SpellsStmt (stmt_needs (suc k)) (Ends 0) (λ j. statement (depth j.0) j.1)) where
  inner_is : (j : Inner levels) → depth j.0 ≡ j.1 + suc k
  inner_is j = omega (arith, is j.0, j.2)

  abbrev choosing : Inner levels → Reader Stmt
  choosing j = choice (depth j.0) (in_sequence (statement (depth j.0) j.1))

  abbrev looping : Inner levels → Reader Stmt
  looping j = a_loop (depth j.0) (in_sequence (statement (depth j.0) j.1))

  abbrev assigning : Inner levels → Reader Stmt
  assigning j = assignment (depth j.0)

  abbrev other : Inner levels → Reader Stmt
  other j = unconditional (depth j.0) (in_sequence (statement (depth j.0) j.1))

  chosen : ExactFor {I = Inner levels} (λ j. j.1) ByChoice (parts_need (suc k)) any choosing
  chosen = choice_for (λ j. depth j.0) (suc k) inner_is (λ j. in_sequence (statement (depth j.0) j.1)) (sequences_for (suc k) (λ j. statement (depth j.0) j.1) inner)

  looped : ExactFor {I = Inner levels} (λ j. j.1) ByLoop (parts_need (suc k)) any looping
  looped = loop_for (λ j. depth j.0) (suc k) inner_is (λ j. in_sequence (statement (depth j.0) j.1)) (sequences_for (suc k) (λ j. statement (depth j.0) j.1) inner)

  assigned : ExactFor {I = Inner levels} (λ j. j.1) ByAssignment (parts_need (suc k)) (Ends 0) assigning
  assigned = assignments_for (λ j. depth j.0) (suc k) inner_is

  other_exact : ExactFor {I = Inner levels} (λ j. j.1) Unconditional (parts_need (suc k)) (Ends 0) other
  unfolding unconditional
  other_exact = said_as Unconditional other_of other_to (either_exact terminals.For looped assigned (Ends 0) (λ left f. tt) (λ left f. f) (λ x ts left s f. assignment_unseen x ts left s))

  abbrev one : Inner levels → Reader Stmt
  one j ts = if sees terminals.If ts then choosing j (after terminals.If ts) else other j (after terminals.If ts)

  one_exact : ExactFor {I = Inner levels} (λ j. j.1) SpellsStmt (parts_need (suc k)) (Ends 0) one
  one_exact = said_as SpellsStmt either_of either_to (either_exact terminals.If chosen other_exact (Ends 0) (λ left f. tt) (λ left f. f) (λ x ts left s f. unconditional_unseen x ts left s))

  statement_one : (j : Inner levels) (ts : List Tok) → statement (depth j.0) (levels j.0) ts ≡ one j ts
  unfolding statement
  statement_one j ts = ap (λ n. statement (depth j.0) n ts) j.2

  at_level : (i : I) → (levels i ≡ 0) ⊎ ((m : ℕ) × (levels i ≡ suc m))
  at_level i = by (levels i) refl
    where
      by : (n : ℕ) → levels i ≡ n → (levels i ≡ 0) ⊎ ((m : ℕ) × (levels i ≡ suc m))
      by zero e = inl e
      by (suc m) e = inr (m, e)

  level_complete : (i : I) (x : Stmt) (ts left : List Tok) → SpellsStmt x ts → stmt_needs k x ≤ levels i → Ends 0 left → statement (depth i) (levels i) (ts ++ left) ≡ Ok (x, left)
  level_complete i x ts left s d f =
      elim (at_level i) [
        | inl none ↦ absurd (omega (arith, none, stmt_positive x))
        | inr e ↦ statement_one (i, e.0, e.1) (ts ++ left) ∙ one_exact.complete (i, e.0, e.1) x ts left s (omega (arith, e.1)) f
      ]

  level_sound : (i : I) (ts : List Tok) (x : Stmt) (left : List Tok) → statement (depth i) (levels i) ts ≡ Ok (x, left) → Found SpellsStmt (stmt_needs k) (levels i) ts x left
  level_sound i ts x left h =
      elim (at_level i) [
        | inl none ↦ absurd (refuses ts (sym (statement_zero (depth i) (levels i) ts none) ∙ h))
        | inr e ↦
            let m = one_exact.sound (i, e.0, e.1) ts x left (sym (statement_one (i, e.0, e.1) ts) ∙ h) in
            record { front = m.front; spells = m.spells; apart = m.apart; within = omega (arith, e.1, m.within) }
      ]
    where
      refuses : (ts : List Tok) → no_statement ts ≡ Ok (x, left) → ⊥
      refuses [] h = absurd (cc)
      refuses (y ∷ ts) h = absurd (cc)

  level_shrinks : (i : I) → Shrinks (statement (depth i) (levels i))
  level_shrinks i ts =
      elim (at_level i) [
        | inl none ↦ subst (AtMost (length ts)) (sym (statement_zero (depth i) (levels i) ts none)) (refuses ts)
        | inr e ↦ subst (AtMost (length ts)) (sym (statement_one (i, e.0, e.1) ts)) (one_exact.shrinks (i, e.0, e.1) ts)
      ]
    where
      refuses : (ts : List Tok) → AtMost (length ts) (no_statement ts)
      refuses [] = omega arith
      refuses (y ∷ ts) = tt

  level_alike : (i j : I) → levels i ≤ levels j → (s s' : List Tok) → SameHead s s' → (c : List Tok) → Alike s s' (statement (depth i) (levels i) (c ++ s)) (statement (depth j) (levels j) (c ++ s'))
  level_alike i j le s s' same c =
      elim (at_level i) [
        | inl none ↦ subst (λ o. Alike s s' o (statement (depth j) (levels j) (c ++ s'))) (sym (statement_zero (depth i) (levels i) (c ++ s) none)) (refuses s s' same c)
        | inr e ↦ elim (at_level j) [
          | inl none ↦ absurd (omega (arith, none, e.1))
          | inr f ↦
              subst (λ o. Alike s s' o (statement (depth j) (levels j) (c ++ s'))) (sym (statement_one (i, e.0, e.1) (c ++ s)))
              (subst (λ o. Alike s s' (one (i, e.0, e.1) (c ++ s)) o) (sym (statement_one (j, f.0, f.1) (c ++ s'))) (one_exact.alike (i, e.0, e.1) (j, f.0, f.1) (omega (arith, e.1, f.1)) s s' same c))
        ]
      ]
    where
      refuses : (s s' : List Tok) → SameHead s s' → (c : List Tok) → Alike s s' (no_statement (c ++ s)) (statement (depth j) (levels j) (c ++ s'))
      refuses [] [] same [] = subst (λ o. Alike [] [] (Err (Syntax 0)) o) (sym (statement_none (depth j) (levels j))) (refused_at [] [] 0 0 (omega arith))
      refuses [] (y ∷ s') same [] = absurd same
      refuses (x ∷ s) s' same [] = inl tt
      refuses s s' same (x ∷ c) = inl tt

  -- the word `for` stands before a loop, and expressions may be as deep as statements
  other_long : (j : Inner levels) (ts : List Tok) → other j ts ≡ Err TooDeep → levels j.0 < length ts
  unfolding unconditional
  other_long j ts h = by (sees terminals.For ts) refl h
    where
      by : (v : Bool) → sees terminals.For ts ≡ v → (if v then looping j (after terminals.For ts) else assigning j (after terminals.For ts)) ≡ Err TooDeep → levels j.0 < length ts
      by true e h = let far = looped.long j (rest ts) (ap (looping j) (sym (after_seen terminals.For ts e)) ∙ h) in omega (arith, j.2, ap length (seen terminals.For ts e))
      by false e h =
          let far = (assignments_for {levels = λ n. n} (λ n. n) 0 (λ n. omega arith)).long (depth j.0) ts (ap (assigning j) (sym (after_unseen terminals.For ts e)) ∙ h) in
          omega (arith, is j.0)

  level_long : (i : I) (ts : List Tok) → statement (depth i) (levels i) ts ≡ Err TooDeep → levels i < length ts
  level_long i ts h =
      elim (at_level i) [
        | inl none ↦ refuses ts none (sym (statement_zero (depth i) (levels i) ts none) ∙ h)
        | inr e ↦ by (i, e.0, e.1) (sees terminals.If ts) refl (sym (statement_one (i, e.0, e.1) ts) ∙ h)
      ]
    where
      refuses : (ts : List Tok) → levels i ≡ 0 → no_statement ts ≡ Err TooDeep → levels i < length ts
      refuses [] none h = absurd (cc)
      refuses (y ∷ ts) none h = omega (arith, none)

      -- the word `if` stands before a choice
      by : (j : Inner levels) (v : Bool) → sees terminals.If ts ≡ v → (if v then choosing j (after terminals.If ts) else other j (after terminals.If ts)) ≡ Err TooDeep → levels j.0 < length ts
      by j true e h = let far = chosen.long j (rest ts) (ap (choosing j) (sym (after_seen terminals.If ts e)) ∙ h) in omega (arith, j.2, ap length (seen terminals.If ts e))
      by j false e h = other_long j ts (ap (other j) (sym (after_unseen terminals.If ts e)) ∙ h)

  level_exact : ExactFor levels SpellsStmt (stmt_needs k) (Ends 0) (λ i. statement (depth i) (levels i))
  level_exact = record { complete = level_complete; sound = level_sound; shrinks = level_shrinks; alike = level_alike; long = level_long }

statement_below : (n : ℕ) {I : Type 0} (depth levels : I → ℕ) (k : ℕ) → ((i : I) → depth i ≡ levels i + k) → ((i : I) → levels i < n) → ExactFor levels SpellsStmt (stmt_needs k) (Ends 0) (λ i. statement (depth i) (levels i))
statement_below zero depth levels k is less = record {
  complete = λ i x ts left s d f. absurd (omega (arith, less i));
  sound = λ i ts x left h. absurd (omega (arith, less i));
  shrinks = λ i ts. absurd (omega (arith, less i));
  alike = λ i j le s s' same c. absurd (omega (arith, less i));
  long = λ i ts h. absurd (omega (arith, less i));
}
statement_below (suc n) depth levels k is less =
    level_exact depth levels k is (statement_below n (λ (j : Inner levels). depth j.0) (λ (j : Inner levels). j.1) (suc k) (λ j. omega (arith, is j.0, j.2)) (λ j. omega (arith, less j.0, j.2)))

statement_at : (n : ℕ) → ExactFor {I = Below n} (λ b. b.0) SpellsStmt (stmt_needs 0) (Ends 0) (λ b. statement b.0 b.0)
statement_at n = statement_below n (λ (b : Below n). b.0) (λ (b : Below n). b.0) 0 (λ b. omega arith) (λ b. b.1)

abbrev pub stmts_limit : Stmts → ℕ
stmts_limit ss = max (deep_stmts ss) (stmts_depth ss)

pub statement_exact : Exact SpellsStmt (stmt_needs 0) (Ends 0) (λ b. statement b b)
statement_exact = record {
  complete = λ b. (statement_at (suc b)).complete (b, omega arith);
  sound = λ b. (statement_at (suc b)).sound (b, omega arith);
  shrinks = λ b. (statement_at (suc b)).shrinks (b, omega arith);
  alike = λ b c le. (statement_at (suc c)).alike (b, omega arith) (c, omega arith) le;
  long = λ b. (statement_at (suc b)).long (b, omega arith);
}

pub statements_exact : Exact SpellsStmts stmts_limit AfterStatements statements
unfolding statements
statements_exact = deep_as stmts_limit (λ ss. omega arith) (sequences_for 0 (λ b. statement b b) statement_exact)

abbrev pub AfterIntroduced : Terminal → Language
AfterIntroduced t left = AfterStatements left × (sees t left ≡ false)

pub after_word_exact : (t : Terminal) → Exact (SpellsAfter t) stmts_limit (AfterIntroduced t) (λ b. introduced t (statements b))
after_word_exact t =
    deep_as stmts_limit (λ ss. omega arith)
    (introduced_for (λ b. b) 0 (λ b. omega arith) statements (deep_as (stmts_need 0) (λ ss. omega arith) statements_exact) t)
