-- The reader of expressions against their language: an induction on the depth that it allows.
use Rattle.std.proofs.Common.{◌≡◌, ℕ, zero, suc, ◌<◌, ◌≤◌, inl, List, [], ◌∷◌, ◌++◌, length, sym, subst, arith, Ok, Err}
use Rattle.ioa_lex.specs.Tokens.{Tok}
use Rattle.ioa_grammar.specs.declared.fault.Fault.TheVariants.{Syntax, TooDeep}
use Rattle.ioa_tree.specs.Tree.{Expr}
use Rattle.ioa_tree.specs.Depth.{depth_of}
use Rattle.ioa_grammar.specs.Operators.{tightest}
use Rattle.ioa_grammar.specs.Grammar.{SameHead, SpellsExpr}
use Rattle.ioa_grammar.specs.Reading.{expr, operand, expression}
use Rattle.ioa_declarations.proofs.Outcomes.{AtMost, Alike, refused_at}
use Rattle.ioa_declarations.proofs.Exact.{ExactFor, Exact, Below}
use Rattle.ioa_declarations.proofs.Endings.{Ends}
use Rattle.ioa_declarations.proofs.Spelled.{depth_positive}
use Rattle.ioa_declarations.proofs.Operands.{operand_exact}
use Rattle.ioa_declarations.proofs.Complete.{complete_more}
use Rattle.ioa_declarations.proofs.Sound.{Reads, sound_more}
use Rattle.ioa_declarations.proofs.Local.{shrinks_more, no_expr, alike_more, long_more}

-- expressions of every level, where so much depth is allowed
abbrev Expressions : ℕ → Type 0
Expressions n = (k : ℕ) → ExactFor {I = Below n} (λ b. b.0) (SpellsExpr k) depth_of (Ends k) (λ b. expr b.0 k)

module _ (n : ℕ) (inner : Expressions n) where
  operands : ExactFor {I = Below n} (λ b. suc b.0) (SpellsExpr tightest) depth_of (Ends tightest) (λ b. operand b.0 (expr b.0 0))
  operands = operand_exact (inner 0)

  abbrev at : (b : ℕ) → suc b < suc n → Below n
  at b h = (b, omega arith)

  complete : (b : ℕ) → b < suc n → (k : ℕ) (t : Expr) (ts left : List Tok) → SpellsExpr k t ts → depth_of t ≤ b → Ends k left → expr b k (ts ++ left) ≡ Ok (t, left)
  complete zero less k t ts left s d f = absurd (omega (arith, depth_positive t))
  complete (suc b) less k t ts left s d f =
      complete_more b (λ t k a s d left f. (inner k).complete (at b less) t a left s d f) (λ t a left s d f. operands.complete (at b less) t a left s d f) t k ts s d left f

  sound : (b : ℕ) → b < suc n → (k : ℕ) (ts : List Tok) (t : Expr) (left : List Tok) → expr b k ts ≡ Ok (t, left) → Reads b k ts t left
  unfolding expr
  sound zero less k [] t left h = absurd (cc)
  sound zero less k (x ∷ ts) t left h = absurd (cc)
  sound (suc b) less k ts t left h = sound_more b (λ k. (inner k).sound (at b less)) (operands.sound (at b less)) k ts t left h

  shrinks : (b : ℕ) → b < suc n → (k : ℕ) (ts : List Tok) → AtMost (length ts) (expr b k ts)
  unfolding expr
  shrinks zero less k [] = omega arith
  shrinks zero less k (x ∷ ts) = tt
  shrinks (suc b) less k ts = shrinks_more b (λ k. (inner k).shrinks (at b less)) (operands.shrinks (at b less)) k ts

  alike : (b b' : ℕ) → b < suc n → b' < suc n → b ≤ b' → (s s' : List Tok) → SameHead s s' → (k : ℕ) (c : List Tok) → Alike s s' (expr b k (c ++ s)) (expr b' k (c ++ s'))
  unfolding expr
  alike zero b' less less' le [] [] same k [] = subst (λ o. Alike [] [] (Err (Syntax 0)) o) (sym (no_expr b' k)) (refused_at [] [] 0 0 (omega arith))
  alike zero b' less less' le [] (y ∷ s') same k [] = absurd same
  alike zero b' less less' le (x ∷ s) s' same k [] = inl tt
  alike zero b' less less' le s s' same k (x ∷ c) = inl tt
  alike (suc b) zero less less' le s s' same k c = absurd (omega arith)
  alike (suc b) (suc b') less less' le s s' same k c =
      let small : b ≤ b' = omega arith in
      alike_more b b' small s s' same (λ k. (inner k).shrinks (at b less)) (λ k c. (inner k).alike (at b less) (at b' less') small s s' same c)
      (λ c. operands.alike (at b less) (at b' less') (omega arith) s s' same c) k c

  long : (b : ℕ) → b < suc n → (k : ℕ) (ts : List Tok) → expr b k ts ≡ Err TooDeep → b < length ts
  unfolding expr
  long zero less k [] h = absurd (cc)
  long zero less k (x ∷ ts) h = omega arith
  long (suc b) less k ts h = long_more b (λ k. (inner k).long (at b less)) (λ k. (inner k).sound (at b less)) (operands.sound (at b less)) (operands.long (at b less)) k ts h

  one_more : Expressions (suc n)
  one_more k = record {
    complete = λ b t ts left s d f. complete b.0 b.1 k t ts left s d f;
    sound = λ b ts t left h. sound b.0 b.1 k ts t left h;
    shrinks = λ b ts. shrinks b.0 b.1 k ts;
    alike = λ b b' le s s' same c. alike b.0 b'.0 b.1 b'.1 le s s' same k c;
    long = λ b ts h. long b.0 b.1 k ts h;
  }

expressions_below : (n : ℕ) → Expressions n
expressions_below zero k = record {
  complete = λ b t ts left s d f. absurd (omega (arith, b.1));
  sound = λ b ts t left h. absurd (omega (arith, b.1));
  shrinks = λ b ts. absurd (omega (arith, b.1));
  alike = λ b b' le s s' same c. absurd (omega (arith, b.1));
  long = λ b ts h. absurd (omega (arith, b.1));
}
expressions_below (suc n) k = one_more n (expressions_below n) k

pub expression_exact : Exact (SpellsExpr 0) depth_of (Ends 0) expression
unfolding expression
expression_exact = record {
  complete = λ b. (expressions_below (suc b) 0).complete (b, omega arith);
  sound = λ b. (expressions_below (suc b) 0).sound (b, omega arith);
  shrinks = λ b. (expressions_below (suc b) 0).shrinks (b, omega arith);
  alike = λ b c le. (expressions_below (suc c) 0).alike (b, omega arith) (c, omega arith) le;
  long = λ b. (expressions_below (suc b) 0).long (b, omega arith);
}
