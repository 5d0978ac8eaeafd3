-- What the spelling of an expression says: its parts, that it has some tokens, and that it is no deeper than they are many.
use Rattle.std.proofs.Common.{◌≡◌, ℕ, ◌+◌, ◌<◌, ◌≤◌, inl, inr, List, [], ◌∷◌, ◌++◌, length, refl, ap, ◌∙◌, arith, true, false, IsTrue, length-append}
use Rattle.ioa_value.specs.declared.terminal.Terminal.TheVariants as terminals
use Rattle.ioa_lex.specs.Tokens as tokens
use Rattle.ioa_lex.specs.Tokens.{Tok, terminal}
use Rattle.ioa_value.specs.declared.operator.Op.{Op}
use Rattle.ioa_tree.specs.declared.tree.Infix.{Infix}
use Rattle.ioa_tree.specs.declared.tree.Infix.TheVariants.{Operator}
use Rattle.ioa_tree.specs.Tree.{Expr, number, truth, named, parens, prefix, binary, empty, make, select, Exprs, no_expr, also}
use Rattle.ioa_tree.specs.Depth.{depth_of, exprs_depth}
use Rattle.ioa_grammar.specs.Operators.{stands_before, stands_between, level_of, left_of, right_of, operator_word, tightest}
use Rattle.ioa_grammar.specs.Grammar as grammar
use Rattle.ioa_grammar.specs.Grammar.{Language, SpellsExpr, SpellsExprs, SpellsOthers, ◌▹◌, word, called, enclosed}
use Rattle.ioa_grammar.proofs.Binding.{level_bounds}
use Rattle.ioa_declarations.proofs.Endings.{mark}

-- ---- the parts of a spelling, with the tokens between them: an operator that stands before its operand, or between two

abbrev pub Before : ℕ → Op → Expr → Language
Before k o e = λ ts. IsTrue (stands_before o) × (k ≤ level_of (Operator o)) × (word (operator_word (Operator o)) ▹ SpellsExpr (right_of (Operator o)) e) ts

abbrev pub Between : ℕ → Expr → Infix → Expr → Language
Between k l o r = λ ts. IsTrue (stands_between o) × (k ≤ level_of o) × (SpellsExpr (left_of o) l ▹ (word (operator_word o) ▹ SpellsExpr (right_of o) r)) ts

pub record Operand (k : ℕ) (o : Op) (e : Expr) (ts : List Tok) : Type 0 where
  pub rest : List Tok
  pub before : IsTrue (stands_before o)
  pub low : k ≤ level_of (Operator o)
  pub spells : SpellsExpr (right_of (Operator o)) e rest
  pub apart : ts ≡ mark (Operator o) ∷ rest

pub prefix_split : (k : ℕ) (o : Op) (e : Expr) (ts : List Tok) → Before k o e ts → Operand k o e ts
prefix_split k o e ts s = let m = s.2 in record { rest = m.1; before = s.0; low = s.1; spells = m.3; apart = m.4 ∙ ap (λ z. z ++ m.1) m.2 }

pub prefix_join : (k : ℕ) (o : Op) (e : Expr) (a : List Tok) → IsTrue (stands_before o) → k ≤ level_of (Operator o) → SpellsExpr (right_of (Operator o)) e a → Before k o e (mark (Operator o) ∷ a)
prefix_join k o e a before low s = (before, low, (mark (Operator o) ∷ [], a, refl, s, refl))

pub record Operands (k : ℕ) (l : Expr) (o : Infix) (r : Expr) (ts : List Tok) : Type 0 where
  pub left : List Tok
  pub right : List Tok
  pub between : IsTrue (stands_between o)
  pub low : k ≤ level_of o
  pub first : SpellsExpr (left_of o) l left
  pub second : SpellsExpr (right_of o) r right
  pub apart : ts ≡ left ++ mark o ∷ right

pub binary_split : (k : ℕ) (l : Expr) (o : Infix) (r : Expr) (ts : List Tok) → Between k l o r ts → Operands k l o r ts
binary_split k l o r ts s =
    let w = s.2 in
    let m = w.3 in
    record { left = w.0; right = m.1; between = s.0; low = s.1; first = w.2; second = m.3; apart = w.4 ∙ ap (λ z. w.0 ++ z) (m.4 ∙ ap (λ z. z ++ m.1) m.2) }

pub binary_join : (k : ℕ) (l : Expr) (o : Infix) (r : Expr) (a b : List Tok) → IsTrue (stands_between o) → k ≤ level_of o → SpellsExpr (left_of o) l a → SpellsExpr (right_of o) r b → Between k l o r (a ++ mark o ∷ b)
binary_join k l o r a b between low s t = (between, low, (a, mark o ∷ b, s, (mark o ∷ [], b, refl, t, refl), refl))

-- what is spelled at the tightest level is spelled so at every level
pub at_any : (t : Expr) (ts : List Tok) → SpellsExpr tightest t ts → (k : ℕ) → SpellsExpr k t ts
at_any (number n) ts s k = s
at_any (truth true) ts s k = s
at_any (truth false) ts s k = s
at_any (named n) ts s k = s
at_any (parens t) ts s k = s
at_any (prefix o t) ts (inl s) k = absurd (omega (arith, s.1, (level_bounds (Operator o)).2))
at_any (prefix o t) ts (inr s) k = inr s
at_any (binary l o r) ts (inl s) k = absurd (omega (arith, s.1, (level_bounds o).2))
at_any (binary l o r) ts (inr s) k = inr s
at_any (empty n) ts s k = s
at_any (make n es) ts s k = s
at_any (select t n) ts s k = s

-- ---- how long and how deep

pub depth_positive : (t : Expr) → 0 < depth_of t
depth_positive (number n) = omega arith
depth_positive (truth b) = omega arith
depth_positive (named n) = omega arith
depth_positive (parens t) = omega arith
depth_positive (prefix o t) = omega arith
depth_positive (binary l o r) = omega arith
depth_positive (empty n) = omega arith
depth_positive (make n es) = omega arith
depth_positive (select e n) = omega arith

-- no expression is deeper than its tokens are many
enclosed_long : (w : Tok) (L : Language) (ts : List Tok) → (grammar.single w ▹ enclosed L) ts → (a : List Tok) × L a × (length a + 3 ≡ length ts)
enclosed_long w L ts s =
    let m = s.3 in
    let n = m.3 in
    (n.0, n.2, omega (arith, ap length s.4, length-append s.0 s.1, ap length s.2, ap length m.4, length-append m.0 m.1, ap length m.2, ap length n.4, length-append n.0 n.1, ap length n.3))

mutual
  pub spelled_deep : (t : Expr) (k : ℕ) (ts : List Tok) → SpellsExpr k t ts → depth_of t ≤ length ts
  spelled_deep (number n) k ts s = omega (arith, ap length s)
  spelled_deep (truth true) k ts s = omega (arith, ap length s)
  spelled_deep (truth false) k ts s = omega (arith, ap length s)
  spelled_deep (named n) k ts s = omega (arith, ap length s)
  spelled_deep (parens t) k ts s =
      let m = s.3 in
      omega (arith, ap length s.4, length-append s.0 s.1, ap length s.2, ap length m.4, length-append m.0 m.1, spelled_deep t 0 m.0 m.2)
  spelled_deep (prefix o t) k ts (inl s) =
      let m = prefix_split k o t ts s in
      omega (arith, ap length m.apart, spelled_deep t (right_of (Operator o)) m.rest m.spells)
  spelled_deep (prefix o t) k ts (inr s) =
      let m = enclosed_long (mark (Operator o)) (SpellsExpr 0 t) ts s.1 in
      omega (arith, m.2, spelled_deep t 0 m.0 m.1)
  spelled_deep (binary l o r) k ts (inl s) =
      let m = binary_split k l o r ts s in
      omega (arith, ap length m.apart, length-append m.left (mark o ∷ m.right), spelled_deep l (left_of o) m.left m.first, spelled_deep r (right_of o) m.right m.second)
  spelled_deep (binary l o r) k ts (inr s) =
      let m = enclosed_long (mark o) (SpellsExpr 0 l ▹ (word terminals.Comma ▹ SpellsExpr 0 r)) ts s.1 in
      let w = m.1 in
      let v = w.3 in
      omega (arith, m.2, ap length w.4, length-append w.0 w.1, ap length v.4, length-append v.0 v.1, spelled_deep l 0 w.0 w.2, spelled_deep r 0 v.1 v.3)
  spelled_deep (empty n) k ts s = let m = enclosed_long (terminal terminals.Empty) (called n) ts s in omega (arith, m.2)
  spelled_deep (make n es) k ts s = let m = enclosed_long (tokens.name n) (SpellsExprs es) ts s in omega (arith, m.2, exprs_deep es m.0 m.1)
  spelled_deep (select e n) k ts s =
      let m = s.3 in
      omega (arith, ap length s.4, length-append s.0 s.1, ap length m.4, length-append m.0 m.1, ap length m.2, spelled_deep e tightest s.0 s.2)

  exprs_deep : (es : Exprs) (ts : List Tok) → SpellsExprs es ts → exprs_depth es ≤ length ts
  exprs_deep no_expr ts s = absurd s
  exprs_deep (also e es) ts s = omega (arith, ap length s.4, length-append s.0 s.1, spelled_deep e 0 s.0 s.2, others_deep es s.1 s.3)

  others_deep : (es : Exprs) (ts : List Tok) → SpellsOthers es ts → exprs_depth es ≤ length ts
  others_deep no_expr ts s = omega arith
  others_deep (also e es) ts s =
      let m = s.3 in
      omega (arith, ap length s.4, length-append s.0 s.1, ap length m.4, length-append m.0 m.1, spelled_deep e 0 m.0 m.2, others_deep es m.1 m.3)

pub expression_some : (e : Expr) (ts : List Tok) → SpellsExpr 0 e ts → 0 < length ts
expression_some e ts s = omega (arith, spelled_deep e 0 ts s, depth_positive e)
