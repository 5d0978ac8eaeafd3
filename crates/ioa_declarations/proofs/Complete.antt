-- An expression that is spelled is read.
use Rattle.std.proofs.Common.{◌≡◌, ℕ, zero, suc, ◌+◌, ◌<◌, ◌≤◌, inl, inr, List, ◌∷◌, ◌++◌, length, refl, ap, ◌∙◌, arith, Option, Some, None, Ok, Err, true, false, IsTrue, nat_le, append_assoc}
use Rattle.ioa_lex.specs.Tokens.{Tok}
use Rattle.ioa_value.specs.declared.operator.Op.{Op}
use Rattle.ioa_tree.specs.declared.tree.Infix.{Infix}
use Rattle.ioa_tree.specs.declared.tree.Infix.TheVariants.{Operator}
use Rattle.ioa_grammar.specs.declared.fault.Fault.TheVariants.{Syntax}
use Rattle.ioa_tree.specs.Tree.{Expr, number, truth, named, parens, prefix, binary, empty, make, select}
use Rattle.ioa_tree.specs.Depth.{depth_of}
use Rattle.ioa_grammar.specs.Operators.{stands_before, stands_between, level_of, left_of, right_of, after_of, tightest}
use Rattle.ioa_grammar.specs.Grammar.{SpellsExpr}
use Rattle.ioa_grammar.specs.Reading.{climb, expr, rest, first, operand, operator_at, operator_in, prefix_at, terminal_at, allowed, Outcome, Reader, ◌>>=◌, built}
use Rattle.ioa_grammar.proofs.Binding.{word_found, prefix_found, fits_left, level_bounds}
use Rattle.ioa_grammar.proofs.Climb.{climb_takes}
use Rattle.ioa_tree.proofs.Compared.{le_holds, le_fails, lt_holds}
use Rattle.ioa_declarations.proofs.Endings.{mark, EndsAt, Ends, ends_weaker, ends_operand, ends_mark}
use Rattle.ioa_declarations.proofs.Spelled.{prefix_split, binary_split, depth_positive}
use Rattle.ioa_declarations.proofs.Operands.{operand_plain}

-- ---- what may follow

-- Operators of this level and tighter ones do not follow: its last operand would take them.
abbrev pub edge_of : (t : Expr) (k : ℕ) (ts : List Tok) → SpellsExpr k t ts → ℕ
edge_of (number n) k ts s = tightest
edge_of (truth b) k ts s = tightest
edge_of (named n) k ts s = tightest
edge_of (parens t) k ts s = tightest
edge_of (prefix o t) k ts (inl s) = right_of (Operator o)
edge_of (prefix o t) k ts (inr s) = tightest
edge_of (binary l o r) k ts (inl s) = right_of o
edge_of (binary l o r) k ts (inr s) = tightest
edge_of (empty n) k ts s = tightest
edge_of (make n es) k ts s = tightest
edge_of (select t n) k ts s = tightest

-- Operators below this level may follow.
abbrev pub most_of : (t : Expr) (k : ℕ) (ts : List Tok) → SpellsExpr k t ts → ℕ
most_of (number n) k ts s = tightest
most_of (truth b) k ts s = tightest
most_of (named n) k ts s = tightest
most_of (parens t) k ts s = tightest
most_of (prefix o t) k ts (inl s) = after_of (Operator o)
most_of (prefix o t) k ts (inr s) = tightest
most_of (binary l o r) k ts (inl s) = after_of o
most_of (binary l o r) k ts (inr s) = tightest
most_of (empty n) k ts s = tightest
most_of (make n es) k ts s = tightest
most_of (select t n) k ts s = tightest

pub mark_is : (o : Infix) (ts : List Tok) → IsTrue (stands_between o) → operator_in (terminal_at (mark o ∷ ts)) ≡ Some o
unfolding terminal_at
mark_is o ts between = word_found o between

pub mark_at : (o : Infix) (least below : ℕ) (ts : List Tok) → IsTrue (stands_between o) → least ≤ level_of o → level_of o < below → operator_at least below (mark o ∷ ts) ≡ Some o
unfolding operator_at
mark_at o least below ts between low high =
    let a = le_holds least (level_of o) low in
    let b = lt_holds (level_of o) below high in
    let here : allowed least below (Some o) ≡ Some o = rw (a, b) refl in
    ap (allowed least below) (mark_is o ts between) ∙ here

mark_before : (o : Op) (ts : List Tok) → IsTrue (stands_before o) → prefix_at (mark (Operator o) ∷ ts) ≡ Some o
unfolding prefix_at terminal_at
mark_before o ts before = prefix_found o before

-- ---- what an expression begins with

pub first_plain : (depth least : ℕ) (e : ℕ → Reader Expr) (ts : List Tok) → prefix_at ts ≡ None → first depth least e ts ≡ built (λ t. (t, tightest)) (operand depth (e 0)) ts
unfolding first
first_plain depth least e ts none = rw none refl

pub first_marked : (depth least : ℕ) (e : ℕ → Reader Expr) (o : Op) (ts : List Tok) → prefix_at ts ≡ Some o → nat_le least (level_of (Operator o)) ≡ true →
    first depth least e ts ≡ built (λ t. (prefix o t, after_of (Operator o))) (e (right_of (Operator o))) (rest ts)
unfolding first
first_marked depth least e o ts is low = rw (is, low) refl

pub first_loose : (depth least : ℕ) (e : ℕ → Reader Expr) (o : Op) (ts : List Tok) → prefix_at ts ≡ Some o → nat_le least (level_of (Operator o)) ≡ false → first depth least e ts ≡ Err (Syntax (length ts))
unfolding first
first_loose depth least e o ts is high = rw (is, high) refl

none_at : (least below : ℕ) (ts : List Tok) → Ends least ts → operator_at least below ts ≡ None
unfolding operator_at
none_at least below ts h = by (operator_in (terminal_at ts)) h.0
  where
    by : (o : Option Infix) → EndsAt least o → allowed least below o ≡ None
    by None h = refl
    by (Some o) h = let a = le_fails least (level_of o) h in rw a refl

pub climb_ends : (depth : ℕ) (e : ℕ → Reader Expr) (n least below : ℕ) (t : Expr) (ts : List Tok) → Ends least ts → climb depth e n least below t ts ≡ Ok (t, ts)
unfolding climb
climb_ends depth e zero least below t ts h = let a = none_at least below ts h in rw a refl
climb_ends depth e (suc n) least below t ts h = let a = none_at least below ts h in rw a refl

-- a left operand, before its operator
edge_before : (l : Expr) (o : Infix) (a ts : List Tok) → IsTrue (stands_between o) → (s : SpellsExpr (left_of o) l a) → Ends (edge_of l (left_of o) a s) (mark o ∷ ts)
edge_before (number n) o a ts between s = ends_mark o ts between tightest (level_bounds o).2
edge_before (truth b) o a ts between s = ends_mark o ts between tightest (level_bounds o).2
edge_before (named n) o a ts between s = ends_mark o ts between tightest (level_bounds o).2
edge_before (parens t) o a ts between s = ends_mark o ts between tightest (level_bounds o).2
edge_before (prefix p t) o a ts between (inl s) = ends_mark o ts between (right_of (Operator p)) (fits_left o (Operator p) between s.1).0
edge_before (prefix p t) o a ts between (inr s) = ends_mark o ts between tightest (level_bounds o).2
edge_before (binary l p r) o a ts between (inl s) = ends_mark o ts between (right_of p) (fits_left o p between s.1).0
edge_before (binary l p r) o a ts between (inr s) = ends_mark o ts between tightest (level_bounds o).2
edge_before (empty n) o a ts between s = ends_mark o ts between tightest (level_bounds o).2
edge_before (make n es) o a ts between s = ends_mark o ts between tightest (level_bounds o).2
edge_before (select t n) o a ts between s = ends_mark o ts between tightest (level_bounds o).2

most_before : (l : Expr) (o : Infix) (a : List Tok) → IsTrue (stands_between o) → (s : SpellsExpr (left_of o) l a) → level_of o < most_of l (left_of o) a s
most_before (number n) o a between s = (level_bounds o).2
most_before (truth b) o a between s = (level_bounds o).2
most_before (named n) o a between s = (level_bounds o).2
most_before (parens t) o a between s = (level_bounds o).2
most_before (prefix p t) o a between (inl s) = (fits_left o (Operator p) between s.1).1
most_before (prefix p t) o a between (inr s) = (level_bounds o).2
most_before (binary l p r) o a between (inl s) = (fits_left o p between s.1).1
most_before (binary l p r) o a between (inr s) = (level_bounds o).2
most_before (empty n) o a between s = (level_bounds o).2
most_before (make n es) o a between s = (level_bounds o).2
most_before (select t n) o a between s = (level_bounds o).2

edge_after : (t : Expr) (k : ℕ) (a ts : List Tok) → (s : SpellsExpr k t a) → Ends k ts → Ends (edge_of t k a s) ts
edge_after (number n) k a ts s h = ends_operand k ts h
edge_after (truth b) k a ts s h = ends_operand k ts h
edge_after (named n) k a ts s h = ends_operand k ts h
edge_after (parens t) k a ts s h = ends_operand k ts h
edge_after (prefix o t) k a ts (inl s) h = let wide : k ≤ right_of (Operator o) = omega (arith, s.1, (level_bounds (Operator o)).1) in ends_weaker k (right_of (Operator o)) ts wide h
edge_after (prefix o t) k a ts (inr s) h = ends_operand k ts h
edge_after (binary l o r) k a ts (inl s) h = let wide : k ≤ right_of o = omega (arith, s.1, (level_bounds o).1) in ends_weaker k (right_of o) ts wide h
edge_after (binary l o r) k a ts (inr s) h = ends_operand k ts h
edge_after (empty n) k a ts s h = ends_operand k ts h
edge_after (make n es) k a ts s h = ends_operand k ts h
edge_after (select t n) k a ts s h = ends_operand k ts h

abbrev pub climbs : ℕ → ℕ → (Expr × ℕ) × List Tok → Outcome Expr
climbs b least p = climb b (expr b) b least p.0.1 p.0.0 p.1

abbrev start : ℕ → ℕ → Reader Expr
start b least ts = first b least (expr b) ts >>= climbs b least

abbrev pub Completes : ℕ → Type 0
Completes b = (t : Expr) (k : ℕ) (a : List Tok) → SpellsExpr k t a → depth_of t ≤ b → (left : List Tok) → Ends k left → expr b k (a ++ left) ≡ Ok (t, left)

-- the loop comes to the tree
abbrev Reaches : ℕ → ℕ → ℕ → Expr → List Tok → List Tok → Type 0
Reaches b least most t ts left = (n : ℕ) × (b < n + depth_of t) × (start b least ts ≡ climb b (expr b) n least most t left)

module _ (b : ℕ) (inner : Completes b) (operands : (t : Expr) (ts left : List Tok) → SpellsExpr tightest t ts → depth_of t ≤ suc b → Ends tightest left → operand b (expr b 0) (ts ++ left) ≡ Ok (t, left)) where
  goes_further : (least n most : ℕ) (l : Expr) (o : Infix) (r : Expr) (ts left : List Tok) → IsTrue (stands_between o) → level_of o < most → least ≤ level_of o → depth_of l ≤ b → b < n + depth_of l →
      expr b (right_of o) ts ≡ Ok (r, left) → (n' : ℕ) × (b < n' + depth_of (binary l o r)) × (climb b (expr b) n least most l (mark o ∷ ts) ≡ climb b (expr b) n' least (after_of o) (binary l o r) left)
  goes_further least zero most l o r ts left between high low fits fuel read = absurd (omega arith)
  goes_further least (suc n) most l o r ts left between high low fits fuel read =
      (n, omega arith, climb_takes b (expr b) n least most o l r (mark o ∷ ts) left (mark_at o least most ts between low high) fits read)

  reach_operand : (t : Expr) (least : ℕ) (ts left : List Tok) → SpellsExpr tightest t ts → depth_of t ≤ suc b → Ends tightest left → Reaches b least tightest t (ts ++ left) left
  reach_operand t least ts left s d f =
      let fuel : b < b + depth_of t = omega (arith, depth_positive t) in (
        b,
        fuel,
        ap (λ o. o >>= climbs b least) (first_plain b least (expr b) (ts ++ left) (operand_plain t ts left s))
            ∙ ap (λ (o : Outcome Expr). (o >>= λ x. Ok ((x.0, tightest), x.1)) >>= climbs b least) (operands t ts left s d f),
      )

  begins_marked : (o : Op) (t : Expr) (least : ℕ) (ts left : List Tok) → IsTrue (stands_before o) → least ≤ level_of (Operator o) → expr b (right_of (Operator o)) ts ≡ Ok (t, left) →
      start b least (mark (Operator o) ∷ ts) ≡ climb b (expr b) b least (after_of (Operator o)) (prefix o t) left
  begins_marked o t least ts left before low read =
      ap (λ o. o >>= climbs b least) (first_marked b least (expr b) o (mark (Operator o) ∷ ts) (mark_before o ts before) (le_holds least (level_of (Operator o)) low))
      ∙ ap (λ (r : Outcome Expr). (r >>= λ x. Ok ((prefix o x.0, after_of (Operator o)), x.1)) >>= climbs b least) read

  reach : (t : Expr) (k least : ℕ) (a : List Tok) (s : SpellsExpr k t a) → least ≤ k → depth_of t ≤ suc b → (left : List Tok) → Ends (edge_of t k a s) left → Reaches b least (most_of t k a s) t (a ++ left) left
  reach (number n) k least a s le d left h = reach_operand (number n) least a left s d h
  reach (truth true) k least a s le d left h = reach_operand (truth true) least a left s d h
  reach (truth false) k least a s le d left h = reach_operand (truth false) least a left s d h
  reach (named n) k least a s le d left h = reach_operand (named n) least a left s d h
  reach (parens t) k least a s le d left h = reach_operand (parens t) least a left s d h
  reach (prefix o t) k least a (inl s) le d left h =
      let m = prefix_split k o t a s in
      let apart : a ++ left ≡ mark (Operator o) ∷ (m.rest ++ left) = ap (λ a. a ++ left) m.apart in
      let read = inner t (right_of (Operator o)) m.rest m.spells (omega arith) left h in
      (b, omega arith, ap (start b least) apart ∙ begins_marked o t least (m.rest ++ left) left m.before (omega (arith, m.low)) read)
  reach (prefix o t) k least a (inr s) le d left h = reach_operand (prefix o t) least a left (inr s) d h
  reach (binary l o r) k least a (inl s) le d left h =
      let m = binary_split k l o r a s in
      let apart : a ++ left ≡ m.left ++ mark o ∷ (m.right ++ left) = ap (λ a. a ++ left) m.apart ∙ append_assoc m.left (mark o ∷ m.right) left in
      let low : least ≤ level_of o = omega (arith, m.low) in
      let first = reach l (left_of o) least m.left m.first (omega (arith, (level_bounds o).0)) (omega arith) (mark o ∷ (m.right ++ left)) (edge_before l o m.left (m.right ++ left) m.between m.first) in
      let read = inner r (right_of o) m.right m.second (omega arith) left h in
      let more = goes_further least first.0 (most_of l (left_of o) m.left m.first) l o r (m.right ++ left) left m.between (most_before l o m.left m.between m.first) low (omega arith) first.1 read in
      (more.0, more.1, ap (start b least) apart ∙ first.2 ∙ more.2)
  reach (binary l o r) k least a (inr s) le d left h = reach_operand (binary l o r) least a left (inr s) d h
  reach (empty n) k least a s le d left h = reach_operand (empty n) least a left s d h
  reach (make n es) k least a s le d left h = reach_operand (make n es) least a left s d h
  reach (select t n) k least a s le d left h = reach_operand (select t n) least a left s d h

  pub complete_more : Completes (suc b)
  unfolding expr
  complete_more t k a s d left h =
      let there = reach t k k a s (omega arith) d left (edge_after t k a left s h) in
      there.2 ∙ climb_ends b (expr b) there.0 k (most_of t k a s) t left h
