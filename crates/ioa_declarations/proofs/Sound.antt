-- An expression that is read is spelled so.
use Rattle.std.proofs.Common.{◌≡◌, ℕ, zero, suc, ◌<◌, ◌≤◌, ◌⊎◌, inl, inr, Bool, List, [], ◌∷◌, ◌++◌, refl, sym, ap, ◌∙◌, subst, arith, Option, Some, None, Ok, true, false, IsTrue, nat_le, nat_lt, append_assoc}
use Rattle.std.proofs.lemmas.Bool.Decides.{nat_tests}
use Rattle.ioa_lex.specs.Tokens as tokens
use Rattle.ioa_lex.specs.Tokens.{Tok, terminal}
use Rattle.ioa_grammar.specs.declared.fault.Fault.TheVariants.{TooDeep}
use Rattle.ioa_value.specs.declared.operator.Op.{Op}
use Rattle.ioa_value.proofs.CompleteLemmas.{lt_of}
use Rattle.ioa_tree.specs.declared.tree.Infix.{Infix}
use Rattle.ioa_tree.specs.declared.tree.Infix.TheVariants.{Operator}
use Rattle.ioa_tree.specs.Tree.{Expr, prefix, binary}
use Rattle.ioa_tree.specs.Depth.{depth_of}
use Rattle.ioa_grammar.specs.Operators.{stands_before, stands_between, level_of, left_of, right_of, after_of, tightest}
use Rattle.ioa_grammar.specs.Grammar.{SpellsExpr}
use Rattle.ioa_grammar.specs.Reading.{climb, climb_by, stop_by, expr, first, prefix_at, operand, operator_at, operator_in, terminal_at, allowed, rest, Outcome, Reader, ◌>>=◌, built}
use Rattle.ioa_declarations.proofs.Outcomes.{bind_ok, ok_pair, guard_ok}
use Rattle.ioa_declarations.proofs.Exact.{Found}
use Rattle.ioa_grammar.proofs.Binding.{found_only, prefix_only, left_again}
use Rattle.ioa_declarations.proofs.Endings.{mark}
use Rattle.ioa_declarations.proofs.Spelled.{prefix_join, binary_join, at_any}
use Rattle.ioa_declarations.proofs.Complete.{first_plain, first_marked, first_loose, climbs}

pub le_of : (a b : ℕ) → nat_le a b ≡ true → a ≤ b
le_of a b h = grind (arith, nat_tests)

-- ---- the next token, seen as an operator of these levels

next_only : (ts : List Tok) (o : Infix) → operator_in (terminal_at ts) ≡ Some o → (ts ≡ mark o ∷ rest ts) × IsTrue (stands_between o)
unfolding terminal_at
next_only [] o h = absurd (cc)
next_only (tokens.number n ∷ ts) o h = absurd (cc)
next_only (tokens.name n ∷ ts) o h = absurd (cc)
next_only (terminal t ∷ ts) o h = let f = found_only t o h in (ap (λ t. terminal t ∷ ts) f.0, f.1)

abbrev pub Next : ℕ → ℕ → List Tok → Type 0
Next least below ts = (operator_at least below ts ≡ None) ⊎ ((o : Infix) × (operator_at least below ts ≡ Some o) × (ts ≡ mark o ∷ rest ts) × (least ≤ level_of o) × (level_of o < below) × IsTrue (stands_between o))

pub next_cases : (least below : ℕ) (ts : List Tok) → Next least below ts
unfolding operator_at
next_cases least below ts = by (operator_in (terminal_at ts)) refl
  where
    tests : (o : Infix) → operator_in (terminal_at ts) ≡ Some o → (x y : Bool) → nat_le least (level_of o) ≡ x → nat_lt (level_of o) below ≡ y → Next least below ts
    tests o e true true p q =
        let here : allowed least below (Some o) ≡ Some o = rw (p, q) refl in
        let only = next_only ts o e in
        inr (o, ap (allowed least below) e ∙ here, only.0, le_of _ _ p, lt_of _ _ q, only.1)
    tests o e true false p q = let here : allowed least below (Some o) ≡ None = rw (p, q) refl in inl (ap (allowed least below) e ∙ here)
    tests o e false y p q = let here : allowed least below (Some o) ≡ None = rw p refl in inl (ap (allowed least below) e ∙ here)

    by : (o : Option Infix) → operator_in (terminal_at ts) ≡ o → Next least below ts
    by None e = inl (ap (allowed least below) e)
    by (Some o) e = tests o e (nat_le least (level_of o)) (nat_lt (level_of o) below) refl refl

-- ---- what begins an expression

before_only : (ts : List Tok) (o : Op) → prefix_at ts ≡ Some o → (ts ≡ mark (Operator o) ∷ rest ts) × IsTrue (stands_before o)
unfolding prefix_at terminal_at
before_only [] o h = absurd (cc)
before_only (tokens.number n ∷ ts) o h = absurd (cc)
before_only (tokens.name n ∷ ts) o h = absurd (cc)
before_only (terminal t ∷ ts) o h = let f = prefix_only t o h in (ap (λ t. terminal t ∷ ts) f.0, f.1)

-- no operator, one of a level from least on, or one of a lower level
pub data Beginning (least : ℕ) (ts : List Tok) : Type 0 where
  begins_plain : prefix_at ts ≡ None → Beginning least ts
  begins_marked : (o : Op) → prefix_at ts ≡ Some o → ts ≡ mark (Operator o) ∷ rest ts → IsTrue (stands_before o) → nat_le least (level_of (Operator o)) ≡ true → Beginning least ts
  begins_loose : (o : Op) → prefix_at ts ≡ Some o → ts ≡ mark (Operator o) ∷ rest ts → nat_le least (level_of (Operator o)) ≡ false → Beginning least ts

pub beginning : (least : ℕ) (ts : List Tok) → Beginning least ts
beginning least ts = by (prefix_at ts) refl
  where
    tests : (o : Op) → prefix_at ts ≡ Some o → (x : Bool) → nat_le least (level_of (Operator o)) ≡ x → Beginning least ts
    tests o e true p = let only = before_only ts o e in begins_marked o e only.0 only.1 p
    tests o e false p = begins_loose o e (before_only ts o e).0 p

    by : (o : Option Op) → prefix_at ts ≡ o → Beginning least ts
    by None e = begins_plain e
    by (Some o) e = tests o e (nat_le least (level_of (Operator o))) refl

-- a front of the tokens spells the tree
abbrev pub Reads : ℕ → ℕ → List Tok → Expr → List Tok → Type 0
Reads b k = Found (SpellsExpr k) depth_of b

-- an operator that may follow takes the tree as its left operand
abbrev pub IsLeft : ℕ → Expr → List Tok → Type 0
IsLeft below left a = (o : Infix) → level_of o < below → SpellsExpr (left_of o) left a

-- what begins an expression, with the level below which operators may follow
pub record ReadsFirst (b least : ℕ) (ts : List Tok) (t : Expr) (below : ℕ) (left : List Tok) : Type 0 where
  pub front : List Tok
  pub spells : SpellsExpr least t front
  pub takes_left : IsLeft below t front
  pub apart : ts ≡ front ++ left
  pub within : depth_of t ≤ b

module _ (b : ℕ) (e : ℕ → Reader Expr) (inner : (k : ℕ) (ts : List Tok) (t : Expr) (left : List Tok) → e k ts ≡ Ok (t, left) → Reads b k ts t left)
    (operands : (ts : List Tok) (t : Expr) (left : List Tok) → operand b (e 0) ts ≡ Ok (t, left) → Found (SpellsExpr tightest) depth_of (suc b) ts t left) where
  plain_sound : (least : ℕ) (ts : List Tok) (t : Expr) (below : ℕ) (left : List Tok) → built {B = Expr × ℕ} (λ t. (t, tightest)) (operand b (e 0)) ts ≡ Ok ((t, below), left) → ReadsFirst (suc b) least ts t below left
  plain_sound least ts t below left h =
      let one = bind_ok (operand b (e 0) ts) (λ x. Ok ((x.0, tightest), x.1)) ((t, below), left) h in
      let same = ok_pair (one.0.0, tightest) (t, below) one.0.1 left one.2 in
      let r = operands ts one.0.0 one.0.1 one.1 in
      let is : one.0.0 ≡ t = ap (λ p. p.0) same.0 in
      record {
        front = r.front;
        spells = subst (λ t. SpellsExpr least t r.front) is (at_any one.0.0 r.front r.spells least);
        takes_left = λ o _. subst (λ t. SpellsExpr (left_of o) t r.front) is (at_any one.0.0 r.front r.spells (left_of o));
        apart = r.apart ∙ ap (λ z. r.front ++ z) same.1;
        within = subst (λ t. depth_of t ≤ suc b) is r.within;
      }

  marked_sound : (least : ℕ) (o : Op) (ts : List Tok) (t : Expr) (below : ℕ) (left : List Tok) → ts ≡ mark (Operator o) ∷ rest ts → IsTrue (stands_before o) → least ≤ level_of (Operator o) →
      built {B = Expr × ℕ} (λ t. (prefix o t, after_of (Operator o))) (e (right_of (Operator o))) (rest ts) ≡ Ok ((t, below), left) → ReadsFirst (suc b) least ts t below left
  marked_sound least o ts t below left at before low h =
      let one = bind_ok (e (right_of (Operator o)) (rest ts)) (λ x. Ok ((prefix o x.0, after_of (Operator o)), x.1)) ((t, below), left) h in
      let same = ok_pair (prefix o one.0.0, after_of (Operator o)) (t, below) one.0.1 left one.2 in
      let r = inner (right_of (Operator o)) (rest ts) one.0.0 one.0.1 one.1 in
      let is : prefix o one.0.0 ≡ t = ap (λ p. p.0) same.0 in
      let ends : after_of (Operator o) ≡ below = ap (λ p. p.1) same.0 in
      let front : List Tok = mark (Operator o) ∷ r.front in
      record {
        front = front;
        spells = subst (λ t. SpellsExpr least t front) is (inl (prefix_join least o one.0.0 r.front before low r.spells));
        takes_left = λ p less. subst (λ t. SpellsExpr (left_of p) t front) is (inl (prefix_join (left_of p) o one.0.0 r.front before (left_again (Operator o) p (omega (arith, ends))) r.spells));
        apart = at ∙ ap (λ z. mark (Operator o) ∷ z) (r.apart ∙ ap (λ z. r.front ++ z) same.1);
        within = subst (λ t. depth_of t ≤ suc b) is (omega (arith, r.within));
      }

  pub first_sound : (least : ℕ) (ts : List Tok) (t : Expr) (below : ℕ) (left : List Tok) → first b least e ts ≡ Ok ((t, below), left) → ReadsFirst (suc b) least ts t below left
  first_sound least ts t below left h =
      elim (beginning least ts) [
        | begins_plain none ↦ plain_sound least ts t below left (sym (first_plain b least e ts none) ∙ h)
        | begins_marked o is at before low ↦ marked_sound least o ts t below left at before (le_of _ _ low) (sym (first_marked b least e o ts is low) ∙ h)
        | begins_loose o is at high ↦ let never = sym (first_loose b least e o ts is high) ∙ h in absurd (cc)
      ]

  abbrev Climbs : ℕ → Type 0
  Climbs n = (least below : ℕ) (left : Expr) (ts : List Tok) (t : Expr) (end : List Tok) → climb b e n least below left ts ≡ Ok (t, end) →
      (a : List Tok) → SpellsExpr least left a → IsLeft below left a → depth_of left ≤ suc b → Reads (suc b) least (a ++ ts) t end

  stops : (least : ℕ) (left : Expr) (ts : List Tok) (t : Expr) (end : List Tok) → ◌≡◌ {A = Outcome Expr} (Ok (left, ts)) (Ok (t, end)) → (a : List Tok) → SpellsExpr least left a → depth_of left ≤ suc b → Reads (suc b) least (a ++ ts) t end
  stops least left ts t end h a s d =
      let p = ok_pair left t ts end h in
      record { front = a; spells = subst (λ t. SpellsExpr least t a) p.0 s; apart = ap (λ r. a ++ r) p.1; within = subst (λ t. depth_of t ≤ suc b) p.0 d }

  takes : (n : ℕ) → Climbs n → (least below : ℕ) (left : Expr) (ts : List Tok) (t : Expr) (end : List Tok) (o : Infix) →
      climb_by b e (climb b e n least) left ts (Some o) ≡ Ok (t, end) →
      (a : List Tok) → SpellsExpr least left a → IsLeft below left a → ts ≡ mark o ∷ rest ts → least ≤ level_of o → level_of o < below → IsTrue (stands_between o) → Reads (suc b) least (a ++ ts) t end
  takes n more_of least below left ts t end o h a s again is low high between =
      let g = guard_ok (nat_le (depth_of left) b) (e (right_of o) (rest ts) >>= λ q. climb b e n least (after_of o) (binary left o q.0) q.1) TooDeep (t, end) h in
      let x = bind_ok (e (right_of o) (rest ts)) (λ q. climb b e n least (after_of o) (binary left o q.0) q.1) (t, end) g.1 in
      let right = inner (right_of o) (rest ts) x.0.0 x.0.1 x.1 in
      let longer : List Tok = a ++ mark o ∷ right.front in
      let fits : depth_of left ≤ b = le_of _ _ g.0 in
      let more = more_of least (after_of o) (binary left o x.0.0) x.0.1 t end x.2 longer
      (inl (binary_join least left o x.0.0 a right.front between low (again o high) right.spells))
      (λ p hp. inl (binary_join (left_of p) left o x.0.0 a right.front between (left_again o p hp) (again o high) right.spells))
      (omega (arith, right.within)) in
      let joined : a ++ ts ≡ longer ++ x.0.1 = ap (λ r. a ++ r) (is ∙ ap (λ r. mark o ∷ r) right.apart) ∙ sym (append_assoc a (mark o ∷ right.front) x.0.1) in
      record { front = more.front; spells = more.spells; apart = joined ∙ more.apart; within = more.within }

  pub climb_sound : (n : ℕ) → Climbs n
  unfolding climb
  climb_sound zero least below left ts t end h a s again d = by (operator_at least below ts) h
    where
      by : (o : Option Infix) → stop_by b e left ts o ≡ Ok (t, end) → Reads (suc b) least (a ++ ts) t end
      by None h = stops least left ts t end h a s d
      by (Some x) h = absurd (cc)
  climb_sound (suc n) least below left ts t end h a s again d =
      let more_of = climb_sound n in
      elim (next_cases least below ts) [
        | inl absent ↦ stops least left ts t end (subst (λ o. climb_by b e (climb b e n least) left ts o ≡ Ok (t, end)) absent h) a s d
        | inr present ↦ takes n more_of least below left ts t end present.0 (subst (λ o. climb_by b e (climb b e n least) left ts o ≡ Ok (t, end)) present.1 h) a s again present.2 present.3 present.4 present.5
      ]

pub sound_more : (b : ℕ) → ((k : ℕ) (ts : List Tok) (t : Expr) (left : List Tok) → expr b k ts ≡ Ok (t, left) → Reads b k ts t left) →
    ((ts : List Tok) (t : Expr) (left : List Tok) → operand b (expr b 0) ts ≡ Ok (t, left) → Found (SpellsExpr tightest) depth_of (suc b) ts t left) →
    (k : ℕ) (ts : List Tok) (t : Expr) (left : List Tok) → expr (suc b) k ts ≡ Ok (t, left) → Reads (suc b) k ts t left
unfolding expr
sound_more b inner operands k ts t left h =
    let x = bind_ok (first b k (expr b) ts) (climbs b k) (t, left) h in
    let begun = first_sound b (expr b) inner operands k ts x.0.0.0 x.0.0.1 x.0.1 x.1 in
    let more = climb_sound b (expr b) inner operands b k x.0.0.1 x.0.0.0 x.0.1 t left x.2 begun.front begun.spells begun.takes_left begun.within in
    record { front = more.front; spells = more.spells; apart = begun.apart ∙ more.apart; within = more.within }
