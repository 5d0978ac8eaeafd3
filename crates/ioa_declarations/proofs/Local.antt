-- A fault of an expression hangs on the tokens up to the one that it names, and no greater depth mends it; and only more
-- tokens than the depth allows go too deep.
use Rattle.std.proofs.Common.{◌≡◌, ℕ, zero, suc, ◌+◌, ◌<◌, ◌≤◌, inl, inr, Bool, List, [], ◌∷◌, ◌++◌, length, refl, sym, ap, ◌∙◌, subst, arith, Option, Some, None, Ok, Err, true, false, nat_le, if◌then◌else◌, length-append, append_assoc}
use Rattle.std.proofs.lemmas.Bool.Decides.{nat_tests}
use Rattle.ioa_lex.specs.Tokens.{Tok}
use Rattle.ioa_grammar.specs.declared.fault.Fault.TheVariants.{Syntax, TooDeep}
use Rattle.ioa_value.specs.declared.operator.Op.{Op}
use Rattle.ioa_tree.specs.declared.tree.Infix.{Infix}
use Rattle.ioa_tree.specs.declared.tree.Infix.TheVariants.{Operator}
use Rattle.ioa_tree.specs.Tree.{Expr, prefix, binary}
use Rattle.ioa_tree.specs.Depth.{depth_of}
use Rattle.ioa_grammar.specs.Operators.{right_of, after_of, tightest}
use Rattle.ioa_grammar.specs.Grammar.{SameHead, SpellsExpr}
use Rattle.ioa_grammar.specs.Reading.{climb, climb_by, stop_by, expr, first, prefix_at, prefix_in, operand, primary, start_at, operator_at, operator_in, terminal_at, terminal_in, allowed, rest, Outcome, Reader, ◌>>=◌, built}
use Rattle.ioa_declarations.proofs.Outcomes.{bind_err, AtMost, at_most_more, at_most_then, Shrinks, Alike, Past, past_at_most, alike_then, alike_rest, refused_at, went, front_length, same_head, LooksAhead, head_alike, rest_length}
use Rattle.ioa_declarations.proofs.Exact.{Found}
use Rattle.ioa_declarations.proofs.Endings.{mark}
use Rattle.ioa_declarations.proofs.Spelled.{spelled_deep, depth_positive}
use Rattle.ioa_declarations.proofs.Complete.{first_plain, first_marked, first_loose, climbs}
use Rattle.ioa_declarations.proofs.Sound.{Reads, next_cases, beginning, begins_plain, begins_marked, begins_loose, first_sound}

operator_alike : (least below : ℕ) → LooksAhead (operator_at least below)
unfolding operator_at terminal_at
operator_alike least below = head_alike (operator_at least below) None (λ x. allowed least below (operator_in (terminal_in x))) refl (λ x ts. refl)

prefix_alike : LooksAhead prefix_at
unfolding prefix_at terminal_at
prefix_alike = head_alike prefix_at None (λ x. prefix_in (terminal_in x)) refl (λ x ts. refl)

-- ---- what begins an expression

abbrev pub EachShrinks : (ℕ → Reader Expr) → Type 0
EachShrinks e = (k : ℕ) → Shrinks (e k)

abbrev plain : ℕ → Reader Expr → Reader (Expr × ℕ)
plain b inner = built (λ t. (t, tightest)) (operand b inner)

abbrev marked : Op → Reader Expr → Reader (Expr × ℕ)
marked o inner = built (λ t. (prefix o t, after_of (Operator o))) inner

built_shrinks : {A B : Type 0} (f : A → B) (p : Reader A) → Shrinks p → Shrinks (built f p)
built_shrinks f p shrinks ts = at_most_then (length ts) (p ts) (λ x. Ok (f x.0, x.1)) (shrinks ts) (λ x h. h)

built_alike : {A B : Type 0} (f : A → B) (p p' : Reader A) (s s' : List Tok) → ((c : List Tok) → Alike s s' (p (c ++ s)) (p' (c ++ s'))) → (c : List Tok) → Alike s s' (built f p (c ++ s)) (built f p' (c ++ s'))
built_alike f p p' s s' alike c = alike_then s s' (p (c ++ s)) (p' (c ++ s')) (λ x. Ok (f x.0, x.1)) (λ x. Ok (f x.0, x.1)) (alike c) (λ x h. h) (λ x d was is. went s s' (f x) d)

first_shrinks : (b least : ℕ) (e : ℕ → Reader Expr) → EachShrinks e → Shrinks (operand b (e 0)) → Shrinks (first b least e)
first_shrinks b least e shrinks operands ts =
    elim (beginning least ts) [
      | begins_plain none ↦ subst (AtMost (length ts)) (sym (first_plain b least e ts none)) (built_shrinks (λ t. (t, tightest)) (operand b (e 0)) operands ts)
      | begins_marked o is at before low ↦
          subst (AtMost (length ts)) (sym (first_marked b least e o ts is low))
          (at_most_more (length (rest ts)) (length ts) (marked o (e (right_of (Operator o))) (rest ts)) (rest_length ts) (built_shrinks (λ t. (prefix o t, after_of (Operator o))) (e (right_of (Operator o))) (shrinks (right_of (Operator o))) (rest ts)))
      | begins_loose o is at high ↦ subst (AtMost (length ts)) (sym (first_loose b least e o ts is high)) (omega arith)
    ]

module _ (b b' least : ℕ) (e e' : ℕ → Reader Expr) (shrinks : EachShrinks e) (s s' : List Tok) (same : SameHead s s') (alike : (k : ℕ) (c : List Tok) → Alike s s' (e k (c ++ s)) (e' k (c ++ s')))
    (operands : (c : List Tok) → Alike s s' (operand b (e 0) (c ++ s)) (operand b' (e' 0) (c ++ s'))) where
  first_as : (c : List Tok) (o o' : Outcome (Expr × ℕ)) → first b least e (c ++ s) ≡ o → first b' least e' (c ++ s') ≡ o' → Alike s s' o o' → Alike s s' (first b least e (c ++ s)) (first b' least e' (c ++ s'))
  first_as c o o' was is a = subst (λ z. Alike s s' z (first b' least e' (c ++ s'))) (sym was) (subst (λ z. Alike s s' o z) (sym is) a)

  first_alike : (c : List Tok) → Alike s s' (first b least e (c ++ s)) (first b' least e' (c ++ s'))
  first_alike c =
      let here : prefix_at (c ++ s) ≡ prefix_at (c ++ s') = prefix_alike (c ++ s) (c ++ s') (same_head s s' same c) in
      elim (beginning least (c ++ s)) [
        | begins_plain none ↦
            first_as c (plain b (e 0) (c ++ s)) (plain b' (e' 0) (c ++ s')) (first_plain b least e (c ++ s) none) (first_plain b' least e' (c ++ s') (sym here ∙ none))
            (built_alike (λ t. (t, tightest)) (operand b (e 0)) (operand b' (e' 0)) s s' operands c)
        | begins_marked o is at before low ↦
            let r : ℕ = right_of (Operator o) in
            first_as c (marked o (e r) (rest (c ++ s))) (marked o (e' r) (rest (c ++ s'))) (first_marked b least e o (c ++ s) is low) (first_marked b' least e' o (c ++ s') (sym here ∙ is) low)
            (alike_rest s s' (marked o (e r)) (marked o (e' r)) same (built_shrinks (λ t. (prefix o t, after_of (Operator o))) (e r) (shrinks r)) (built_alike (λ t. (prefix o t, after_of (Operator o))) (e r) (e' r) s s' (alike r)) c (omega (arith, ap length at)))
        | begins_loose o is at high ↦
            first_as c (Err (Syntax (length (c ++ s)))) (Err (Syntax (length (c ++ s')))) (first_loose b least e o (c ++ s) is high) (first_loose b' least e' o (c ++ s') (sym here ∙ is) high)
            (refused_at s s' (length (c ++ s)) (length (c ++ s')) (front_length c s))
      ]

-- ---- operators

-- one operator more, at the same count of turns
abbrev step : (b : ℕ) (e : ℕ → Reader Expr) (n least : ℕ) (left : Expr) (o : Infix) → Reader Expr
step b e n least left o ts = if nat_le (depth_of left) b then (e (right_of o) ts >>= λ q. climb b e n least (after_of o) (binary left o q.0) q.1) else Err TooDeep

module _ (b : ℕ) (e : ℕ → Reader Expr) (shrinks_e : EachShrinks e) where
  step_shrinks : (n least : ℕ) (left : Expr) (o : Infix) → ((below : ℕ) (left : Expr) (ts : List Tok) → AtMost (length ts) (climb b e n least below left ts)) → Shrinks (step b e n least left o)
  step_shrinks n least left o again ts = by (nat_le (depth_of left) b)
    where
      by : (c : Bool) → AtMost (length ts) (if c then (e (right_of o) ts >>= λ q. climb b e n least (after_of o) (binary left o q.0) q.1) else Err TooDeep)
      by false = tt
      by true =
          at_most_then (length ts) (e (right_of o) ts) (λ q. climb b e n least (after_of o) (binary left o q.0) q.1) (shrinks_e (right_of o) ts)
          (λ q h. at_most_more (length q.1) (length ts) (climb b e n least (after_of o) (binary left o q.0) q.1) h (again (after_of o) (binary left o q.0) q.1))

  climb_shrinks : (n least below : ℕ) (left : Expr) (ts : List Tok) → AtMost (length ts) (climb b e n least below left ts)
  unfolding climb
  climb_shrinks zero least below left ts = by (operator_at least below ts)
    where
      by : (o : Option Infix) → AtMost (length ts) (stop_by b e left ts o)
      by None = omega arith
      by (Some x) = tt
  climb_shrinks (suc n) least below left ts =
      let again = climb_shrinks n least in
      elim (next_cases least below ts) [
        | inl absent ↦ subst (λ o. AtMost (length ts) (climb_by b e (climb b e n least) left ts o)) (sym absent) (omega arith)
        | inr present ↦ subst (λ o. AtMost (length ts) (climb_by b e (climb b e n least) left ts o)) (sym present.1) (at_most_more (length (rest ts)) (length ts) (step b e n least left present.0 (rest ts)) (rest_length ts) (step_shrinks n least left present.0 again (rest ts)))
      ]

climb_none : (b : ℕ) (e : ℕ → Reader Expr) (n least below : ℕ) (left : Expr) (ts : List Tok) → operator_at least below ts ≡ None → climb b e n least below left ts ≡ Ok (left, ts)
unfolding climb
climb_none b e zero least below left ts absent = rw absent refl
climb_none b e (suc n) least below left ts absent = rw absent refl

pub shrinks_more : (b : ℕ) → EachShrinks (expr b) → Shrinks (operand b (expr b 0)) → EachShrinks (expr (suc b))
unfolding expr
shrinks_more b inner operands k ts =
    at_most_then (length ts) (first b k (expr b) ts) (climbs b k) (first_shrinks b k (expr b) inner operands ts)
    (λ p h. at_most_more (length p.1) (length ts) (climbs b k p) h (climb_shrinks b (expr b) inner b k p.0.1 p.0.0 p.1))

module _ (b b' : ℕ) (e e' : ℕ → Reader Expr) (deeper : b ≤ b') (shrinks_e : EachShrinks e) (s s' : List Tok) (same : SameHead s s') (inner : (k : ℕ) (c : List Tok) → Alike s s' (e k (c ++ s)) (e' k (c ++ s'))) where
  abbrev Climbs : ℕ → ℕ → Type 0
  Climbs n n' = (least below : ℕ) (left : Expr) (c : List Tok) → Alike s s' (climb b e n least below left (c ++ s)) (climb b' e' n' least below left (c ++ s'))

  step_alike : (n n' : ℕ) → Climbs n n' → (least : ℕ) (left : Expr) (o : Infix) (c : List Tok) → Alike s s' (step b e n least left o (c ++ s)) (step b' e' n' least left o (c ++ s'))
  step_alike n n' more_of least left o c = by (nat_le (depth_of left) b) refl
    where
      by : (x : Bool) → nat_le (depth_of left) b ≡ x → Alike s s' (step b e n least left o (c ++ s)) (step b' e' n' least left o (c ++ s'))
      by false fails = rw fails (inl tt)
      by true fits =
          let wide : nat_le (depth_of left) b' ≡ true = grind (arith, nat_tests) in
          rw (fits, wide) (alike_then s s' (e (right_of o) (c ++ s)) (e' (right_of o) (c ++ s')) (λ q. climb b e n least (after_of o) (binary left o q.0) q.1) (λ q. climb b' e' n' least (after_of o) (binary left o q.0) q.1) (inner (right_of o) c)
          (λ q h. past_at_most s (length q.1) (climb b e n least (after_of o) (binary left o q.0) q.1) h (climb_shrinks b e shrinks_e n least (after_of o) (binary left o q.0) q.1))
          (λ t d was is. more_of least (after_of o) (binary left o t) d))

  over : (n n' least below : ℕ) (left : Expr) (c : List Tok) → operator_at least below (c ++ s) ≡ None → Alike s s' (climb b e n least below left (c ++ s)) (climb b' e' n' least below left (c ++ s'))
  over n n' least below left c absent =
      let absent' : operator_at least below (c ++ s') ≡ None = sym (operator_alike least below (c ++ s) (c ++ s') (same_head s s' same c)) ∙ absent in
      inr (inr (record { found = left; front = c; was = climb_none b e n least below left (c ++ s) absent; is = climb_none b' e' n' least below left (c ++ s') absent' }))

  climb_alike : (n n' : ℕ) → n ≤ n' → Climbs n n'
  unfolding climb
  climb_alike zero n' le least below left c =
      elim (next_cases least below (c ++ s)) [
        | inl absent ↦ over zero n' least below left c absent
        | inr present ↦ inl (subst (λ o. Past s (stop_by b e left (c ++ s) o)) (sym present.1) tt)
      ]
  climb_alike (suc n) zero le least below left c = absurd (omega arith)
  climb_alike (suc n) (suc n') le least below left c =
      let more_of = climb_alike n n' (omega arith) in
      elim (next_cases least below (c ++ s)) [
        | inl absent ↦ over (suc n) (suc n') least below left c absent
        | inr present ↦
            let present' : operator_at least below (c ++ s') ≡ Some present.0 = sym (operator_alike least below (c ++ s) (c ++ s') (same_head s s' same c)) ∙ present.1 in
            subst (λ o. Alike s s' (climb_by b e (climb b e n least) left (c ++ s) o) (climb_by b' e' (climb b' e' n' least) left (c ++ s') (operator_at least below (c ++ s')))) (sym present.1)
            (subst (λ o. Alike s s' (step b e n least left present.0 (rest (c ++ s))) (climb_by b' e' (climb b' e' n' least) left (c ++ s') o)) (sym present')
            (alike_rest s s' (step b e n least left present.0) (step b' e' n' least left present.0) same (step_shrinks b e shrinks_e n least left present.0 (climb_shrinks b e shrinks_e n least)) (step_alike n n' more_of least left present.0) c (omega (arith, ap length present.2))))
      ]

pub no_expr : (b k : ℕ) → expr b k [] ≡ Err (Syntax 0)
unfolding expr first prefix_at terminal_at operand primary start_at
no_expr zero k = refl
no_expr (suc b) k = refl

pub alike_more : (b b' : ℕ) → b ≤ b' → (s s' : List Tok) → SameHead s s' → EachShrinks (expr b) → ((k : ℕ) (c : List Tok) → Alike s s' (expr b k (c ++ s)) (expr b' k (c ++ s'))) →
    ((c : List Tok) → Alike s s' (operand b (expr b 0) (c ++ s)) (operand b' (expr b' 0) (c ++ s'))) → (k : ℕ) (c : List Tok) → Alike s s' (expr (suc b) k (c ++ s)) (expr (suc b') k (c ++ s'))
unfolding expr
alike_more b b' le s s' same shrinks inner operands k c =
    alike_then s s' (first b k (expr b) (c ++ s)) (first b' k (expr b') (c ++ s')) (climbs b k) (climbs b' k)
    (first_alike b b' k (expr b) (expr b') shrinks s s' same inner operands c)
    (λ p h. past_at_most s (length p.1) (climbs b k p) h (climb_shrinks b (expr b) shrinks b k p.0.1 p.0.0 p.1))
    (λ t d was is. climb_alike b b' (expr b) (expr b') le shrinks s s' same inner b b' le k t.1 t.0 d)

-- ---- too deep

module _ (b : ℕ) (e : ℕ → Reader Expr) (deep : (k : ℕ) (ts : List Tok) → e k ts ≡ Err TooDeep → b < length ts)
    (reads : (k : ℕ) (ts : List Tok) (t : Expr) (left : List Tok) → e k ts ≡ Ok (t, left) → (front : List Tok) × (depth_of t ≤ length front) × (ts ≡ front ++ left))
    (operands : (ts : List Tok) → operand b (e 0) ts ≡ Err TooDeep → suc b < length ts) where
  first_long : (least : ℕ) (ts : List Tok) → first b least e ts ≡ Err TooDeep → suc b < length ts
  first_long least ts h =
      elim (beginning least ts) [
        | begins_plain none ↦ elim (bind_err (operand b (e 0) ts) (λ x. Ok ((x.0, tightest), x.1)) TooDeep (sym (first_plain b least e ts none) ∙ h)) [
          | inl far ↦ operands ts far
          | inr never ↦ absurd (cc (never.2))
        ]
        | begins_marked o is at before low ↦
            elim (bind_err (e (right_of (Operator o)) (rest ts)) (λ x. Ok ((prefix o x.0, after_of (Operator o)), x.1)) TooDeep (sym (first_marked b least e o ts is low) ∙ h)) [
              | inl far ↦ let more = deep (right_of (Operator o)) (rest ts) far in omega (arith, ap length at)
              | inr never ↦ absurd (cc (never.2))
            ]
        | begins_loose o is at high ↦ let never = sym (first_loose b least e o ts is high) ∙ h in absurd (cc)
      ]

  climb_long : (n least below : ℕ) (left : Expr) (a ts : List Tok) → depth_of left ≤ length a → b < n + depth_of left → climb b e n least below left ts ≡ Err TooDeep → suc b < length (a ++ ts)
  unfolding climb
  climb_long zero least below left a ts d fuel h =
      elim (next_cases least below ts) [
        | inl absent ↦ let never : ◌≡◌ {A = Outcome Expr} (Ok (left, ts)) (Err TooDeep) = subst (λ o. stop_by b e left ts o ≡ Err TooDeep) absent h in absurd (cc)
        | inr present ↦ omega (arith, ap length present.2, length-append a ts)
      ]
  climb_long (suc n) least below left a ts d fuel h =
      let again = climb_long n least in
      elim (next_cases least below ts) [
        | inl absent ↦ let never : ◌≡◌ {A = Outcome Expr} (Ok (left, ts)) (Err TooDeep) = subst (λ o. climb_by b e (climb b e n least) left ts o ≡ Err TooDeep) absent h in absurd (cc)
        | inr present ↦ by (nat_le (depth_of left) b) refl present.0 present.2 again (subst (λ o. climb_by b e (climb b e n least) left ts o ≡ Err TooDeep) present.1 h)
      ]
    where
      by : (x : Bool) → nat_le (depth_of left) b ≡ x → (o : Infix) → ts ≡ mark o ∷ rest ts →
          ((below : ℕ) (left : Expr) (a ts : List Tok) → depth_of left ≤ length a → b < n + depth_of left → climb b e n least below left ts ≡ Err TooDeep → suc b < length (a ++ ts)) →
          step b e n least left o (rest ts) ≡ Err TooDeep → suc b < length (a ++ ts)
      by false fails o is again h = let far : b < depth_of left = grind (arith, nat_tests) in omega (arith, ap length is, length-append a ts)
      by true fits o is again h =
          let g : (e (right_of o) (rest ts) >>= λ q. climb b e n least (after_of o) (binary left o q.0) q.1) ≡ Err TooDeep =
          subst (λ (x : Bool). (if x then (e (right_of o) (rest ts) >>= λ q. climb b e n least (after_of o) (binary left o q.0) q.1) else Err TooDeep) ≡ Err TooDeep) fits h in
          elim (bind_err (e (right_of o) (rest ts)) (λ q. climb b e n least (after_of o) (binary left o q.0) q.1) TooDeep g) [
            | inl first ↦ omega (arith, deep (right_of o) (rest ts) first, ap length is, length-append a ts, depth_positive left)
            | inr later ↦
                let r = reads (right_of o) (rest ts) later.0.0 later.0.1 later.1 in
                let longer : List Tok = a ++ mark o ∷ r.0 in
                let joined : a ++ ts ≡ longer ++ later.0.1 = ap (λ z. a ++ z) (is ∙ ap (λ z. mark o ∷ z) r.2) ∙ sym (append_assoc a (mark o ∷ r.0) later.0.1) in
                let far = again (after_of o) (binary left o later.0.0) longer later.0.1 (omega (arith, r.1, length-append a (mark o ∷ r.0))) (omega arith) later.2 in
                omega (arith, ap length joined)
          ]

pub long_more : (b : ℕ) → ((k : ℕ) (ts : List Tok) → expr b k ts ≡ Err TooDeep → b < length ts) →
    ((k : ℕ) (ts : List Tok) (t : Expr) (left : List Tok) → expr b k ts ≡ Ok (t, left) → Reads b k ts t left) →
    ((ts : List Tok) (t : Expr) (left : List Tok) → operand b (expr b 0) ts ≡ Ok (t, left) → Found (SpellsExpr tightest) depth_of (suc b) ts t left) →
    ((ts : List Tok) → operand b (expr b 0) ts ≡ Err TooDeep → suc b < length ts) →
    (k : ℕ) (ts : List Tok) → expr (suc b) k ts ≡ Err TooDeep → suc b < length ts
unfolding expr
long_more b deep sound sound_operands operands k ts h =
    let reads : (k : ℕ) (ts : List Tok) (t : Expr) (left : List Tok) → expr b k ts ≡ Ok (t, left) → (front : List Tok) × (depth_of t ≤ length front) × (ts ≡ front ++ left) =
    λ k ts t left h. let r = sound k ts t left h in (r.front, spelled_deep t k r.front r.spells, r.apart) in
    elim (bind_err (first b k (expr b) ts) (climbs b k) TooDeep h) [
      | inl far ↦ first_long b (expr b) deep reads operands k ts far
      | inr later ↦
          let r = first_sound b (expr b) sound sound_operands k ts later.0.0.0 later.0.0.1 later.0.1 later.1 in
          let far = climb_long b (expr b) deep reads operands b k later.0.0.1 later.0.0.0 r.front later.0.1 (spelled_deep later.0.0.0 k r.front r.spells) (omega (arith, depth_positive later.0.0.0)) later.2 in
          omega (arith, ap length r.apart)
    ]
