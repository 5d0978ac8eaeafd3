-- Operands: primaries and fields of them. A field makes an operand one level deeper, so as many fields as there are levels are enough.
use Rattle.std.proofs.Common.{◌≡◌, ℕ, zero, suc, ◌+◌, ◌<◌, ◌≤◌, inl, inr, Bool, true, false, List, [], ◌∷◌, ◌++◌, length, refl, sym, ap, ◌∙◌, subst, arith, None, Ok, Err, nat_le, length-append, append_assoc}
use Rattle.std.proofs.lemmas.Bool.Decides.{nat_tests}
use Rattle.ioa_value.specs.declared.terminal.Terminal.TheVariants as terminals
use Rattle.ioa_lex.specs.Tokens as tokens
use Rattle.ioa_lex.specs.Tokens.{Tok, terminal}
use Rattle.ioa_value.specs.Actions.{Name}
use Rattle.ioa_grammar.specs.declared.fault.Fault.TheVariants.{TooDeep}
use Rattle.ioa_tree.specs.declared.tree.Infix.TheVariants.{Operator}
use Rattle.ioa_tree.specs.Tree.{Expr, number, truth, named, parens, prefix, binary, empty, make, select}
use Rattle.ioa_tree.specs.Depth.{depth_of}
use Rattle.ioa_grammar.specs.Operators.{tightest}
use Rattle.ioa_grammar.specs.Grammar.{SameHead, SpellsExpr}
use Rattle.ioa_grammar.specs.Reading.{Outcome, Reader, ◌>>=◌, rest, sees, same_terminal, a_name, after, primary, fields_from, operand, prefix_at}
use Rattle.ioa_declarations.proofs.Outcomes.{bind_ok, bind_err, ok_pair, AtMost, at_most_more, at_most_then, Shrinks, Alike, Past, past_at_most, alike_then, alike_rest, went, same_head, rest_length}
use Rattle.ioa_declarations.proofs.Exact.{Found, ExactFor}
use Rattle.ioa_declarations.proofs.Singles.{sees_word, seen, seen_some, sees_alike, after_seen, after_unseen, name_exact}
use Rattle.ioa_grammar.proofs.Binding.{level_bounds}
use Rattle.ioa_tree.proofs.Compared.{le_holds}
use Rattle.ioa_declarations.proofs.Endings.{Ends}
use Rattle.ioa_declarations.proofs.Spelled.{spelled_deep, depth_positive}
use Rattle.ioa_declarations.proofs.Primaries.{Opens, Unopened, primary_exact, opens_spells, opens_plain, number_opens, truth_opens, named_opens, parens_opens, empty_opens, make_opens, one_opens, two_opens}

-- ---- one field more

-- after `.`, with so many turns left
abbrev selects : ℕ → ℕ → Expr → Reader Expr
selects b n e ts = a_name ts >>= λ p. fields_from b n (select e p.0) p.1

fields_over : (b n : ℕ) (e : Expr) (ts : List Tok) → sees terminals.Dot ts ≡ false → fields_from b n e ts ≡ Ok (e, ts)
unfolding fields_from
fields_over b zero e ts h = let here : fields_from b zero e ts ≡ Ok (e, after terminals.Dot ts) = rw h refl in here ∙ ap (λ z. Ok (e, z)) (after_unseen terminals.Dot ts h)
fields_over b (suc n) e ts h = let here : fields_from b (suc n) e ts ≡ Ok (e, after terminals.Dot ts) = rw h refl in here ∙ ap (λ z. Ok (e, z)) (after_unseen terminals.Dot ts h)

fields_spent : (b : ℕ) (e : Expr) (ts : List Tok) → sees terminals.Dot ts ≡ true → fields_from b zero e ts ≡ Err TooDeep
unfolding fields_from
fields_spent b e ts h = rw h refl

fields_deep : (b n : ℕ) (e : Expr) (ts : List Tok) → sees terminals.Dot ts ≡ true → nat_le (depth_of e) b ≡ false → fields_from b (suc n) e ts ≡ Err TooDeep
unfolding fields_from
fields_deep b n e ts h d = rw (h, d) refl

fields_more : (b n : ℕ) (e : Expr) (ts : List Tok) → sees terminals.Dot ts ≡ true → nat_le (depth_of e) b ≡ true → fields_from b (suc n) e ts ≡ selects b n e (rest ts)
unfolding fields_from
fields_more b n e ts h d = let here : fields_from b (suc n) e ts ≡ selects b n e (after terminals.Dot ts) = rw (h, d) refl in here ∙ ap (selects b n e) (after_seen terminals.Dot ts h)

-- what comes next, where so many turns and one more are left
data Next (b n : ℕ) (e : Expr) (ts : List Tok) : Type 0 where
  over : sees terminals.Dot ts ≡ false → Next b n e ts
  deep : sees terminals.Dot ts ≡ true → nat_le (depth_of e) b ≡ false → Next b n e ts
  more : sees terminals.Dot ts ≡ true → nat_le (depth_of e) b ≡ true → Next b n e ts

next : (b n : ℕ) (e : Expr) (ts : List Tok) → Next b n e ts
next b n e ts = by (sees terminals.Dot ts) (nat_le (depth_of e) b) refl refl
  where
    by : (v w : Bool) → sees terminals.Dot ts ≡ v → nat_le (depth_of e) b ≡ w → Next b n e ts
    by false w h d = over h
    by true false h d = deep h d
    by true true h d = more h d

-- ---- what is read is spelled

fields_stop : (b : ℕ) (e : Expr) (ts : List Tok) (t : Expr) (left a : List Tok) → ◌≡◌ {A = Outcome Expr} (Ok (e, ts)) (Ok (t, left)) → SpellsExpr tightest e a → depth_of e ≤ suc b → Found (SpellsExpr tightest) depth_of (suc b) (a ++ ts) t left
fields_stop b e ts t left a h s d =
    let p = ok_pair e t ts left h in
    record { front = a; spells = subst (λ t. SpellsExpr tightest t a) p.0 s; apart = ap (λ r. a ++ r) p.1; within = subst (λ t. depth_of t ≤ suc b) p.0 d }

fields_sound : (b n : ℕ) (e : Expr) (ts : List Tok) (t : Expr) (left a : List Tok) → fields_from b n e ts ≡ Ok (t, left) → SpellsExpr tightest e a → depth_of e ≤ suc b → Found (SpellsExpr tightest) depth_of (suc b) (a ++ ts) t left
fields_sound b zero e ts t left a h s d = by (sees terminals.Dot ts) refl
  where
    by : (v : Bool) → sees terminals.Dot ts ≡ v → Found (SpellsExpr tightest) depth_of (suc b) (a ++ ts) t left
    by false is = fields_stop b e ts t left a (sym (fields_over b zero e ts is) ∙ h) s d
    by true is = let never = sym (fields_spent b e ts is) ∙ h in absurd (cc)
fields_sound b (suc n) e ts t left a h s d =
    let again = fields_sound b n in
    elim (next b n e ts) [
      | over is ↦ fields_stop b e ts t left a (sym (fields_over b (suc n) e ts is) ∙ h) s d
      | deep is far ↦ let never = sym (fields_deep b n e ts is far) ∙ h in absurd (cc)
      | more is fits ↦
          let one = bind_ok (a_name (rest ts)) (λ p. fields_from b n (select e p.0) p.1) (t, left) (sym (fields_more b n e ts is fits) ∙ h) in
          let f = name_exact.sound b (rest ts) one.0.0 one.0.1 one.1 in
          let dotted : List Tok = terminal terminals.Dot ∷ f.front in
          let spells : SpellsExpr tightest (select e one.0.0) (a ++ dotted) = (a, dotted, s, (terminal terminals.Dot ∷ [], f.front, refl, f.spells, refl), refl) in
          let joined : a ++ ts ≡ (a ++ dotted) ++ one.0.1 = ap (λ r. a ++ r) (seen terminals.Dot ts is ∙ ap (λ r. terminal terminals.Dot ∷ r) f.apart) ∙ sym (append_assoc a dotted one.0.1) in
          let small : depth_of e ≤ b = grind (arith, nat_tests) in
          let m = again (select e one.0.0) one.0.1 t left (a ++ dotted) one.2 spells (omega (arith, small)) in
          record { front = m.front; spells = m.spells; apart = joined ∙ m.apart; within = m.within }
    ]

-- ---- what is left, and faults

selects_shrinks : (b n : ℕ) (e : Expr) → ((e : Expr) (ts : List Tok) → AtMost (length ts) (fields_from b n e ts)) → Shrinks (selects b n e)
selects_shrinks b n e again ts =
    at_most_then (length ts) (a_name ts) (λ p. fields_from b n (select e p.0) p.1) (name_exact.shrinks b ts)
    (λ p h. at_most_more (length p.1) (length ts) (fields_from b n (select e p.0) p.1) h (again (select e p.0) p.1))

fields_shrinks : (b n : ℕ) (e : Expr) (ts : List Tok) → AtMost (length ts) (fields_from b n e ts)
fields_shrinks b zero e ts = by (sees terminals.Dot ts) refl
  where
    by : (v : Bool) → sees terminals.Dot ts ≡ v → AtMost (length ts) (fields_from b zero e ts)
    by false is = subst (AtMost (length ts)) (sym (fields_over b zero e ts is)) (omega arith)
    by true is = subst (AtMost (length ts)) (sym (fields_spent b e ts is)) tt
fields_shrinks b (suc n) e ts =
    let again = fields_shrinks b n in
    elim (next b n e ts) [
      | over is ↦ subst (AtMost (length ts)) (sym (fields_over b (suc n) e ts is)) (omega arith)
      | deep is far ↦ subst (AtMost (length ts)) (sym (fields_deep b n e ts is far)) tt
      | more is fits ↦ subst (AtMost (length ts)) (sym (fields_more b n e ts is fits)) (at_most_more (length (rest ts)) (length ts) (selects b n e (rest ts)) (rest_length ts) (selects_shrinks b n e again (rest ts)))
    ]

module _ (b b' : ℕ) (deeper : b ≤ b') (s s' : List Tok) (same : SameHead s s') where
  abbrev FieldsAlike : ℕ → ℕ → Type 0
  FieldsAlike n n' = (e : Expr) (c : List Tok) → Alike s s' (fields_from b n e (c ++ s)) (fields_from b' n' e (c ++ s'))

  selects_alike : (n n' : ℕ) → FieldsAlike n n' → (e : Expr) (c : List Tok) → Alike s s' (selects b n e (c ++ s)) (selects b' n' e (c ++ s'))
  selects_alike n n' again e c =
      alike_then s s' (a_name (c ++ s)) (a_name (c ++ s')) (λ p. fields_from b n (select e p.0) p.1) (λ p. fields_from b' n' (select e p.0) p.1) (name_exact.alike b b' deeper s s' same c)
      (λ p h. past_at_most s (length p.1) (fields_from b n (select e p.0) p.1) h (fields_shrinks b n (select e p.0) p.1))
      (λ x d was is. again (select e x) d)

  fields_as : (n n' : ℕ) (e : Expr) (c : List Tok) (o o' : Outcome Expr) → fields_from b n e (c ++ s) ≡ o → fields_from b' n' e (c ++ s') ≡ o' → Alike s s' o o' → Alike s s' (fields_from b n e (c ++ s)) (fields_from b' n' e (c ++ s'))
  fields_as n n' e c o o' was is a = subst (λ z. Alike s s' z (fields_from b' n' e (c ++ s'))) (sym was) (subst (λ z. Alike s s' o z) (sym is) a)

  dot_alike : (c : List Tok) → sees terminals.Dot (c ++ s) ≡ sees terminals.Dot (c ++ s')
  dot_alike c = sees_alike terminals.Dot (c ++ s) (c ++ s') (same_head s s' same c)

  both_over : (n n' : ℕ) (e : Expr) (c : List Tok) → sees terminals.Dot (c ++ s) ≡ false → Alike s s' (fields_from b n e (c ++ s)) (fields_from b' n' e (c ++ s'))
  both_over n n' e c is = fields_as n n' e c (Ok (e, c ++ s)) (Ok (e, c ++ s')) (fields_over b n e (c ++ s) is) (fields_over b' n' e (c ++ s') (sym (dot_alike c) ∙ is)) (went s s' e c)

  fields_alike : (n n' : ℕ) → n ≤ n' → FieldsAlike n n'
  fields_alike zero n' le e c = by (sees terminals.Dot (c ++ s)) refl
    where
      by : (v : Bool) → sees terminals.Dot (c ++ s) ≡ v → Alike s s' (fields_from b zero e (c ++ s)) (fields_from b' n' e (c ++ s'))
      by false is = both_over zero n' e c is
      by true is = inl (subst (Past s) (sym (fields_spent b e (c ++ s) is)) tt)
  fields_alike (suc n) zero le e c = absurd (omega arith)
  fields_alike (suc n) (suc n') le e c =
      let again = fields_alike n n' (omega arith) in
      elim (next b n e (c ++ s)) [
        | over is ↦ both_over (suc n) (suc n') e c is
        | deep is far ↦ inl (subst (Past s) (sym (fields_deep b n e (c ++ s) is far)) tt)
        | more is fits ↦
            let wide : nat_le (depth_of e) b' ≡ true = grind (arith, nat_tests) in
            fields_as (suc n) (suc n') e c (selects b n e (rest (c ++ s))) (selects b' n' e (rest (c ++ s'))) (fields_more b n e (c ++ s) is fits) (fields_more b' n' e (c ++ s') (sym (dot_alike c) ∙ is) wide)
            (alike_rest s s' (selects b n e) (selects b' n' e) same (selects_shrinks b n e (fields_shrinks b n)) (selects_alike n n' again e) c (seen_some terminals.Dot (c ++ s) is))
      ]

fields_long : (b n : ℕ) (e : Expr) (a ts : List Tok) → depth_of e ≤ length a → b < n + depth_of e → fields_from b n e ts ≡ Err TooDeep → suc b < length (a ++ ts)
fields_long b zero e a ts d fuel h = by (sees terminals.Dot ts) refl
  where
    by : (v : Bool) → sees terminals.Dot ts ≡ v → suc b < length (a ++ ts)
    by false is = let never = sym (fields_over b zero e ts is) ∙ h in absurd (cc)
    by true is = omega (arith, seen_some terminals.Dot ts is, length-append a ts)
fields_long b (suc n) e a ts d fuel h =
    let again = fields_long b n in
    elim (next b n e ts) [
      | over is ↦ let never = sym (fields_over b (suc n) e ts is) ∙ h in absurd (cc)
      | deep is far ↦ let large : b < depth_of e = grind (arith, nat_tests) in omega (arith, seen_some terminals.Dot ts is, length-append a ts)
      | more is fits ↦
          elim (bind_err (a_name (rest ts)) (λ p. fields_from b n (select e p.0) p.1) TooDeep (sym (fields_more b n e ts is fits) ∙ h)) [
            | inl never ↦ omega (arith, name_exact.long (suc b) (rest ts) never, rest_length ts, length-append a ts)
            | inr later ↦
                let f = name_exact.sound b (rest ts) later.0.0 later.0.1 later.1 in
                let dotted : List Tok = terminal terminals.Dot ∷ f.front in
                let joined : a ++ ts ≡ (a ++ dotted) ++ later.0.1 = ap (λ r. a ++ r) (seen terminals.Dot ts is ∙ ap (λ r. terminal terminals.Dot ∷ r) f.apart) ∙ sym (append_assoc a dotted later.0.1) in
                let far = again (select e later.0.0) (a ++ dotted) later.0.1 (omega (arith, length-append a dotted)) (omega arith) later.2 in
                omega (arith, ap length joined)
          ]
    ]

-- ---- operands

-- no operator that stands before an expression begins an operand
pub operand_plain : (t : Expr) (ts left : List Tok) → SpellsExpr tightest t ts → prefix_at (ts ++ left) ≡ None
operand_plain (number n) ts left s = opens_plain (number n) ts left (number_opens n tightest ts s)
operand_plain (truth v) ts left s = opens_plain (truth v) ts left (truth_opens v tightest ts s)
operand_plain (named n) ts left s = opens_plain (named n) ts left (named_opens n tightest ts s)
operand_plain (parens t) ts left s = opens_plain (parens t) ts left (parens_opens t tightest ts s)
operand_plain (prefix o t) ts left (inl s) = absurd (omega (arith, s.1, (level_bounds (Operator o)).2))
operand_plain (prefix o t) ts left (inr s) = opens_plain (prefix o t) ts left (one_opens o t ts s.0 s.1)
operand_plain (binary l o r) ts left (inl s) = absurd (omega (arith, s.1, (level_bounds o).2))
operand_plain (binary l o r) ts left (inr s) = opens_plain (binary l o r) ts left (two_opens l o r ts s.0 s.1)
operand_plain (empty n) ts left s = opens_plain (empty n) ts left (empty_opens n tightest ts s)
operand_plain (make n es) ts left s = opens_plain (make n es) ts left (make_opens n es tightest ts s)
operand_plain (select t n) ts left s = ap prefix_at (ap (λ z. z ++ left) s.4 ∙ append_assoc s.0 s.1 left) ∙ operand_plain t s.0 (s.1 ++ left) s.2

open_dot : (z : List Tok) → Unopened (terminal terminals.Dot ∷ z)
unfolding sees same_terminal
open_dot z = refl

module _ {I : Type 0} {size : I → ℕ} (P : I → Reader Expr) (p : ExactFor (λ b. suc (size b)) Opens depth_of Unopened (λ b. primary (P b))) where
  abbrev fields_of : I → Expr × List Tok → Outcome Expr
  fields_of b x = fields_from (size b) (size b) x.0 x.1

  abbrev reads : I → Reader Expr
  reads b ts = primary (P b) ts >>= fields_of b

  -- the fields that may still come make the operand no deeper than is allowed
  abbrev Reaches : I → Expr → List Tok → List Tok → Type 0
  Reaches b t ts left = (n : ℕ) × (size b < n + depth_of t) × (reads b ts ≡ fields_from (size b) n t left)

  reach_primary : (b : I) (t : Expr) (ts left : List Tok) → Opens t ts → depth_of t ≤ suc (size b) → Unopened left → Reaches b t (ts ++ left) left
  reach_primary b t ts left s d f = (size b, omega (arith, depth_positive t), ap (λ o. o >>= fields_of b) (p.complete b t ts left s d f))

  reach_field : (b : I) (t : Expr) (n : Name) (ts left : List Tok) → depth_of (select t n) ≤ suc (size b) → Reaches b t ts (terminal terminals.Dot ∷ tokens.name n ∷ left) → Reaches b (select t n) ts left
  reach_field b t n ts left d there = by there.0 there.1 there.2
    where
      dotted : List Tok
      dotted = terminal terminals.Dot ∷ tokens.name n ∷ left

      by : (turns : ℕ) → size b < turns + depth_of t → reads b ts ≡ fields_from (size b) turns t dotted → Reaches b (select t n) ts left
      by zero fuel read = absurd (omega arith)
      by (suc m) fuel read =
          let fits : nat_le (depth_of t) (size b) ≡ true = le_holds (depth_of t) (size b) (omega arith) in
          let called : a_name (tokens.name n ∷ left) ≡ Ok (n, left) = name_exact.complete (size b) n (tokens.name n ∷ []) left refl (omega arith) tt in
          (m, omega arith, read ∙ fields_more (size b) m t dotted (sees_word terminals.Dot (tokens.name n ∷ left)) fits ∙ ap (λ o. o >>= λ q. fields_from (size b) m (select t q.0) q.1) called)

  reach : (b : I) (t : Expr) (ts left : List Tok) → SpellsExpr tightest t ts → depth_of t ≤ suc (size b) → Unopened left → Reaches b t (ts ++ left) left
  reach b (number n) ts left s d f = reach_primary b (number n) ts left (number_opens n tightest ts s) d f
  reach b (truth v) ts left s d f = reach_primary b (truth v) ts left (truth_opens v tightest ts s) d f
  reach b (named n) ts left s d f = reach_primary b (named n) ts left (named_opens n tightest ts s) d f
  reach b (parens t) ts left s d f = reach_primary b (parens t) ts left (parens_opens t tightest ts s) d f
  reach b (prefix o t) ts left (inl s) d f = absurd (omega (arith, s.1, (level_bounds (Operator o)).2))
  reach b (prefix o t) ts left (inr s) d f = reach_primary b (prefix o t) ts left (one_opens o t ts s.0 s.1) d f
  reach b (binary l o r) ts left (inl s) d f = absurd (omega (arith, s.1, (level_bounds o).2))
  reach b (binary l o r) ts left (inr s) d f = reach_primary b (binary l o r) ts left (two_opens l o r ts s.0 s.1) d f
  reach b (empty n) ts left s d f = reach_primary b (empty n) ts left (empty_opens n tightest ts s) d f
  reach b (make n es) ts left s d f = reach_primary b (make n es) ts left (make_opens n es tightest ts s) d f
  reach b (select t n) ts left s d f =
      let m = s.3 in
      let mine : s.1 ≡ terminal terminals.Dot ∷ tokens.name n ∷ [] = m.4 ∙ ap (λ z. z ++ m.1) m.2 ∙ ap (λ z. terminal terminals.Dot ∷ z) m.3 in
      let apart : ts ++ left ≡ s.0 ++ (terminal terminals.Dot ∷ tokens.name n ∷ left) = ap (λ z. z ++ left) (s.4 ∙ ap (λ z. s.0 ++ z) mine) ∙ append_assoc s.0 (terminal terminals.Dot ∷ tokens.name n ∷ []) left in
      let there = reach_field b t n (s.0 ++ (terminal terminals.Dot ∷ tokens.name n ∷ left)) left d (reach b t s.0 (terminal terminals.Dot ∷ tokens.name n ∷ left) s.2 (omega arith) (open_dot (tokens.name n ∷ left))) in
      (there.0, there.1, ap (reads b) apart ∙ there.2)

  operand_complete : (b : I) (t : Expr) (ts left : List Tok) → SpellsExpr tightest t ts → depth_of t ≤ suc (size b) → Ends tightest left → reads b (ts ++ left) ≡ Ok (t, left)
  operand_complete b t ts left s d f = let there = reach b t ts left s d f.1 in there.2 ∙ fields_over (size b) there.0 t left f.2

  operand_sound : (b : I) (ts : List Tok) (t : Expr) (left : List Tok) → reads b ts ≡ Ok (t, left) → Found (SpellsExpr tightest) depth_of (suc (size b)) ts t left
  operand_sound b ts t left h =
      let one = bind_ok (primary (P b) ts) (fields_of b) (t, left) h in
      let f = p.sound b ts one.0.0 one.0.1 one.1 in
      let m = fields_sound (size b) (size b) one.0.0 one.0.1 t left f.front one.2 (opens_spells one.0.0 f.front f.spells tightest) f.within in
      record { front = m.front; spells = m.spells; apart = f.apart ∙ m.apart; within = m.within }

  operand_alike : (b b' : I) → suc (size b) ≤ suc (size b') → (s s' : List Tok) → SameHead s s' → (c : List Tok) → Alike s s' (reads b (c ++ s)) (reads b' (c ++ s'))
  operand_alike b b' le s s' same c =
      alike_then s s' (primary (P b) (c ++ s)) (primary (P b') (c ++ s')) (fields_of b) (fields_of b') (p.alike b b' le s s' same c)
      (λ x h. past_at_most s (length x.1) (fields_of b x) h (fields_shrinks (size b) (size b) x.0 x.1))
      (λ t d was is. fields_alike (size b) (size b') (omega arith) s s' same (size b) (size b') (omega arith) t d)

  operand_long : (b : I) (ts : List Tok) → reads b ts ≡ Err TooDeep → suc (size b) < length ts
  operand_long b ts h =
      elim (bind_err (primary (P b) ts) (fields_of b) TooDeep h) [
        | inl far ↦ p.long b ts far
        | inr later ↦
            let f = p.sound b ts later.0.0 later.0.1 later.1 in
            let far = fields_long (size b) (size b) later.0.0 f.front later.0.1 (spelled_deep later.0.0 tightest f.front (opens_spells later.0.0 f.front f.spells tightest)) (omega (arith, depth_positive later.0.0)) later.2 in
            omega (arith, ap length f.apart)
      ]

  operands_exact : ExactFor (λ b. suc (size b)) (SpellsExpr tightest) depth_of (Ends tightest) (λ b. operand (size b) (P b))
  unfolding operand
  operands_exact = record {
    complete = operand_complete;
    sound = operand_sound;
    shrinks = λ b ts. at_most_then (length ts) (primary (P b) ts) (fields_of b) (p.shrinks b ts) (λ x h. at_most_more (length x.1) (length ts) (fields_of b x) h (fields_shrinks (size b) (size b) x.0 x.1));
    alike = operand_alike;
    long = operand_long;
  }

pub operand_exact : {I : Type 0} {size : I → ℕ} {P : I → Reader Expr} → ExactFor size (SpellsExpr 0) depth_of (Ends 0) P → ExactFor (λ b. suc (size b)) (SpellsExpr tightest) depth_of (Ends tightest) (λ b. operand (size b) (P b))
operand_exact {P = P} p = operands_exact P (primary_exact p)
