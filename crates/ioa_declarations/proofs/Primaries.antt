-- Primaries: what an expression is where no operator stands before it or between its parts, and no field is taken of it.
use Rattle.std.proofs.Common.{◌≡◌, ℕ, suc, ◌⊎◌, inl, inr, max, Bool, true, false, IsTrue, List, [], ◌∷◌, ◌++◌, refl, sym, ap, ◌∙◌, subst, arith, Option, Some, None, append-nil}
use Rattle.ioa_value.specs.declared.terminal.Terminal.{Terminal}
use Rattle.ioa_value.specs.declared.terminal.Terminal.TheVariants as terminals
use Rattle.ioa_lex.specs.Tokens as tokens
use Rattle.ioa_lex.specs.Tokens.{Tok, terminal}
use Rattle.ioa_value.specs.Actions.{Name}
use Rattle.ioa_value.specs.declared.operator.Op.{Op}
use Rattle.ioa_value.specs.declared.operator.Op.TheVariants.{Len, Head, Tail, Last, Init, Append, At, Member, Without}
use Rattle.ioa_tree.specs.declared.tree.Infix.{Infix}
use Rattle.ioa_tree.specs.declared.tree.Infix.TheVariants.{Operator, And, Or, Implies}
use Rattle.ioa_tree.specs.Tree.{Expr, number, truth, named, parens, prefix, binary, empty, make, select, Exprs, no_expr, also}
use Rattle.ioa_tree.specs.Depth.{depth_of, exprs_depth, deepest}
use Rattle.ioa_grammar.specs.Operators.{encloses, stands_around, operator_word}
use Rattle.ioa_grammar.specs.Grammar as grammar
use Rattle.ioa_grammar.specs.Grammar.{Language, SpellsExpr, SpellsExprs, SpellsOthers, ◌▹◌, word, called, nothing, enclosed}
use Rattle.ioa_grammar.specs.Reading.{Reader, built, closing, separated, rest, Start, with_number, with_truth, with_name, with_open, with_empty, with_operator, start_at, start_in, start_of, around_start, around_of, around_one, around_two, around, an_empty, after_name, operand_after, primary, sees, prefix_at, prefix_of, terminal_at, same_terminal}
use Rattle.ioa_tree.specs.Rows.{in_order}
use Rattle.ioa_declarations.proofs.Outcomes.{LooksAhead, head_alike}
use Rattle.ioa_declarations.proofs.Exact.{ExactFor, any, before, then, said_as, read_as}
use Rattle.ioa_declarations.proofs.Singles.{sign_for, name_for, absent_exact, Absent, introduced_exact, begun_exact}
use Rattle.ioa_declarations.proofs.Absent.{Image, image_exact}
use Rattle.ioa_declarations.proofs.Enclosed.{closing_exact, enclosed_exact}
use Rattle.ioa_grammar.proofs.Binding.{around_found, around_only, around_stands, one_or_two, not_before}
use Rattle.ioa_declarations.proofs.Endings.{mark, Ends, ends_close, ends_comma, comma_close}
use Rattle.ioa_declarations.proofs.Lists.{separated_exact}
use Rattle.ioa_declarations.proofs.Spelled.{expression_some}
use Rattle.ioa_tree.proofs.ExpressionRows.{listed}

-- ---- how an operand begins

abbrev token_of : Start → Tok
token_of (with_number n) = tokens.number n
token_of (with_truth true) = terminal terminals.True
token_of (with_truth false) = terminal terminals.False
token_of (with_name n) = tokens.name n
token_of with_open = terminal terminals.Open
token_of with_empty = terminal terminals.Empty
token_of (with_operator o) = mark (Operator o)

abbrev Begins : Start → Type 0
Begins (with_number n) = Unit {0}
Begins (with_truth b) = Unit {0}
Begins (with_name n) = Unit {0}
Begins with_open = Unit {0}
Begins with_empty = Unit {0}
Begins (with_operator o) = IsTrue (stands_around (Operator o))

-- no word of an operator around expressions begins anything else
plain_word : (o : Op) → IsTrue (stands_around (Operator o)) → start_of (operator_word (Operator o)) ≡ around_start (around_of (operator_word (Operator o)))
unfolding start_of
plain_word Len stands = refl
plain_word Head stands = refl
plain_word Tail stands = refl
plain_word Last stands = refl
plain_word Init stands = refl
plain_word Append stands = refl
plain_word At stands = refl
plain_word Member stands = refl
plain_word Without stands = refl
plain_word _ stands = absurd (cc)

start_is : (x : Start) (ts : List Tok) → Begins x → start_at (token_of x ∷ ts) ≡ Some x
unfolding start_at start_of
start_is (with_number n) ts b = refl
start_is (with_truth true) ts b = refl
start_is (with_truth false) ts b = refl
start_is (with_name n) ts b = refl
start_is with_open ts b = refl
start_is with_empty ts b = refl
start_is (with_operator o) ts b = plain_word o b ∙ ap around_start (around_found o b)

start_only-word : (t : Terminal) (o : Option Op) (x : Start) → around_of t ≡ o → around_start o ≡ Some x → (terminal t ≡ token_of x) × Begins x
start_only-word t None x e h = absurd (cc)
start_only-word t (Some o) x e h =
    let is : with_operator o ≡ x = cc in
    let only = around_only t o e in
    subst (λ x. (terminal t ≡ token_of x) × Begins x) is (ap terminal only.0, only.1)

start_only-terminal : (t : Terminal) (x : Start) → start_of t ≡ Some x → (terminal t ≡ token_of x) × Begins x
unfolding start_of
start_only-terminal terminals.True x h = let is : with_truth true ≡ x = cc in subst (λ x. (terminal terminals.True ≡ token_of x) × Begins x) is (refl, tt)
start_only-terminal terminals.False x h = let is : with_truth false ≡ x = cc in subst (λ x. (terminal terminals.False ≡ token_of x) × Begins x) is (refl, tt)
start_only-terminal terminals.Open x h = let is : with_open ≡ x = cc in subst (λ x. (terminal terminals.Open ≡ token_of x) × Begins x) is (refl, tt)
start_only-terminal terminals.Empty x h = let is : with_empty ≡ x = cc in subst (λ x. (terminal terminals.Empty ≡ token_of x) × Begins x) is (refl, tt)
start_only-terminal t x h = start_only-word t (around_of t) x refl h

start_only : (ts : List Tok) (x : Start) → start_at ts ≡ Some x → (ts ≡ token_of x ∷ rest ts) × Begins x
unfolding start_at
start_only [] x h = absurd (cc)
start_only (tokens.number n ∷ ts) x h = let is : with_number n ≡ x = cc in subst (λ x. (tokens.number n ∷ ts ≡ token_of x ∷ ts) × Begins x) is (refl, tt)
start_only (tokens.name n ∷ ts) x h = let is : with_name n ≡ x = cc in subst (λ x. (tokens.name n ∷ ts ≡ token_of x ∷ ts) × Begins x) is (refl, tt)
start_only (terminal t ∷ ts) x h = let m = start_only-terminal t x h in (ap (λ y. y ∷ ts) m.0, m.1)

start_alike : LooksAhead start_at
unfolding start_at
start_alike = head_alike start_at None start_in refl (λ x ts. refl)

start_none : start_at [] ≡ None
unfolding start_at
start_none = refl

-- no operator that stands before an expression begins so
start_plain : (x : Start) (ts : List Tok) → Begins x → prefix_at (token_of x ∷ ts) ≡ None
unfolding prefix_at terminal_at prefix_of same_terminal
start_plain (with_number n) ts b = refl
start_plain (with_truth true) ts b = refl
start_plain (with_truth false) ts b = refl
start_plain (with_name n) ts b = refl
start_plain with_open ts b = refl
start_plain with_empty ts b = refl
start_plain (with_operator o) ts b = not_before o b

-- ---- what comes after it

-- how deep the parts are
abbrev inside : Expr → ℕ
inside (number n) = 0
inside (truth b) = 0
inside (named n) = 0
inside (parens e) = depth_of e
inside (prefix o e) = depth_of e
inside (binary l o r) = max (depth_of l) (depth_of r)
inside (empty n) = 0
inside (make n es) = exprs_depth es
inside (select e n) = depth_of e

deep_inside : (e : Expr) → depth_of e ≡ suc (inside e)
deep_inside (number n) = refl
deep_inside (truth b) = refl
deep_inside (named n) = refl
deep_inside (parens e) = omega arith
deep_inside (prefix o e) = omega arith
deep_inside (binary l o r) = omega arith
deep_inside (empty n) = refl
deep_inside (make n es) = omega arith
deep_inside (select e n) = omega arith

-- ---- the fields of a tuple, as a list

ordered : (es : Exprs) → in_order (listed es) ≡ es
ordered no_expr = refl
ordered (also e es) = ap (also e) (ordered es)

deepest_ordered : (es : List Expr) → exprs_depth (in_order es) ≡ deepest depth_of es
deepest_ordered [] = refl
deepest_ordered (e ∷ es) = ap (max (depth_of e)) (deepest_ordered es)

others_ordered : (es : List Expr) → SpellsOthers (in_order es) ≡ grammar.each_after terminals.Comma (SpellsExpr 0) es
others_ordered [] = refl
others_ordered (e ∷ es) = ap (λ (L : Language). word terminals.Comma ▹ (SpellsExpr 0 e ▹ L)) (others_ordered es)

exprs_ordered : (es : List Expr) → SpellsExprs (in_order es) ≡ grammar.separated terminals.Comma (SpellsExpr 0) es
exprs_ordered [] = refl
exprs_ordered (e ∷ es) = ap (λ (L : Language). SpellsExpr 0 e ▹ L) (others_ordered es)

abbrev Pair : Type 0
Pair = Expr × (Unit {0} × Expr)

abbrev pair_of : Op → Pair → Expr
pair_of o p = binary p.0 (Operator o) p.1.1

abbrev ByOne : Op → Expr → Language
ByOne o = Image (prefix o) (λ e. enclosed (SpellsExpr 0 e))

abbrev ByTwo : Op → Expr → Language
ByTwo o = Image (pair_of o) (λ p. enclosed (SpellsExpr 0 p.0 ▹ (word terminals.Comma ▹ SpellsExpr 0 p.1.1)))

abbrev Fields : List Expr → Language
Fields es = grammar.separated terminals.Comma (SpellsExpr 0) es ▹ word terminals.Close

abbrev tuple_of : Name → List Expr → Expr
tuple_of n es = make n (in_order es)

abbrev ByFields : Name → Expr → Language
ByFields n = Image (tuple_of n) Fields

-- no fields follow
abbrev pub Unopened : Language
Unopened ts = sees terminals.Open ts ≡ false

abbrev After : Start → Expr → Language
After (with_number n) = Absent (number n) inside refl
After (with_truth b) = Absent (truth b) inside refl
After (with_name n) = λ e ts. ((word terminals.Open ▹ ByFields n e) ts) ⊎ ((e ≡ named n) × nothing ts)
After with_open = Image parens (λ e. SpellsExpr 0 e ▹ word terminals.Close)
After with_empty = Image empty (λ n. enclosed (called n))
After (with_operator o) = λ e ts. ((encloses (Operator o) ≡ 1) × ByOne o e ts) ⊎ ((encloses (Operator o) ≡ 2) × ByTwo o e ts)

module _ {I : Type 0} {size : I → ℕ} {P : I → Reader Expr} (p : ExactFor size (SpellsExpr 0) depth_of (Ends 0) P) where
  one_exact : (o : Op) → ExactFor size (ByOne o) inside any (λ b. around_one (P b) o)
  unfolding around_one
  one_exact o = image_exact (prefix o) inside (λ e. refl) (enclosed_exact p (ends_close 0))

  comma_follows : (y : Unit {0} × Expr) (ts left : List Tok) → (word terminals.Comma ▹ SpellsExpr 0 y.1) ts → Ends 0 left → Ends 0 (ts ++ left)
  comma_follows y ts left s g = subst (λ z. Ends 0 (z ++ left)) (sym (s.4 ∙ ap (λ z. z ++ s.1) s.2)) (ends_comma 0 (s.1 ++ left))

  two_exact : (o : Op) → ExactFor size (ByTwo o) inside any (λ b. around_two (P b) o)
  unfolding around_two
  two_exact o = image_exact (pair_of o) inside (λ x. omega arith) (enclosed_exact (then p (then (sign_for terminals.Comma) p (λ y ts left s g. tt)) comma_follows) (ends_close 0))

  around_exact : (o : Op) → IsTrue (stands_around (Operator o)) → ExactFor size (After (with_operator o)) inside any (λ b. around (P b) o)
  unfolding around
  around_exact o valid =
      elim (one_or_two o valid) [
        | inl one ↦
            let read : (b : I) (ts : List Tok) → around (P b) o ts ≡ around_one (P b) o ts = λ b ts. rw one refl in
            read_as (λ b. around (P b) o) read
            (said_as (After (with_operator o)) (λ e ts s. from_one one e ts s) (λ e ts s. inl (one, s)) (one_exact o))
        | inr two ↦
            let read : (b : I) (ts : List Tok) → around (P b) o ts ≡ around_two (P b) o ts = λ b ts. rw two refl in
            read_as (λ b. around (P b) o) read
            (said_as (After (with_operator o)) (λ e ts s. from_two two e ts s) (λ e ts s. inr (two, s)) (two_exact o))
      ]
    where
      from_one : encloses (Operator o) ≡ 1 → (e : Expr) (ts : List Tok) → After (with_operator o) e ts → ByOne o e ts
      from_one one e ts (inl s) = s.1
      from_one one e ts (inr s) = absurd (omega (arith, one, s.0))

      from_two : encloses (Operator o) ≡ 2 → (e : Expr) (ts : List Tok) → After (with_operator o) e ts → ByTwo o e ts
      from_two two e ts (inl s) = absurd (omega (arith, two, s.0))
      from_two two e ts (inr s) = s.1

  empty_exact : ExactFor size (After with_empty) inside any (λ b. an_empty)
  unfolding an_empty
  empty_exact = image_exact empty inside (λ n. refl) (enclosed_exact name_for (λ z. tt))

  fields_exact : (n : Name) → ExactFor size (ByFields n) inside any (λ b. built (tuple_of n) (closing (separated terminals.Comma (P b))))
  fields_exact n =
      image_exact (tuple_of n) inside deepest_ordered (closing_exact (separated_exact terminals.Comma p expression_some (ends_comma 0)) (λ z. (ends_close 0 z, comma_close z)))

  name_exact : (n : Name) → ExactFor size (After (with_name n)) inside Unopened (λ b. after_name (P b) n)
  unfolding after_name
  name_exact n = before Unopened (λ ts h. (tt, h)) (introduced_exact terminals.Open (named n) (fields_exact n) refl)

  loose : {L : Expr → Language} {Q : I → Reader Expr} → ExactFor size L inside any Q → ExactFor size L inside Unopened Q
  loose q = before Unopened (λ ts h. tt) q

  after_exact : (x : Start) → Begins x → ExactFor size (After x) inside Unopened (λ b. operand_after (P b) x)
  after_exact (with_number n) v = loose (absent_exact (number n) inside refl)
  after_exact (with_truth b) v = loose (absent_exact (truth b) inside refl)
  after_exact (with_name n) v = name_exact n
  after_exact with_open v = loose (image_exact parens inside (λ e. refl) (closing_exact p (ends_close 0)))
  after_exact with_empty v = loose empty_exact
  after_exact (with_operator o) v = loose (around_exact o v)

-- a primary: its first token and what comes after it
abbrev pub Opens : Expr → Language
Opens e = λ ts. (x : Start) × Begins x × (grammar.single (token_of x) ▹ After x e) ts

pub opens_plain : (t : Expr) (ts left : List Tok) → Opens t ts → prefix_at (ts ++ left) ≡ None
opens_plain t ts left s =
    let m = s.2 in
    let apart : ts ++ left ≡ token_of s.0 ∷ (m.1 ++ left) = ap (λ z. z ++ left) (m.4 ∙ ap (λ z. z ++ m.1) m.2) in
    ap prefix_at apart ∙ start_plain s.0 (m.1 ++ left) s.1

pub primary_exact : {I : Type 0} {size : I → ℕ} {P : I → Reader Expr} → ExactFor size (SpellsExpr 0) depth_of (Ends 0) P → ExactFor (λ b. suc (size b)) Opens depth_of Unopened (λ b. primary (P b))
unfolding primary
primary_exact p = begun_exact start_at token_of Begins start_alike start_none start_is start_only (after_exact p) depth_of deep_inside

-- ---- the same as the grammar says it, at every level

alone_at : (x : Tok) (a b ts : List Tok) → a ≡ x ∷ [] → b ≡ [] → ts ≡ a ++ b → ts ≡ x ∷ []
alone_at x a b ts first second apart = apart ∙ ap (λ z. z ++ b) first ∙ ap (λ z. x ∷ z) second

pub opens_spells : (e : Expr) (ts : List Tok) → Opens e ts → (k : ℕ) → SpellsExpr k e ts
opens_spells e ts s k = by s.0 s.1 s.2
  where
    by : (x : Start) → Begins x → (grammar.single (token_of x) ▹ After x e) ts → SpellsExpr k e ts
    by (with_number n) v m = subst (λ e. SpellsExpr k e ts) (sym m.3.0) (alone_at (tokens.number n) m.0 m.1 ts m.2 m.3.1 m.4)
    by (with_truth true) v m = subst (λ e. SpellsExpr k e ts) (sym m.3.0) (alone_at (terminal terminals.True) m.0 m.1 ts m.2 m.3.1 m.4)
    by (with_truth false) v m = subst (λ e. SpellsExpr k e ts) (sym m.3.0) (alone_at (terminal terminals.False) m.0 m.1 ts m.2 m.3.1 m.4)
    by (with_name n) v m = name_by n m.0 m.1 m.2 m.3 m.4
      where
        name_by : (n : Name) (a b : List Tok) → a ≡ tokens.name n ∷ [] → After (with_name n) e b → ts ≡ a ++ b → SpellsExpr k e ts
        name_by n a b first (inr s) apart = subst (λ e. SpellsExpr k e ts) (sym s.0) (alone_at (tokens.name n) a b ts first s.1 apart)
        name_by n a b first (inl s) apart =
            let es = s.3.0 in
            let fields = s.3.2 in
            let spells : SpellsExprs (in_order es) fields.0 = subst (λ (L : Language). L fields.0) (sym (exprs_ordered es)) fields.2 in
            subst (λ e. SpellsExpr k e ts) s.3.1 (a, b, first, (s.0, s.1, s.2, (fields.0, fields.1, spells, fields.3, fields.4), s.4), apart)
    by with_open v m = subst (λ e. SpellsExpr k e ts) m.3.1 (m.0, m.1, m.2, m.3.2, m.4)
    by with_empty v m = subst (λ e. SpellsExpr k e ts) m.3.1 (m.0, m.1, m.2, m.3.2, m.4)
    by (with_operator o) v m = around_by o m.0 m.1 m.2 m.3 m.4
      where
        around_by : (o : Op) (a b : List Tok) → a ≡ mark (Operator o) ∷ [] → After (with_operator o) e b → ts ≡ a ++ b → SpellsExpr k e ts
        around_by o a b first (inl s) apart = subst (λ e. SpellsExpr k e ts) s.1.1 (inr (s.0, (a, b, first, s.1.2, apart)))
        around_by o a b first (inr s) apart = subst (λ e. SpellsExpr k e ts) s.1.1 (inr (s.0, (a, b, first, s.1.2, apart)))

pub number_opens : (n k : ℕ) (ts : List Tok) → SpellsExpr k (number n) ts → Opens (number n) ts
number_opens n k ts s = (with_number n, tt, (ts, [], s, (refl, refl), sym (append-nil ts)))

pub truth_opens : (b : Bool) (k : ℕ) (ts : List Tok) → SpellsExpr k (truth b) ts → Opens (truth b) ts
truth_opens true k ts s = (with_truth true, tt, (ts, [], s, (refl, refl), sym (append-nil ts)))
truth_opens false k ts s = (with_truth false, tt, (ts, [], s, (refl, refl), sym (append-nil ts)))

pub named_opens : (n : Name) (k : ℕ) (ts : List Tok) → SpellsExpr k (named n) ts → Opens (named n) ts
named_opens n k ts s = (with_name n, tt, (ts, [], s, inr (refl, refl), sym (append-nil ts)))

pub make_opens : (n : Name) (es : Exprs) (k : ℕ) (ts : List Tok) → SpellsExpr k (make n es) ts → Opens (make n es) ts
make_opens n es k ts s =
    let m = s.3 in
    let fields = m.3 in
    let spells : grammar.separated terminals.Comma (SpellsExpr 0) (listed es) fields.0 = subst (λ (L : Language). L fields.0) (exprs_ordered (listed es)) (subst (λ es. SpellsExprs es fields.0) (sym (ordered es)) fields.2) in
    (with_name n, tt, (s.0, s.1, s.2, inl (m.0, m.1, m.2, (listed es, ap (make n) (ordered es), (fields.0, fields.1, spells, fields.3, fields.4)), m.4), s.4))

pub parens_opens : (e : Expr) (k : ℕ) (ts : List Tok) → SpellsExpr k (parens e) ts → Opens (parens e) ts
parens_opens e k ts s = (with_open, tt, (s.0, s.1, s.2, (e, refl, s.3), s.4))

pub empty_opens : (n : Name) (k : ℕ) (ts : List Tok) → SpellsExpr k (empty n) ts → Opens (empty n) ts
empty_opens n k ts s = (with_empty, tt, (s.0, s.1, s.2, (n, refl, s.3), s.4))

pub one_opens : (o : Op) (e : Expr) (ts : List Tok) → encloses (Operator o) ≡ 1 → (word (operator_word (Operator o)) ▹ enclosed (SpellsExpr 0 e)) ts → Opens (prefix o e) ts
one_opens o e ts one m = (with_operator o, around_stands (Operator o) 1 refl one, (m.0, m.1, m.2, inl (one, (e, refl, m.3)), m.4))

pub two_opens : (l : Expr) (o : Infix) (r : Expr) (ts : List Tok) → encloses o ≡ 2 → (word (operator_word o) ▹ enclosed (SpellsExpr 0 l ▹ (word terminals.Comma ▹ SpellsExpr 0 r))) ts → Opens (binary l o r) ts
two_opens l (Operator o) r ts two m = (with_operator o, around_stands (Operator o) 2 refl two, (m.0, m.1, m.2, inr (two, ((l, (tt, r)), refl, m.3)), m.4))
two_opens l And r ts two m = absurd (cc)
two_opens l Or r ts two m = absurd (cc)
two_opens l Implies r ts two m = absurd (cc)
