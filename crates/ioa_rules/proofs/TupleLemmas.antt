-- Tuples of expressions: their fields one after another, and a field of a tuple.
use Rattle.std.proofs.Common.{◌≡◌, inl, inr, ℕ, zero, suc, ◌+◌, ◌<◌, ◌≤◌, Bool, true, false, cond, not, ◌&&◌, ◌||◌, List, [], ◌∷◌, map, drop, min, length, get_or, Option, Some, None, option_and_then, Vec, Global, Result, Ok, Err, refl, sym, ap, subst, arith, ◌∙◌}
use Rattle.std.specs.Prelude.{slice_get, is_some}
use Rattle.std.specs.Option.{option_map, option_map_or}
use Rattle.std.specs.Result.{IsErrAnd}
use Rattle.std.proofs.lemmas.Bool.{and_from, and_left, and_right, and_parts, or_cases, or_left, or_right, not_from_false}
use Rattle.std.proofs.lemmas.List.{length-map, drop_all}
use Rattle.ioa_value.specs.declared.limits.TheConstants.{LIMITS}
use Rattle.ioa_value.specs.declared.value.Ty.{Ty}
use Rattle.ioa_value.specs.Actions.{Name}
use Rattle.ioa_value.specs.Operators.{given, is_that, are_these}
use Rattle.ioa_value.specs.Table.{Table, Shape, TupleField, truths, numbers, names, fields, sequence, shape_at, fields_of, types_of, field_types, field_place, type_named}
use Rattle.ioa_value.specs.Typing.{of_fields}
use Rattle.ioa_value.proofs.ItemLemmas.{drop_item}
use Rattle.ioa_value.proofs.PlaceLemmas.{place_below}
use Rattle.ioa_lex.specs.declared.refusal.Refusal.{Refusal}
use Rattle.ioa_tree.specs.declared.tree.Expression.{Expression}
use Rattle.ioa_tree.specs.declared.tree.Expression.TheVariants.{Make}
use Rattle.ioa_tree.specs.declared.tree.Name.{Name as Node}
use Rattle.ioa_tree.specs.Tree.{Expr, make, Exprs}
use Rattle.ioa_tree.specs.View.{name_of, expr_of, exprs_of}
use Rattle.ioa_tree.specs.WellFormed.{Context, type_of, types_of_all, made_type, selected_type, nodes, exprs_nodes}
use Rattle.ioa_tree.proofs.ExpressionRows.{expr_made}
use Rattle.ioa_rules.specs.Codes.{unknown_name, type_mismatch, tells}
use Rattle.ioa_rules.specs.Reasons.{Reasons, has_fields, all_taken, in_expression, in_expressions}
use Rattle.ioa_rules.specs.Sizes.{counted, all_counted}
use Rattle.ioa_rules.specs.Tuples.{is_tuple, tuple_named, in_tuple_name, are_fields, in_fields_made}
use Rattle.ioa_rules.specs.Verdicts.{Says, Finds}
use Rattle.ioa_rules.proofs.SayLemmas.{says-passed}

-- what tells that a test fails tells that one fails which asks for more
refused : (k a b : Bool) → (a ≡ false → b ≡ false) → (k && not a) ≡ true → (k && not b) ≡ true
refused true true b f h = absurd (cc)
refused true false b f h = not_from_false b (f refl)
refused false a b f h = absurd (cc)

-- what an error that `?` hands on says
finds_error : (q : Result Ty Refusal) (x y : Refusal) (o : Option ℕ) (w : Reasons) → q ≡ Err x → y ≡ x → Finds q o w → (w y ≡ true) × (o ≡ None)
finds_error q x y o w was same h = let P : Result Ty Refusal → Type 0 = λ p. Finds p o w in subst P (was ∙ ap Err (sym same)) h

-- ---- types of tuples

type_missing : (fs : List TupleField) (j : ℕ) → j < length fs → slice_get (types_of fs) j ≡ None → ⊥
type_missing [] j lt h = omega (arith, lt)
type_missing (f ∷ fs) zero lt h = absurd (cc)
type_missing (f ∷ fs) (suc j) lt h = type_missing fs j (omega (arith, lt)) h

-- a field of the name has a type
pub not_selected : (t : Table) (x : Name) (ty : ℕ) → None ≡ selected_type t x ty → is_some (field_place t ty x) ≡ false
not_selected t x ty h = go (field_place t ty x) refl h
  where
    go : (o : Option ℕ) → field_place t ty x ≡ o → None ≡ option_and_then (λ j. slice_get (field_types t ty) j) o → is_some o ≡ false
    go (Some j) e h =
        let fs = fields_of (shape_at t ty) in
        let low : j < length (map (λ f. f.name) fs) = place_below (map (λ f. f.name) fs) x j e in
        absurd (type_missing fs j (simp length-map at low) (sym h))
    go None e h = refl

-- a tuple type takes fields of its own types
takes_fields : (s : Option Shape) (tys : List ℕ) → of_fields s (λ _. true) ≡ true → of_fields s (are_these tys) ≡ are_these tys (types_of (fields_of s))
takes_fields (Some (fields fs)) tys h = refl
takes_fields (Some truths) tys h = absurd (cc)
takes_fields (Some numbers) tys h = absurd (cc)
takes_fields (Some (names ns)) tys h = absurd (cc)
takes_fields (Some (sequence most of)) tys h = absurd (cc)
takes_fields None tys h = absurd (cc)

-- another type takes none
takes_nothing : (s : Option Shape) (tys : List ℕ) → of_fields s (λ _. true) ≡ false → of_fields s (are_these tys) ≡ false
takes_nothing (Some (fields fs)) tys h = absurd (cc)
takes_nothing (Some truths) tys h = refl
takes_nothing (Some numbers) tys h = refl
takes_nothing (Some (names ns)) tys h = refl
takes_nothing (Some (sequence most of)) tys h = refl
takes_nothing None tys h = refl

-- ---- fields one after another

these-turn : (tys : List ℕ) (i ty : ℕ) (own : List ℕ) → are_these (ty ∷ own) (drop i tys) ≡ (is_that (slice_get tys i) ty && are_these own (drop (suc i) tys))
these-turn [] zero ty own = refl
these-turn [] (suc i) ty own = refl
these-turn (a ∷ tys) zero ty own = refl
these-turn (a ∷ tys) (suc i) ty own = these-turn tys i ty own

place_there : (tys : List ℕ) (i ty : ℕ) → is_that (slice_get tys i) ty ≡ true → suc i ≤ length tys
place_there [] i ty h = absurd (cc)
place_there (a ∷ tys) zero ty h = omega arith
place_there (a ∷ tys) (suc i) ty h = let rest = place_there tys i ty h in omega (arith, rest)

none_left : (tys : List ℕ) (i : ℕ) → i < length tys → are_these [] (drop i tys) ≡ false
none_left [] i h = absurd (omega (arith, h))
none_left (a ∷ tys) zero h = refl
none_left (a ∷ tys) (suc i) h = none_left tys i (omega (arith, h))

of_some : {X : Type 0} (f : X → Bool) (o : Option X) (d b : Bool) → option_map f o ≡ Some b → option_map_or f o d ≡ b
of_some f (Some x) d b h = cc
of_some f None d b h = absurd (cc)

module _ (t early : Table) (c : Context) where
  -- of expressions and types in their places, whether they agree, where they have agreed so far
  abbrev pub agree : Bool → Exprs → List ℕ → Option Bool
  agree good es tys = option_map (λ own. good && are_these own tys) (types_of_all t early c es)

  agree-more : (good : Bool) (es : List Expression) (i : ℕ) (e : Expression) (ty : ℕ) (tys : List ℕ) → i < length es → e ≡ get_or es i e
      → type_of t early c (expr_of e) ≡ Some ty
      → agree (good && is_that (slice_get tys i) ty) (exprs_of (drop (i + 1) es)) (drop (i + 1) tys) ≡ agree good (exprs_of (drop i es)) (drop i tys)
  agree-more good es i e ty tys l is h =
      let next : suc i ≡ i + 1 = omega arith in
      sym (ap (λ xs. agree good (exprs_of xs) (drop i tys)) (drop_item es i e l is)
      ∙ ap (λ o. option_map (λ own. good && are_these own (drop i tys)) (option_and_then (λ own. option_map (λ more. own ∷ more) (types_of_all t early c (exprs_of (drop (i + 1) es)))) o)) h
      ∙ go good (types_of_all t early c (exprs_of (drop (i + 1) es)))
      ∙ ap (λ n. agree (good && is_that (slice_get tys i) ty) (exprs_of (drop (i + 1) es)) (drop n tys)) next)
    where
      go : (b : Bool) (o : Option (List ℕ)) → option_map (λ own. b && are_these own (drop i tys)) (option_map (λ more. ty ∷ more) o)
          ≡ option_map (λ own. (b && is_that (slice_get tys i) ty) && are_these own (drop (suc i) tys)) o
      go true (Some own) = ap Some (these-turn tys i ty own)
      go false (Some own) = refl
      go b None = refl

  -- what a turn keeps: no more places were asked for than there are, as long as all agreed
  pub agree-turn : (good more : Bool) (es : List Expression) (i : ℕ) (e : Expression) (ty : ℕ) (tys : List ℕ) (all : Option Bool) → i < length es
      → e ≡ get_or es i e → type_of t early c (expr_of e) ≡ Some ty → more ≡ (good && is_that (slice_get tys i) ty)
      → agree good (exprs_of (drop i es)) (drop i tys) ≡ all
      → (more ≡ true → i + 1 ≤ length tys) × (agree more (exprs_of (drop (i + 1) es)) (drop (i + 1) tys) ≡ all)
  agree-turn good more es i e ty tys all l is h m k = (
    (λ b. let there = place_there tys i ty (and_parts good (is_that (slice_get tys i) ty) (sym m ∙ b)).1 in omega (arith, there)),
    ap (λ b. agree b (exprs_of (drop (i + 1) es)) (drop (i + 1) tys)) m ∙ agree-more good es i e ty tys l is h ∙ k,
  )

  -- whether all agree, at the end
  agree-end : (good : Bool) (es : List Expression) (i : ℕ) (tys : List ℕ) → length es ≤ i
      → agree good (exprs_of (drop i es)) (drop i tys) ≡ agree true (exprs_of es) tys
      → agree true (exprs_of es) tys ≡ Some (good && are_these [] (drop i tys))
  agree-end good es i tys l h = sym h ∙ ap (λ xs. agree good (exprs_of xs) (drop i tys)) (drop_all i es l)

  module _ (es : List Expression) (ty : ℕ) where
    wrong : (i : ℕ) (r : Refusal) (good : Bool) → length es ≤ i → agree good (exprs_of (drop i es)) (drop i (field_types t ty)) ≡ agree true (exprs_of es) (field_types t ty)
        → tells type_mismatch r ≡ true → (good && are_these [] (drop i (field_types t ty))) ≡ false
        → (in_fields_made t early c (exprs_of es) ty r ≡ true) × (are_fields t early c (exprs_of es) ty ≡ false)
    wrong i r good l h k b =
        let end = agree-end good es i (field_types t ty) l h ∙ ap Some b in
        let test : List ℕ → Bool = λ tys. are_these tys (field_types t ty) in (
          or_right _ _ (and_from _ _ k (not_from_false _ (of_some test (types_of_all t early c (exprs_of es)) true false end))),
          of_some test (types_of_all t early c (exprs_of es)) false false end,
        )

    -- there are too few or too many
    pub uneven-fields : (i : ℕ) (r : Refusal) (good : Bool) → i ≤ length es → length es ≤ i → (good ≡ true → i ≤ length (field_types t ty))
        → agree good (exprs_of (drop i es)) (drop i (field_types t ty)) ≡ agree true (exprs_of es) (field_types t ty)
        → tells type_mismatch r ≡ true → (length es ≡ length (field_types t ty) → ⊥)
        → (in_fields_made t early c (exprs_of es) ty r ≡ true) × (are_fields t early c (exprs_of es) ty ≡ false)
    uneven-fields i r good m l low h k differ = wrong i r good l h k (go good low)
      where
        go : (b : Bool) → (b ≡ true → i ≤ length (field_types t ty)) → (b && are_these [] (drop i (field_types t ty))) ≡ false
        go true f = let below = f refl in none_left (field_types t ty) i (omega (arith, m, l, below, differ))
        go false f = refl

  -- an expression has no type
  field_missing : (es : List Expression) (i : ℕ) (e : Expression) (r : Refusal) → i < length es → e ≡ get_or es i e
      → type_of t early c (expr_of e) ≡ None → in_expression t early c (expr_of e) r ≡ true
      → (types_of_all t early c (exprs_of es) ≡ None) × (in_expressions t early c (exprs_of es) r ≡ true)
  field_missing [] i e r l is h k = absurd (omega (arith, l))
  field_missing (x ∷ xs) zero e r l is h k = (
    ap (option_and_then (λ ty. option_map (λ tys. ty ∷ tys) (types_of_all t early c (exprs_of xs)))) (ap (λ y. type_of t early c (expr_of y)) (sym is) ∙ h),
    or_left _ _ (ap (λ y. in_expression t early c (expr_of y) r) (sym is) ∙ k),
  )
  field_missing (x ∷ xs) (suc i) e r l is h k =
      let rest = field_missing xs i e r (omega (arith, l)) is h k in
      (ap (λ o. option_and_then (λ ty. option_map (λ tys. ty ∷ tys) o) (type_of t early c (expr_of x))) rest.0 ∙ go (type_of t early c (expr_of x)), or_right _ _ rest.1)
    where
      go : (o : Option ℕ) → option_and_then (λ ty. option_map (λ tys. ty ∷ tys) None) o ≡ None
      go (Some ty) = refl
      go None = refl

  pub field-fails : {T : Type 0} (q : Result Ty Refusal) (r : Result T Refusal) (x : Refusal) (es : List Expression) (i : ℕ) (e : Expression) (ty : ℕ) → i < length es
      → e ≡ get_or es i e → q ≡ Err x → IsErrAnd r (λ y. y ≡ x) → Finds q (type_of t early c (expr_of e)) (in_expression t early c (expr_of e))
      → Says r (are_fields t early c (exprs_of es) ty) (in_fields_made t early c (exprs_of es) ty)
  field-fails q (Ok y) x es i e ty l is was bad h = absurd bad
  field-fails q (Err y) x es i e ty l is was bad h =
      let at = finds_error q x y (type_of t early c (expr_of e)) (in_expression t early c (expr_of e)) was bad h in
      let none = field_missing es i e y l is at.1 at.0 in
      (or_left _ _ none.1, ap (λ o. option_map_or (λ tys. are_these tys (field_types t ty)) o false) none.0)

  -- ---- the tuple

  -- the type of the name, which is a tuple's
  named_parts : (o : Option ℕ) (ty : ℕ) → option_and_then (λ k. cond (is_tuple t k) (Some k) None) o ≡ Some ty → (o ≡ Some ty) × (is_tuple t ty ≡ true)
  named_parts (Some k) ty h = go (is_tuple t k) refl h
    where
      go : (b : Bool) → is_tuple t k ≡ b → cond b (Some k) None ≡ Some ty → (Some k ≡ Some ty) × (is_tuple t ty ≡ true)
      go true e h = let same : k ≡ ty = cc in (h, ap (is_tuple t) (sym same) ∙ e)
      go false e h = absurd (cc)
  named_parts None ty h = absurd (cc)

  unnamed : (o : Option ℕ) (ts : Option (List ℕ)) → option_and_then (λ k. cond (is_tuple t k) (Some k) None) o ≡ None → option_and_then (made_type t o) ts ≡ None
  unnamed (Some k) (Some tys) h = go (is_tuple t k) refl h
    where
      go : (b : Bool) → is_tuple t k ≡ b → cond b (Some k) None ≡ None → given k (of_fields (shape_at t k) (are_these tys)) ≡ None
      go true e h = absurd (cc)
      go false e h = ap (given k) (takes_nothing (shape_at t k) tys e)
  unnamed (Some k) None h = refl
  unnamed None (Some tys) h = refl
  unnamed None None h = refl

  module _ (ty : ℕ) (tuple : is_tuple t ty ≡ true) where
    all_of : (ts : Option (List ℕ)) → option_map_or (λ tys. are_these tys (field_types t ty)) ts true ≡ all_taken t (Some ty) ts
    all_of (Some tys) = go (are_these tys (field_types t ty)) ∙ ap (λ b. is_some (given ty b)) (sym (takes_fields (shape_at t ty) tys tuple))
      where
        go : (b : Bool) → b ≡ is_some (given ty b)
        go true = refl
        go false = refl
    all_of None = refl

    made_of : (ts : Option (List ℕ)) (b : Bool) → option_map_or (λ tys. are_these tys (field_types t ty)) ts false ≡ b → option_and_then (made_type t (Some ty)) ts ≡ given ty b
    made_of (Some tys) b h = ap (given ty) (takes_fields (shape_at t ty) tys tuple ∙ h)
    made_of None b h = ap (given ty) h

  module _ (x : Name) (es : Exprs) where
    -- the name is of no tuple type
    pub tuple-fails : (q r : Result Ty Refusal) (e : Refusal) → q ≡ Err e → IsErrAnd r (λ y. y ≡ e) → Finds q (tuple_named t early x) (in_tuple_name t early x)
        → Finds r (type_of t early c (make x es)) (in_expression t early c (make x es))
    tuple-fails q (Ok y) e was bad h = absurd bad
    tuple-fails q (Err y) e was bad h =
        let at = finds_error q e y (tuple_named t early x) (in_tuple_name t early x) was bad h in
        (or_left _ _ (why (type_named early x) at.0), unnamed (type_named early x) (types_of_all t early c es) at.1)
      where
        why : (o : Option ℕ) → ((tells unknown_name y && not (is_some o)) || (tells type_mismatch y && not (option_map_or (has_fields t) o true))) ≡ true
            → ((tells unknown_name y && not (is_some o)) || (tells type_mismatch y && not (option_map_or (has_fields t) o true && all_taken t o (types_of_all t early c es)))) ≡ true
        why o h = elim (or_cases (tells unknown_name y && not (is_some o)) (tells type_mismatch y && not (option_map_or (has_fields t) o true)) h) [
          | inl k ↦ or_left _ _ k
          | inr k ↦ or_right _ _ (refused (tells type_mismatch y) (option_map_or (has_fields t) o true) _ (and_left _ (all_taken t o (types_of_all t early c es))) k)
        ]

    -- the fields are not the type's
    pub fields-fail : {T : Type 0} (q : Result T Refusal) (r : Result Ty Refusal) (e : Refusal) (ty : ℕ) → q ≡ Err e → IsErrAnd r (λ y. y ≡ e)
        → tuple_named t early x ≡ Some ty → Says q (are_fields t early c es ty) (in_fields_made t early c es ty)
        → Finds r (type_of t early c (make x es)) (in_expression t early c (make x es))
    fields-fail q (Ok y) e ty was bad named h = absurd bad
    fields-fail q (Err y) e ty was bad named h =
        let at = says-passed {U = Ty} q (Err y) e (are_fields t early c es ty) (in_fields_made t early c es ty) was bad h in
        let p = named_parts (type_named early x) ty named in
        let ts = types_of_all t early c es in
        let test : List ℕ → Bool = λ tys. are_these tys (field_types t ty) in
        let same : option_map_or test ts true ≡ all_taken t (type_named early x) ts = all_of ty p.1 ts ∙ ap (λ o. all_taken t o ts) (sym p.0) in (
          elim (or_cases (in_expressions t early c es y) (tells type_mismatch y && not (option_map_or test ts true)) at.0) [
            | inl k ↦ or_right _ _ k
            | inr k ↦ or_left _ _ (or_right _ _ (refused (tells type_mismatch y) (option_map_or test ts true) _
                (λ f. and_right (option_map_or (has_fields t) (type_named early x) true) _ (sym same ∙ f)) k))
          ],
          ap (λ o. option_and_then (made_type t o) ts) p.0 ∙ made_of ty p.1 ts false at.1,
        )

  pub made-finds : (r : Result Ty Refusal) (e : Expression) (x : Node) (es : Vec Expression Global) (fs : List Expression) → e ≡ Make x es → fs ≡ es.items
      → Finds r (type_of t early c (make (name_of x) (exprs_of fs))) (in_expression t early c (make (name_of x) (exprs_of fs)))
      → Finds r (type_of t early c (expr_of e)) (in_expression t early c (expr_of e))
  made-finds r e x es fs is same h =
      let P : Expr → Type 0 = λ tree. Finds r (type_of t early c tree) (in_expression t early c tree) in
      subst P (ap (λ xs. make (name_of x) (exprs_of xs)) same ∙ sym (expr_made e x es is)) h

-- ---- counts

pub made-counted : (n all : ℕ) (e : Expression) (x : Node) (es : Vec Expression Global) (fs : List Expression) → e ≡ Make x es → fs ≡ es.items
    → all ≡ all_counted (exprs_of fs) → n ≡ min (all + 1) (LIMITS.nodes + 1) → n ≡ counted (expr_of e)
made-counted n all e x es fs is same h m =
    let tree : nodes (expr_of e) ≡ exprs_nodes (exprs_of fs) + 1 = ap nodes (expr_made e x es is) ∙ ap (λ xs. exprs_nodes (exprs_of xs) + 1) (sym same) in
    m ∙ capped (exprs_nodes (exprs_of fs)) all h ∙ ap (λ k. min k (LIMITS.nodes + 1)) (sym tree)
  where
    capped : (k all : ℕ) → all ≡ min k (LIMITS.nodes + 1) → min (all + 1) (LIMITS.nodes + 1) ≡ min (k + 1) (LIMITS.nodes + 1)
    capped k all h = omega arith
