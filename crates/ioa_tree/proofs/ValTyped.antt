-- A well typed expression has a value of its type, or a fault.
use Rattle.std.proofs.Common.{◌≡◌, ℕ, Bool, true, false, pos, List, [], ◌∷◌, Option, Some, None, option_and_then, refl, sym, subst, ◌∙◌, cond, ◌&&◌, ◌==◌, if◌then◌else◌, arith}
use Rattle.std.specs.Option.{option_map, option_map_or}
use Rattle.std.proofs.lemmas.Option.{option_and_then_some}
use Rattle.std.proofs.lemmas.Bool.Decides.{nat_tests}
use Rattle.ioa_value.specs.declared.operator.Op.{Op}
use Rattle.ioa_value.specs.declared.operator.Op.TheVariants.{Make, Field}
use Rattle.ioa_tree.specs.declared.tree.Infix.{Infix}
use Rattle.ioa_tree.specs.declared.tree.Infix.TheVariants.{Operator, And, Or, Implies}
use Rattle.ioa_value.specs.Actions.{Name}
use Rattle.ioa_arithmetic.specs.Arithmetic.{fits}
use Rattle.ioa_value.specs.Plain.{Val, num}
use Rattle.ioa_value.specs.Plain.{truth as truth_value}
use Rattle.ioa_value.specs.Table.{Table, AreTypes, type_named, field_place}
use Rattle.ioa_value.specs.Typing.{HasType, HaveTypes}
use Rattle.ioa_value.specs.Operators.{Answer, gives, faults, nothing, operate, op_type, IsTypedAnswer}
use Rattle.ioa_value.proofs.OperatorTyping.{op_typed}
use Rattle.ioa_value.proofs.TypingLemmas.{is_truth, own_type}
use Rattle.ioa_tree.specs.Tree.{Expr, number, truth, named, parens, prefix, binary, empty, make, select, Exprs, no_expr, also}
use Rattle.ioa_tree.specs.Meaning.{Env, val, then_all, value_of, or_else, then_value, decided, combined, made, selected}
use Rattle.ioa_tree.specs.Types.{constant, constant_type}
use Rattle.ioa_tree.specs.WellFormed.{Context, type_in, type_of, types_of_all, one_type, both_types, of_truths, infix_type, made_type, selected_type}
use Rattle.ioa_tree.specs.Answers.{HasValueOf, Suits}
use Rattle.ioa_tree.proofs.Constants.{constant_typed, empty_typed}

-- both types are there where both_types gives one
pub types_of_both : (s t : Option ℕ) (f : List ℕ → Option ℕ) (c : ℕ) → both_types s t f ≡ Some c
    → (a : ℕ) × (b : ℕ) × (s ≡ Some a) × (t ≡ Some b) × (f (a ∷ b ∷ []) ≡ Some c)
types_of_both (Some a) (Some b) f c e = (a, b, refl, refl, e)
types_of_both (Some a) None f c e = absurd (cc)
types_of_both None t f c e = absurd (cc)

-- so of the types of expressions in order
pub types_of_row : (s : Option ℕ) (r : Option (List ℕ)) (cs : List ℕ) → option_and_then (λ a. option_map (λ bs. a ∷ bs) r) s ≡ Some cs
    → (a : ℕ) × (bs : List ℕ) × (s ≡ Some a) × (r ≡ Some bs) × (a ∷ bs ≡ cs)
types_of_row (Some a) (Some bs) cs e = (a, bs, refl, refl, cc)
types_of_row (Some a) None cs e = absurd (cc)
types_of_row None r cs e = absurd (cc)

-- what is asked for a type is there where it has one
pub type_there : {X : Type 0} (f : X → Option ℕ) (o : Option X) (c : ℕ) → option_and_then f o ≡ Some c → (a : X) × (o ≡ Some a) × (f a ≡ Some c)
type_there f o c e = option_and_then_some f o c e (λ a is gives. (a, is, gives))

-- so of one type
pub type_of_one : (s : Option ℕ) (f : List ℕ → Option ℕ) (c : ℕ) → one_type s f ≡ Some c → (a : ℕ) × (s ≡ Some a) × (f (a ∷ []) ≡ Some c)
type_of_one (Some a) f c e = (a, refl, e)
type_of_one None f c e = absurd (cc)

-- two types of which truths are made are Bool, and so is what they give
pub are_truths : (a b c : ℕ) → of_truths (a ∷ b ∷ []) ≡ Some c → (a ≡ 0) × (b ≡ 0) × (c ≡ 0)
are_truths a b c e = go (a == 0) (b == 0) refl refl e
  where
    go : (p q : Bool) → (a == 0) ≡ p → (b == 0) ≡ q → (if p && q then Some 0 else None) ≡ Some c → (a ≡ 0) × (b ≡ 0) × (c ≡ 0)
    go true true m n k = (grind (arith, nat_tests), grind (arith, nat_tests), sym (some_same k))
      where
        some_same : Some 0 ≡ Some c → 0 ≡ c
        some_same k = cc
    go true false m n k = absurd (cc)
    go false q m n k = absurd (cc)

module _ (types : Table) where
  -- a name of the context stands in front of a constant, and another name is one
  name_typed : (c : Context) (env : Env) (x : Name) (ty : ℕ) → Suits types c env → or_else (type_in c x) (constant_type types x) ≡ Some ty
      → IsTypedAnswer types ty (value_of (or_else (env x) (constant types x)))
  name_typed c env x ty h e = go (type_in c x) refl e
    where
      stood : (o : Option Val) → HasValueOf types ty o → IsTypedAnswer types ty (value_of (or_else o (constant types x)))
      stood (Some v) k = k
      stood None k = absurd k

      go : (o : Option ℕ) → type_in c x ≡ o → or_else o (constant_type types x) ≡ Some ty
          → IsTypedAnswer types ty (value_of (or_else (env x) (constant types x)))
      go (Some t) known k = stood (env x) (h.stands x ty (known ∙ k))
      go None known k = rw (h.others x known) (constant_typed types x ty k)

  number_typed : (n ty : ℕ) (b : Bool) → fits (pos n) ≡ b → cond b (Some 1) None ≡ Some ty → HasType types (num (pos n)) ty
  number_typed n ty true e h = let k : 1 ≡ ty = cc in subst (HasType types (num (pos n))) k e
  number_typed n ty false e h = absurd (cc)

  then_typed : (m : Answer) (go : Val → Answer) (a c : ℕ) → IsTypedAnswer types a m → ((v : Val) → HasType types v a → IsTypedAnswer types c (go v))
      → IsTypedAnswer types c (then_value m go)
  then_typed (gives v) go a c h next = next v h
  then_typed (faults f) go a c h next = tt
  then_typed nothing go a c h next = absurd h

  found_typed : {X : Type 0} (f : X → Option ℕ) (go : X → Answer) (ty : ℕ) → ((x : X) → f x ≡ Some ty → IsTypedAnswer types ty (go x))
      → (o : Option X) → option_and_then f o ≡ Some ty → IsTypedAnswer types ty (option_map_or go o nothing)
  found_typed f go ty each (Some x) e = each x e
  found_typed f go ty each None e = absurd (cc)

module _ (types : Table) (declared : AreTypes types) where
  prefix_typed : (o : Op) (m : Answer) (a c : ℕ) → IsTypedAnswer types a m → op_type types o (a ∷ []) ≡ Some c
      → IsTypedAnswer types c (then_value m (λ x. operate types o (x ∷ [])))
  prefix_typed o m a c h e = then_typed types m (λ x. operate types o (x ∷ [])) a c h (λ v k. op_typed types declared o (v ∷ []) (a ∷ []) c (k, tt) e)

  made_typed : (x : Name) (vs : List Val) (tys : List ℕ) (ty : ℕ) → HaveTypes types vs tys → made_type types (type_named types x) tys ≡ Some ty
      → IsTypedAnswer types ty (made types x vs)
  made_typed x vs tys ty h e =
      found_typed types (λ n. op_type types (Make (record { 0 = n })) tys) (λ n. operate types (Make (record { 0 = n })) vs) ty
      (λ n k. op_typed types declared (Make (record { 0 = n })) vs tys ty h k) (type_named types x) e

  -- a value's own type is its static type, so a field has the same place in both
  selected_typed : (x : Name) (v : Val) (a ty : ℕ) → HasType types v a → selected_type types x a ≡ Some ty → IsTypedAnswer types ty (selected types x v)
  selected_typed x v a ty h e =
      let go : ℕ → Answer = λ j. operate types (Field j) (v ∷ []) in
      subst (λ k. IsTypedAnswer types ty (option_map_or go (field_place types k x) nothing)) (sym (own_type types v a h))
      (found_typed types (λ j. op_type types (Field j) (a ∷ [])) go ty (λ j k. op_typed types declared (Field j) (v ∷ []) (a ∷ []) ty (h, tt) k) (field_place types a x) e)

  operator_typed : (o : Op) (v : Val) (n : Answer) (a b c : ℕ) → HasType types v a → IsTypedAnswer types b n → op_type types o (a ∷ b ∷ []) ≡ Some c
      → IsTypedAnswer types c (combined types (Operator o) v n)
  operator_typed o v (gives w) a b c h g e = op_typed types declared o (v ∷ w ∷ []) (a ∷ b ∷ []) c (h, (g, tt)) e
  operator_typed o v (faults f) a b c h g e = tt
  operator_typed o v nothing a b c h g e = absurd g

  decided_typed : (v : Val) (this other : Answer) → HasType types v 0 → IsTypedAnswer types 0 this → IsTypedAnswer types 0 other
      → IsTypedAnswer types 0 (decided v this other)
  decided_typed v this other h y n = let b = is_truth types declared v h in subst (λ x. IsTypedAnswer types 0 (decided x this other)) (sym b.1) (go b.0)
    where
      go : (b : Bool) → IsTypedAnswer types 0 (decided (truth_value b) this other)
      go true = y
      go false = n

  truths_typed : (i : Infix) (v : Val) (n : Answer) (a b c : ℕ)
      → ((w : Val) → HasType types w 0 → IsTypedAnswer types 0 n → IsTypedAnswer types 0 (combined types i w n))
      → HasType types v a → IsTypedAnswer types b n → of_truths (a ∷ b ∷ []) ≡ Some c → IsTypedAnswer types c (combined types i v n)
  truths_typed i v n a b c go h g e =
      let t = are_truths a b c e in
      subst (λ k. IsTypedAnswer types k (combined types i v n)) (sym t.2) (go v (subst (HasType types v) t.0 h) (subst (λ k. IsTypedAnswer types k n) t.1 g))

  combined_typed : (i : Infix) (v : Val) (n : Answer) (a b c : ℕ) → HasType types v a → IsTypedAnswer types b n → infix_type types i (a ∷ b ∷ []) ≡ Some c
      → IsTypedAnswer types c (combined types i v n)
  combined_typed (Operator o) v n a b c h g e = operator_typed o v n a b c h g e
  combined_typed And v n a b c h g e = truths_typed And v n a b c (λ w k m. decided_typed w n (gives (truth_value false)) k m refl) h g e
  combined_typed Or v n a b c h g e = truths_typed Or v n a b c (λ w k m. decided_typed w (gives (truth_value true)) n k refl m) h g e
  combined_typed Implies v n a b c h g e = truths_typed Implies v n a b c (λ w k m. decided_typed w n (gives (truth_value true)) k m refl) h g e

  binary_typed : (i : Infix) (m n : Answer) (a b c : ℕ) → IsTypedAnswer types a m → IsTypedAnswer types b n → infix_type types i (a ∷ b ∷ []) ≡ Some c
      → IsTypedAnswer types c (then_value m (λ x. combined types i x n))
  binary_typed i m n a b c h g e = then_typed types m (λ x. combined types i x n) a c h (λ v k. combined_typed i v n a b c k g e)

  mutual
    pub val_typed : (c : Context) (env : Env) (e : Expr) (ty : ℕ) → Suits types c env → type_of types types c e ≡ Some ty
        → IsTypedAnswer types ty (val types e env)
    val_typed c env (number n) ty h e = number_typed types n ty (fits (pos n)) refl e
    val_typed c env (truth b) ty h e = let k : 0 ≡ ty = cc in subst (λ t. IsTypedAnswer types t (val types (truth b) env)) k refl
    val_typed c env (named x) ty h e = name_typed types c env x ty h e
    val_typed c env (parens e') ty h e = val_typed c env e' ty h e
    val_typed c env (prefix o e') ty h e =
        let t = type_of_one (type_of types types c e') (op_type types o) ty e in
        prefix_typed o (val types e' env) t.0 ty (val_typed c env e' t.0 h t.1) t.2
    val_typed c env (binary l o r) ty h e =
        let t = types_of_both (type_of types types c l) (type_of types types c r) (infix_type types o) ty e in
        binary_typed o (val types l env) (val types r env) t.0 t.1 ty (val_typed c env l t.0 h t.2) (val_typed c env r t.1 h t.3) t.4
    val_typed c env (empty x) ty h e = empty_typed types x ty e
    val_typed c env (make x es) ty h e =
        option_and_then_some (made_type types (type_named types x)) (types_of_all types types c es) ty e
        (λ tys known takes. all_typed c env es tys ty (made types x) h known (λ vs k. made_typed x vs tys ty k takes))
    val_typed c env (select e' x) ty h e =
        option_and_then_some (selected_type types x) (type_of types types c e') ty e
        (λ a known has. then_typed types (val types e' env) (selected types x) a ty (val_typed c env e' a h known) (λ v k. selected_typed x v a ty k has))

    -- what goes on with values of the expressions' types has an answer of the type
    all_typed : (c : Context) (env : Env) (es : Exprs) (tys : List ℕ) (ty : ℕ) (go : List Val → Answer) → Suits types c env
        → types_of_all types types c es ≡ Some tys → ((vs : List Val) → HaveTypes types vs tys → IsTypedAnswer types ty (go vs))
        → IsTypedAnswer types ty (then_all types es env go)
    all_typed c env no_expr tys ty go h e next = let k : [] ≡ tys = cc in next [] (subst (HaveTypes types []) k tt)
    all_typed c env (also e' es) tys ty go h e next =
        let t = types_of_row (type_of types types c e') (types_of_all types types c es) tys e in
        then_typed types (val types e' env) (λ v. then_all types es env (λ vs. go (v ∷ vs))) t.0 ty (val_typed c env e' t.0 h t.2)
        (λ v k. all_typed c env es t.1 ty (λ vs. go (v ∷ vs)) h t.3 (λ vs ks. next (v ∷ vs) (subst (HaveTypes types (v ∷ vs)) t.4 (k, ks))))
