-- What literals and connectives show of a condition is so in every environment.
use Rattle.std.proofs.Common.{◌≡◌, ◌⊎◌, inl, inr, ⊎_elim, ℕ, zero, suc, Bool, true, false, not, ◌||◌, [], ◌∷◌, Ok, refl, subst, sym, ap, pos, ◌∙◌}
use Rattle.std.proofs.lemmas.Bool.{and_parts}
use Rattle.ioa_value.specs.Plain.{truth as truth_value, num, name, tuple, items}
use Rattle.ioa_value.specs.Table.{Table}
use Rattle.ioa_value.specs.declared.operator.Op.{Op}
use Rattle.ioa_value.specs.declared.operator.Op.TheVariants as operators
use Rattle.ioa_value.specs.Operators.{Answer, gives, faults, nothing, operate}
use Rattle.ioa_tree.specs.declared.tree.Infix.TheVariants.{Operator, And, Or, Implies}
use Rattle.ioa_tree.specs.Instances.{enabling, environment, truth_of}
use Rattle.ioa_tree.specs.Meaning.{Env, combined, then_value, val}
use Rattle.ioa_tree.specs.Tree.{Expr, number, truth, named, parens, prefix, binary, empty, make, select, exactly, any_below}
use Rattle.ioa_warnings.specs.Dead.{is_nothing, is_zero}
use Rattle.ioa_warnings.specs.Never.{differs, is_denial, never}
use Rattle.ioa_warnings.specs.Performed.{DeadIsDisabled, NothingIsTried}
use Rattle.ioa_warnings.proofs.Unmentioned.{guard_at}

denial : (o : Op) → is_denial o ≡ true → o ≡ operators.Not
denial operators.Neg h = absurd (cc)
denial operators.Add h = absurd (cc)
denial operators.Sub h = absurd (cc)
denial operators.Mul h = absurd (cc)
denial operators.Div h = absurd (cc)
denial operators.Mod h = absurd (cc)
denial operators.Lt h = absurd (cc)
denial operators.Le h = absurd (cc)
denial operators.Gt h = absurd (cc)
denial operators.Ge h = absurd (cc)
denial operators.Not h = refl
denial operators.Eq h = absurd (cc)
denial operators.Ne h = absurd (cc)
denial operators.Len h = absurd (cc)
denial operators.Head h = absurd (cc)
denial operators.Tail h = absurd (cc)
denial operators.Last h = absurd (cc)
denial operators.Init h = absurd (cc)
denial operators.Append h = absurd (cc)
denial operators.At h = absurd (cc)
denial operators.Member h = absurd (cc)
denial operators.Without h = absurd (cc)
denial (operators.Make ty) h = absurd (cc)
denial (operators.Field j) h = absurd (cc)

-- the answer is this truth value
abbrev Is : Bool → Answer → Type 0
Is b a = a ≡ gives (truth_value b)

-- a truth value is one of two
not_literal : (b c : Bool) → differs b c ≡ true → Is b (gives (truth_value c)) → ⊥
not_literal true true h is = absurd (cc)
not_literal true false h is = absurd (cc)
not_literal false true h is = absurd (cc)
not_literal false false h is = absurd (cc)

-- `~` gives what the other truth value gives
denied : (types : Table) (b : Bool) (a : Answer) → Is b (then_value a (λ x. operate types operators.Not (x ∷ []))) → Is (not b) a
denied types true (gives (truth_value true)) is = absurd (cc)
denied types true (gives (truth_value false)) is = refl
denied types false (gives (truth_value true)) is = refl
denied types false (gives (truth_value false)) is = absurd (cc)
denied types b (gives (num z)) is = absurd (cc)
denied types b (gives (name ty n)) is = absurd (cc)
denied types b (gives (tuple ty vs)) is = absurd (cc)
denied types b (gives (items ty vs)) is = absurd (cc)
denied types b (faults f) is = absurd (cc)
denied types b nothing is = absurd (cc)

-- what both operands are, where a connective gives a truth value; or one of them, where one decides
module _ (types : Table) (s : Answer) where
  and_true : (a : Answer) → Is true (then_value a (λ x. combined types And x s)) → Is true a × Is true s
  and_true (gives (truth_value true)) is = (refl, is)
  and_true (gives (truth_value false)) is = absurd (cc)
  and_true (gives (num z)) is = absurd (cc)
  and_true (gives (name ty n)) is = absurd (cc)
  and_true (gives (tuple ty vs)) is = absurd (cc)
  and_true (gives (items ty vs)) is = absurd (cc)
  and_true (faults f) is = absurd (cc)
  and_true nothing is = absurd (cc)

  and_false : (a : Answer) → Is false (then_value a (λ x. combined types And x s)) → Is false a ⊎ Is false s
  and_false (gives (truth_value true)) is = inr is
  and_false (gives (truth_value false)) is = inl refl
  and_false (gives (num z)) is = absurd (cc)
  and_false (gives (name ty n)) is = absurd (cc)
  and_false (gives (tuple ty vs)) is = absurd (cc)
  and_false (gives (items ty vs)) is = absurd (cc)
  and_false (faults f) is = absurd (cc)
  and_false nothing is = absurd (cc)

  or_true : (a : Answer) → Is true (then_value a (λ x. combined types Or x s)) → Is true a ⊎ Is true s
  or_true (gives (truth_value true)) is = inl refl
  or_true (gives (truth_value false)) is = inr is
  or_true (gives (num z)) is = absurd (cc)
  or_true (gives (name ty n)) is = absurd (cc)
  or_true (gives (tuple ty vs)) is = absurd (cc)
  or_true (gives (items ty vs)) is = absurd (cc)
  or_true (faults f) is = absurd (cc)
  or_true nothing is = absurd (cc)

  or_false : (a : Answer) → Is false (then_value a (λ x. combined types Or x s)) → Is false a × Is false s
  or_false (gives (truth_value true)) is = absurd (cc)
  or_false (gives (truth_value false)) is = (refl, is)
  or_false (gives (num z)) is = absurd (cc)
  or_false (gives (name ty n)) is = absurd (cc)
  or_false (gives (tuple ty vs)) is = absurd (cc)
  or_false (gives (items ty vs)) is = absurd (cc)
  or_false (faults f) is = absurd (cc)
  or_false nothing is = absurd (cc)

  implies_true : (a : Answer) → Is true (then_value a (λ x. combined types Implies x s)) → Is false a ⊎ Is true s
  implies_true (gives (truth_value true)) is = inr is
  implies_true (gives (truth_value false)) is = inl refl
  implies_true (gives (num z)) is = absurd (cc)
  implies_true (gives (name ty n)) is = absurd (cc)
  implies_true (gives (tuple ty vs)) is = absurd (cc)
  implies_true (gives (items ty vs)) is = absurd (cc)
  implies_true (faults f) is = absurd (cc)
  implies_true nothing is = absurd (cc)

  implies_false : (a : Answer) → Is false (then_value a (λ x. combined types Implies x s)) → Is true a × Is false s
  implies_false (gives (truth_value true)) is = (refl, is)
  implies_false (gives (truth_value false)) is = absurd (cc)
  implies_false (gives (num z)) is = absurd (cc)
  implies_false (gives (name ty n)) is = absurd (cc)
  implies_false (gives (tuple ty vs)) is = absurd (cc)
  implies_false (gives (items ty vs)) is = absurd (cc)
  implies_false (faults f) is = absurd (cc)
  implies_false nothing is = absurd (cc)

one_of : (b c : Bool) → (b || c) ≡ true → (b ≡ true) ⊎ (c ≡ true)
one_of true c h = inl refl
one_of false c h = inr h

module _ (types : Table) (env : Env) where
  -- a condition never has the truth value that it is told never to have
  never_is : (b : Bool) (e : Expr) → never b e ≡ true → Is b (val types e env) → ⊥
  never_is b (number n) h is = absurd (cc)
  never_is b (truth c) h is = not_literal b c h is
  never_is b (named x) h is = absurd (cc)
  never_is b (parens e) h is = never_is b e h is
  never_is b (prefix o e) h is =
      let k = and_parts (is_denial o) (never (not b) e) h in
      never_is (not b) e k.1 (denied types b (val types e env) (subst (λ p. Is b (then_value (val types e env) (λ x. operate types p (x ∷ [])))) (denial o k.0) is))
  never_is b (binary l (Operator o) r) h is = absurd (cc)
  never_is true (binary l And r) h is =
      let both = and_true types (val types r env) (val types l env) is in
      ⊎_elim (λ k. never_is true l k both.0) (λ k. never_is true r k both.1) (one_of _ _ h)
  never_is false (binary l And r) h is =
      let k = and_parts (never false l) (never false r) h in
      ⊎_elim (never_is false l k.0) (never_is false r k.1) (and_false types (val types r env) (val types l env) is)
  never_is true (binary l Or r) h is =
      let k = and_parts (never true l) (never true r) h in
      ⊎_elim (never_is true l k.0) (never_is true r k.1) (or_true types (val types r env) (val types l env) is)
  never_is false (binary l Or r) h is =
      let both = or_false types (val types r env) (val types l env) is in
      ⊎_elim (λ k. never_is false l k both.0) (λ k. never_is false r k both.1) (one_of _ _ h)
  never_is true (binary l Implies r) h is =
      let k = and_parts (never false l) (never true r) h in
      ⊎_elim (never_is false l k.0) (never_is true r k.1) (implies_true types (val types r env) (val types l env) is)
  never_is false (binary l Implies r) h is =
      let both = implies_false types (val types r env) (val types l env) is in
      ⊎_elim (λ k. never_is true l k both.0) (λ k. never_is false r k both.1) (one_of _ _ h)
  never_is b (empty ty) h is = absurd (cc)
  never_is b (make ty es) h is = absurd (cc)
  never_is b (select e field) h is = absurd (cc)

-- a precondition is true where its answer is
truly : (a : Answer) → truth_of a ≡ Ok true → Is true a
truly (gives (truth_value true)) h = refl
truly (gives (truth_value false)) h = absurd (cc)
truly (gives (num z)) h = absurd (cc)
truly (gives (name ty n)) h = absurd (cc)
truly (gives (tuple ty vs)) h = absurd (cc)
truly (gives (items ty vs)) h = absurd (cc)
truly (faults f) h = absurd (cc)
truly nothing h = absurd (cc)

pub dead_is_disabled : DeadIsDisabled
dead_is_disabled i e t pre a s entry transition has dead enabled =
    let env : Env = environment i e a.vals s in
    never_is i.types env true pre dead
    (truly (val i.types pre env) (sym (ap (λ p. enabling i.types p env) has) ∙ (sym (guard_at i e t a s entry transition) ∙ enabled)))

-- the literal 0 is the number 0
zero_number : (n : ℕ) → is_zero n ≡ true → n ≡ 0
zero_number zero h = refl
zero_number (suc n) h = absurd (cc)

module _ (types : Table) (env : Env) where
  nothing_below : (e : Expr) → is_nothing e ≡ true → val types e env ≡ gives (num (pos 0))
  nothing_below (number n) h = ap (λ m. gives (num (pos m))) (zero_number n h)
  nothing_below (truth c) h = absurd (cc)
  nothing_below (named x) h = absurd (cc)
  nothing_below (parens e) h = nothing_below e h
  nothing_below (prefix o e) h = absurd (cc)
  nothing_below (binary l o r) h = absurd (cc)
  nothing_below (empty ty) h = absurd (cc)
  nothing_below (make ty es) h = absurd (cc)
  nothing_below (select e field) h = absurd (cc)

pub nothing_is_tried : NothingIsTried
nothing_is_tried words types s (exactly e) taken h = absurd (cc)
nothing_is_tried words types s (any_below e) taken h = rw (nothing_below types s e h) refl
