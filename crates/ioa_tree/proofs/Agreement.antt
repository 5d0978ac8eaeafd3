-- The value of a tree depends on the names in it alone, and so does what its statements do to those names.
use Rattle.std.proofs.Common.{◌≡◌, Bool, true, false, List, [], ◌∷◌, ◌++◌, Option, Some, None, refl, sym, ap, ◌∙◌}
use Rattle.std.specs.List.{list_all}
use Rattle.std.proofs.lemmas.Bool.{and_parts}
use Rattle.std.proofs.lemmas.List.Folds.{list_all-append}
use Rattle.ioa_value.specs.Actions.{Name}
use Rattle.ioa_value.specs.Plain.{Val, Vals, none as no_item, more as one_item, truth as truth_value, num, name, tuple, items}
use Rattle.ioa_value.specs.Table.{Table}
use Rattle.ioa_value.specs.Operators.{Answer, gives, faults, nothing, operate}
use Rattle.ioa_tree.specs.Tree.{Expr, number, truth, named, parens, prefix, binary, empty, make, select, Exprs, no_expr, also, Stmt, assign, choose, each, Stmts, stop, seq, Arms, no_arm, arm}
use Rattle.ioa_tree.specs.Names.{names_of_expr, names_of_exprs, names_of_stmt, names_of_stmts, names_of_arms}
use Rattle.ioa_tree.specs.Types.{constant}
use Rattle.ioa_tree.specs.Meaning.{Env, or_else, then_value, value_of, combined, made, selected, val, then_all, Outcome, becomes, breaks, nowhere, assigned, then_do, chosen, turns, looped, does, picks, eff, with_name, without}

-- names that stand in one list and then another
pub all_both : (p : Name → Bool) (xs ys : List Name) → list_all p (xs ++ ys) ≡ true → (list_all p xs ≡ true) × (list_all p ys ≡ true)
all_both p xs ys h = and_parts (list_all p xs) (list_all p ys) (sym (list_all-append p xs ys) ∙ h)

pub two : {A B C : Type 0} (f : A → B → C) (a b : A) (c d : B) → a ≡ b → c ≡ d → f a c ≡ f b d
two f a b c d h k = ap (λ x. f x c) h ∙ ap (f b) k

then_same : (a : Answer) (f g : Val → Answer) → ((v : Val) → f v ≡ g v) → then_value a f ≡ then_value a g
then_same (gives v) f g h = h v
then_same (faults x) f g h = refl
then_same nothing f g h = refl

module _ (types : Table) (p : Name → Bool) (m n : Env) (same : (x : Name) → p x ≡ true → m x ≡ n x) where
  mutual
    pub val_same : (e : Expr) → list_all p (names_of_expr e) ≡ true → val types e m ≡ val types e n
    val_same (number k) h = refl
    val_same (truth b) h = refl
    val_same (named x) h = ap (λ o. value_of (or_else o (constant types x))) (same x (and_parts (p x) true h).0)
    val_same (parens e) h = val_same e h
    val_same (prefix o e) h = ap (λ a. then_value a (λ x. operate types o (x ∷ []))) (val_same e h)
    val_same (binary l o r) h =
        let k = all_both p (names_of_expr l) (names_of_expr r) h in
        two (λ a b. then_value a (λ x. combined types o x b)) (val types l m) (val types l n) (val types r m) (val types r n) (val_same l k.0) (val_same r k.1)
    val_same (empty x) h = refl
    val_same (make x es) h = all_same es (made types x) (and_parts (p x) (list_all p (names_of_exprs es)) h).1
    val_same (select e x) h = ap (λ a. then_value a (selected types x)) (val_same e (all_both p (names_of_expr e) (x ∷ []) h).0)

    all_same : (es : Exprs) (go : List Val → Answer) → list_all p (names_of_exprs es) ≡ true → then_all types es m go ≡ then_all types es n go
    all_same no_expr go h = refl
    all_same (also e es) go h =
        let k = all_both p (names_of_expr e) (names_of_exprs es) h in
        ap (λ a. then_value a (λ v. then_all types es m (λ vs. go (v ∷ vs)))) (val_same e k.0)
        ∙ then_same (val types e n) (λ v. then_all types es m (λ vs. go (v ∷ vs))) (λ v. then_all types es n (λ vs. go (v ∷ vs)))
        (λ v. all_same es (λ vs. go (v ∷ vs)) k.1)

-- related environments, or the same fault, or nothing
abbrev pub OutcomesLike : (Env → Env → Type 0) → Outcome → Outcome → Type 0
OutcomesLike R (becomes m) (becomes n) = R m n
OutcomesLike R (becomes m) (breaks g) = ⊥
OutcomesLike R (becomes m) nowhere = ⊥
OutcomesLike R (breaks f) (becomes n) = ⊥
OutcomesLike R (breaks f) (breaks g) = f ≡ g
OutcomesLike R (breaks f) nowhere = ⊥
OutcomesLike R nowhere (becomes n) = ⊥
OutcomesLike R nowhere (breaks g) = ⊥
OutcomesLike R nowhere nowhere = Unit {0}

-- what assignments to names that pass the test keep, and names that are given back, statements keep
module _ (types : Table) (p : Name → Bool) (R : Env → Env → Type 0) (agree : (m n : Env) → R m n → (x : Name) → p x ≡ true → m x ≡ n x)
    (keep : (m n : Env) (x : Name) (v : Val) → p x ≡ true → R m n → R (with_name m x v) (with_name n x v))
    (back : (m n u w : Env) (x : Name) → p x ≡ true → R m n → R u w → R (without x m u) (without x n w)) where
  then_like : (o q : Outcome) (go to : Env → Outcome) → OutcomesLike R o q → ((m n : Env) → R m n → OutcomesLike R (go m) (to n))
      → OutcomesLike R (then_do o go) (then_do q to)
  then_like (becomes m) (becomes n) go to h k = k m n h
  then_like (becomes m) (breaks g) go to h k = absurd h
  then_like (becomes m) nowhere go to h k = absurd h
  then_like (breaks f) (becomes n) go to h k = absurd h
  then_like (breaks f) (breaks g) go to h k = h
  then_like (breaks f) nowhere go to h k = absurd h
  then_like nowhere (becomes n) go to h k = absurd h
  then_like nowhere (breaks g) go to h k = absurd h
  then_like nowhere nowhere go to h k = tt

  assigned_like : (x : Name) (m n : Env) (a b : Answer) (o q : Option Val) → a ≡ b → o ≡ q → p x ≡ true → R m n
      → OutcomesLike R (assigned x m a o) (assigned x n b q)
  assigned_like x m n a b o q e f h r = rw (e, f) (go b q)
    where
      go : (c : Answer) (u : Option Val) → OutcomesLike R (assigned x m c u) (assigned x n c u)
      go (gives v) (Some w) = keep m n x v h r
      go (gives v) None = tt
      go (faults g) u = refl
      go nothing u = tt

  chosen_like : (a b : Answer) (o q y z : Outcome) → a ≡ b → OutcomesLike R o q → OutcomesLike R y z → OutcomesLike R (chosen a o y) (chosen b q z)
  chosen_like a b o q y z e h k = rw e (go b)
    where
      go : (c : Answer) → OutcomesLike R (chosen c o y) (chosen c q z)
      go (gives (truth_value true)) = h
      go (gives (truth_value false)) = k
      go (gives (num i)) = tt
      go (gives (name t i)) = tt
      go (gives (tuple t vs)) = tt
      go (gives (items t vs)) = tt
      go (faults f) = refl
      go nothing = tt

  -- turns of what keeps it
  turns_like : (body : Env → Outcome) (x : Name) (vs : Vals) (m n : Env) → ((u w : Env) → R u w → OutcomesLike R (body u) (body w)) → p x ≡ true → R m n
      → OutcomesLike R (turns body x vs m) (turns body x vs n)
  turns_like body x no_item m n b h r = r
  turns_like body x (one_item v vs) m n b h r =
      then_like (body (with_name m x v)) (body (with_name n x v)) (λ next. turns body x vs (without x m next)) (λ next. turns body x vs (without x n next))
      (b (with_name m x v) (with_name n x v) (keep m n x v h r))
      (λ u w q. turns_like body x vs (without x m u) (without x n w) b h (back m n u w x h r q))

  looped_like : (body : Env → Outcome) (x : Name) (m n : Env) (a b : Answer) → a ≡ b → ((u w : Env) → R u w → OutcomesLike R (body u) (body w)) → p x ≡ true → R m n
      → OutcomesLike R (looped body x m a) (looped body x n b)
  looped_like body x m n a b e k h r = rw e (go b)
    where
      go : (c : Answer) → OutcomesLike R (looped body x m c) (looped body x n c)
      go (gives (items t vs)) = turns_like body x vs m n k h r
      go (gives (truth_value t)) = tt
      go (gives (num i)) = tt
      go (gives (name t i)) = tt
      go (gives (tuple t vs)) = tt
      go (faults f) = refl
      go nothing = tt

  mutual
    does_like : (s : Stmt) (m n : Env) → list_all p (names_of_stmt s) ≡ true → R m n → OutcomesLike R (does types s m) (does types s n)
    does_like (assign x e) m n h r =
        let k = and_parts (p x) (list_all p (names_of_expr e)) h in
        assigned_like x m n (val types e m) (val types e n) (m x) (n x) (val_same types p m n (agree m n r) e k.1) (agree m n r x k.0) k.0 r
    does_like (choose arms others) m n h r =
        let k = all_both p (names_of_arms arms) (names_of_stmts others) h in
        picks_like arms m n (eff types others m) (eff types others n) k.0 r (eff_like others m n k.1 r)
    does_like (each x e ss) m n h r =
        let k = and_parts (p x) (list_all p (names_of_expr e ++ names_of_stmts ss)) h in
        let j = all_both p (names_of_expr e) (names_of_stmts ss) k.1 in
        looped_like (eff types ss) x m n (val types e m) (val types e n) (val_same types p m n (agree m n r) e j.0)
        (λ u w q. eff_like ss u w j.1 q) k.0 r

    picks_like : (arms : Arms) (m n : Env) (o q : Outcome) → list_all p (names_of_arms arms) ≡ true → R m n → OutcomesLike R o q
        → OutcomesLike R (picks types arms m o) (picks types arms n q)
    picks_like no_arm m n o q h r l = l
    picks_like (arm c ss more) m n o q h r l =
        let k = all_both p (names_of_expr c) (names_of_stmts ss ++ names_of_arms more) h in
        let j = all_both p (names_of_stmts ss) (names_of_arms more) k.1 in
        chosen_like (val types c m) (val types c n) (eff types ss m) (eff types ss n) (picks types more m o) (picks types more n q)
        (val_same types p m n (agree m n r) c k.0) (eff_like ss m n j.0 r) (picks_like more m n o q j.1 r l)

    pub eff_like : (ss : Stmts) (m n : Env) → list_all p (names_of_stmts ss) ≡ true → R m n → OutcomesLike R (eff types ss m) (eff types ss n)
    eff_like stop m n h r = r
    eff_like (seq s ss) m n h r =
        let k = all_both p (names_of_stmt s) (names_of_stmts ss) h in
        then_like (does types s m) (does types s n) (λ next. eff types ss next) (λ next. eff types ss next) (does_like s m n k.0 r) (λ u v q. eff_like ss u v k.1 q)
