-- What statements and arms say, and how they are counted: one after another, and within one another.
use Rattle.std.proofs.Common.{◌≡◌, ℕ, ◌+◌, ◌≤◌, nat_lt, Bool, true, false, cond, not, ◌&&◌, ◌||◌, List, [], ◌∷◌, ◌++◌, map, is_some, length, Option, Some, Vec, Global, Result, Ok, Err, refl, sym, ap, subst, arith, ◌∙◌}
use Rattle.std.specs.List.{list_all}
use Rattle.std.specs.Option.{option_map_or}
use Rattle.std.specs.Result.{IsErrAnd}
use Rattle.std.specs.Str.{bytes_eq}
use Rattle.std.proofs.lemmas.List.Folds.{list_any-append}
use Rattle.std.proofs.lemmas.Bool.{and_left, or_left, or_right}
use Rattle.ioa_value.specs.Actions.{Name}
use Rattle.ioa_value.specs.Table.{contains}
use Rattle.ioa_value.specs.declared.value.Ty.{Ty}
use Rattle.ioa_lex.specs.declared.refusal.Refusal.{Refusal}
use Rattle.ioa_lex.specs.declared.refusal.Refusal.TheVariants.{DuplicateName, TooMany}
use Rattle.ioa_tree.specs.declared.tree.Name as names
use Rattle.ioa_tree.specs.declared.tree.Expression.{Expression}
use Rattle.ioa_tree.specs.declared.tree.Statement.{Statement}
use Rattle.ioa_tree.specs.declared.tree.Statement.TheVariants.{If, For}
use Rattle.ioa_tree.specs.declared.tree.Arm.{Arm}
use Rattle.ioa_tree.specs.Tree.{Expr, Stmt, Stmts, choose, each}
use Rattle.ioa_tree.specs.View.{name_of, expr_of, stmt_of, stmts_of, arm_of, arms_of}
use Rattle.ioa_tree.specs.WellFormed.{Context, type_in, parameter_names, local_names, nodes, stmt_nodes, stmts_nodes, arms_nodes}
use Rattle.ioa_rules.specs.declared.statements.Place.{Place}
use Rattle.ioa_rules.specs.Codes.{duplicate_name, too_many}
use Rattle.ioa_rules.specs.Places.{whole, early, globals, machine, entry, loops, taken, item_in, in_items, condition_fine, stmt_fine, in_stmt, stmts_fine, in_stmts, arms_fine, in_arms, arm_fine, in_arm, IsWithin, Enters}
use Rattle.ioa_tree.specs.WellFormed as well_formed
use Rattle.ioa_rules.specs.Reasons as reasons
use Rattle.ioa_rules.specs.Reasons.{Reasons, in_any, in_some, broken, ◌or◌}
use Rattle.ioa_rules.specs.Sizes.{Counts, counted}
use Rattle.ioa_value.specs.declared.limits.TheConstants.{LIMITS}
use Rattle.ioa_rules.specs.Verdicts.{Says, Finds}
use Rattle.ioa_tree.proofs.StatementRows.{stmt_chosen, stmt_looped}
use Rattle.ioa_rules.proofs.SayLemmas.{says-at, says-more, says-last, says-passed}

and-assoc : (a b c : Bool) → (a && (b && c)) ≡ ((a && b) && c)
and-assoc true b c = refl
and-assoc false b c = refl

-- a name that a loop's items are known by is the loop's
names_known : (ls : Context) (x : Name) → contains (map (λ p. p.0) ls) x ≡ is_some (type_in ls x)
names_known [] x = refl
names_known (l ∷ ls) x = go (bytes_eq l.0 x) (names_known ls x)
  where
    go : (b : Bool) → contains (map (λ p. p.0) ls) x ≡ is_some (type_in ls x) → (b || contains (map (λ p. p.0) ls) x) ≡ is_some (cond b (Some l.1) (type_in ls x))
    go true h = refl
    go false h = h

module _ (p : Place) where
  -- ---- names

  abbrev elsewhere : Name → Bool
  elsewhere x = contains (globals p ++ local_names (whole p) (early p) (globals p) (machine p)) x

  pub taken_is : (x : Name) → contains (taken p) x ≡ (is_some (type_in (loops p) x) || (contains (parameter_names (entry p)) x || elsewhere x))
  taken_is x =
      let others = parameter_names (entry p) ++ (globals p ++ local_names (whole p) (early p) (globals p) (machine p)) in
      list_any-append (λ m. bytes_eq m x) (map (λ p. p.0) (loops p)) others
      ∙ ap (λ b. b || contains others x) (names_known (loops p) x)
      ∙ ap (λ b. is_some (type_in (loops p) x) || b) (list_any-append (λ m. bytes_eq m x) (parameter_names (entry p)) (globals p ++ local_names (whole p) (early p) (globals p) (machine p)))

  -- ---- one after another

  pub each_statement : (ss : List Statement) → stmts_fine p (stmts_of ss) ≡ list_all (stmt_fine p) (map stmt_of ss)
  each_statement [] = refl
  each_statement (s ∷ ss) = ap (λ b. stmt_fine p (stmt_of s) && b) (each_statement ss)

  in_each_statement : (ss : List Statement) (r : Refusal) → in_any (in_stmt p) (map stmt_of ss) r ≡ in_stmts p (stmts_of ss) r
  in_each_statement [] r = refl
  in_each_statement (s ∷ ss) r = ap (λ b. in_stmt p (stmt_of s) r || b) (in_each_statement ss r)

  pub each_arm : (xs : List Arm) → arms_fine p (arms_of xs) ≡ list_all (arm_fine p) (map arm_of xs)
  each_arm [] = refl
  each_arm (x ∷ xs) =
      ap (λ b. condition_fine p (expr_of x.condition) && (stmts_fine p (stmts_of x.statements.items) && b)) (each_arm xs)
      ∙ and-assoc (condition_fine p (expr_of x.condition)) (stmts_fine p (stmts_of x.statements.items)) (list_all (arm_fine p) (map arm_of xs))

  in_each_arm : (xs : List Arm) (r : Refusal) → in_any (in_arm p) (map arm_of xs) r ≡ in_arms p (arms_of xs) r
  in_each_arm [] r = refl
  in_each_arm (x ∷ xs) r = ap (λ b. in_arm p (arm_of x) r || b) (in_each_arm xs r)

  pub statements-say : {T : Type 0} (r : Result T Refusal) (ss : List Statement) → Says r (list_all (stmt_fine p) (map stmt_of ss)) (in_any (in_stmt p) (map stmt_of ss)) → Says r (stmts_fine p (stmts_of ss)) (in_stmts p (stmts_of ss))
  statements-say r ss h = says-at r _ _ _ (sym (each_statement ss)) (says-more r _ _ _ (λ x k. sym (in_each_statement ss x) ∙ k) h)

  pub arms-say : {T : Type 0} (r : Result T Refusal) (xs : List Arm) → Says r (list_all (arm_fine p) (map arm_of xs)) (in_any (in_arm p) (map arm_of xs)) → Says r (arms_fine p (arms_of xs)) (in_arms p (arms_of xs))
  arms-say r xs h = says-at r _ _ _ (sym (each_arm xs)) (says-more r _ _ _ (λ x k. sym (in_each_arm xs x) ∙ k) h)

  -- ---- a choice: its arms, then its other statements

  choice_tree : (s : Statement) (arms : Vec Arm Global) (others : Vec Statement Global) (line : ℕ) (xs : List Arm) (ss : List Statement) → s ≡ If arms others line → xs ≡ arms.items → ss ≡ others.items → choose (arms_of xs) (stmts_of ss) ≡ stmt_of s
  choice_tree s arms others line xs ss i p q = ap (λ ys. choose (arms_of ys) (stmts_of ss)) p ∙ ap (λ ys. choose (arms_of arms.items) (stmts_of ys)) q ∙ sym (stmt_chosen s arms others line i)

  says-shown : {T : Type 0} (r : Result T Refusal) (s u : Stmt) → s ≡ u → Says r (stmt_fine p s) (in_stmt p s) → Says r (stmt_fine p u) (in_stmt p u)
  says-shown {T} r s u i h = let P : Stmt → Type 0 = λ v. Says r (stmt_fine p v) (in_stmt p v) in subst P i h

  -- an arm is not
  pub arms-passed : {T U : Type 0} (q : Result U Refusal) (r : Result T Refusal) (x : Refusal) (s : Statement) (arms : Vec Arm Global) (others : Vec Statement Global) (line : ℕ) (xs : List Arm) → s ≡ If arms others line → xs ≡ arms.items →
      q ≡ Err x → IsErrAnd r (λ y. y ≡ x) → Says q (arms_fine p (arms_of xs)) (in_arms p (arms_of xs)) → Says r (stmt_fine p (stmt_of s)) (in_stmt p (stmt_of s))
  arms-passed {T} q r x s arms others line xs i k was bad h = fails r bad (says-passed q r x _ _ was bad h)
    where
      fails : (r : Result T Refusal) → IsErrAnd r (λ y. y ≡ x) → Says r (arms_fine p (arms_of xs)) (in_arms p (arms_of xs)) → Says r (stmt_fine p (stmt_of s)) (in_stmt p (stmt_of s))
      fails (Ok y) bad l = absurd bad
      fails (Err y) bad l = says-shown {T = T} (Err y) _ _ (choice_tree s arms others line xs others.items i k refl) (or_left _ _ l.0, and_left _ _ l.1)

  -- the arms are fine, and the other statements decide
  pub others-say : {T : Type 0} (r : Result T Refusal) (s : Statement) (arms : Vec Arm Global) (others : Vec Statement Global) (line : ℕ) (xs : List Arm) (ss : List Statement) → s ≡ If arms others line → xs ≡ arms.items → ss ≡ others.items →
      arms_fine p (arms_of xs) ≡ true → Says r (stmts_fine p (stmts_of ss)) (in_stmts p (stmts_of ss)) → Says r (stmt_fine p (stmt_of s)) (in_stmt p (stmt_of s))
  others-say r s arms others line xs ss i k q f h =
      says-shown r _ _ (choice_tree s arms others line xs ss i k q) (says-more r _ _ _ (λ x l. or_right _ _ l) (says-last r _ _ _ f h))

  -- ---- a loop: its name, what it goes over, then its statements

  -- what is done for each item is fine, where there are items
  abbrev done : Name → Stmts → Option ℕ → Bool
  done x ss o = option_map_or (λ item. well_formed.stmts_fine (whole p) (early p) (globals p) (machine p) (entry p) ((x, item) ∷ loops p) ss) o false

  abbrev in_done : Name → Stmts → Option ℕ → Reasons
  in_done x ss o = in_some (λ item. reasons.in_stmts (whole p) (early p) (globals p) (machine p) (entry p) ((x, item) ∷ loops p) ss) o

  abbrev new : Name → Bool
  new x = not (contains (taken p) x)

  abbrev few : Bool
  few = nat_lt (length (loops p)) LIMITS.loops

  abbrev before : Name → Expr → Reasons
  before x v = broken duplicate_name (new x) or broken too_many few or in_items p v

  pub loop-taken : (x : Name) (v : Expr) (line : ℕ) → true ≡ contains (taken p) x → Enters (Err (DuplicateName line)) p x v
  loop-taken x v line h ss =
      let r = DuplicateName line in (
        or_left (before x v r) (in_done x ss (item_in p v) r)
            (or_left (broken duplicate_name (new x) r || broken too_many few r) (in_items p v r)
            (or_left (broken duplicate_name (new x) r) (broken too_many few r) (ap (λ b. not (not b)) (sym h)))),
        ap (λ b. not b && (few && done x ss (item_in p v))) (sym h),
      )

  none_done : (a b : Bool) → (a && (b && false)) ≡ false
  none_done true true = refl
  none_done true false = refl
  none_done false b = refl

  pub loop-no-items : (q : Result Ty Refusal) (r : Result Place Refusal) (e : Refusal) (x : Name) (v : Expr) → q ≡ Err e → IsErrAnd r (λ y. y ≡ e)
      → Finds q (item_in p v) (in_items p v) → Enters r p x v
  loop-no-items q (Ok y) e x v was bad h = absurd bad
  loop-no-items q (Err y) e x v was bad h = λ ss.
      let P : Result Ty Refusal → Type 0 = λ o. Finds o (item_in p v) (in_items p v) in
      let k : P (Err y) = subst P (was ∙ ap Err (sym bad)) h in (
        or_left (before x v y) (in_done x ss (item_in p v) y)
            (or_right (broken duplicate_name (new x) y || broken too_many few y) (in_items p v y) k.0),
        ap (λ o. new x && (few && done x ss o)) k.1 ∙ none_done (new x) few,
      )

  -- there is no room for one loop more
  pub loop-too-deep : (x : Name) (v : Expr) (line : ℕ) → few ≡ false → Enters (Err (TooMany line)) p x v
  loop-too-deep x v line h ss =
      let r = TooMany line in (
        or_left (before x v r) (in_done x ss (item_in p v) r)
            (or_left (broken duplicate_name (new x) r || broken too_many few r) (in_items p v r)
            (or_right (broken duplicate_name (new x) r) (broken too_many few r) (ap not h))),
        ap (λ b. new x && (b && done x ss (item_in p v))) h ∙ last_false (new x),
      )
    where
      last_false : (b : Bool) → (b && false) ≡ false
      last_false true = refl
      last_false false = refl

  body-says : {T : Type 0} (r : Result T Refusal) (inner : Place) (x : Name) (v : Expr) (item : ℕ) (ss : Stmts) → item_in p v ≡ Some item → IsWithin p inner x item
      → Says r (stmts_fine inner ss) (in_stmts inner ss) → Says r (stmt_fine p (each x v ss)) (in_stmt p (each x v ss))
  body-says (Ok y) inner x v item ss is w h =
      ap (λ b. not b && (few && done x ss (item_in p v))) w.new ∙ ap (λ b. b && done x ss (item_in p v)) w.few ∙ ap (done x ss) is ∙ sym (w.fine ss) ∙ h
  body-says (Err y) inner x v item ss is w h = (
    ap (λ o. before x v y || in_done x ss o y) is ∙ or_right (before x v y) (in_done x ss (Some item) y) (sym (w.reasons ss y) ∙ h.0),
    ap (λ b. not b && (few && done x ss (item_in p v))) w.new ∙ ap (λ b. b && done x ss (item_in p v)) w.few ∙ ap (done x ss) is ∙ sym (w.fine ss) ∙ h.1,
  )

  looped : {T : Type 0} (r : Result T Refusal) (s : Statement) (x : names.Name) (e : Expression) (body : Vec Statement Global) (line : ℕ) (ss : List Statement) → s ≡ For x e body line → ss ≡ body.items
      → Says r (stmt_fine p (each (name_of x) (expr_of e) (stmts_of ss))) (in_stmt p (each (name_of x) (expr_of e) (stmts_of ss))) → Says r (stmt_fine p (stmt_of s)) (in_stmt p (stmt_of s))
  looped r s x e body line ss i k h =
      says-shown r _ _ (ap (λ ys. each (name_of x) (expr_of e) (stmts_of ys)) k ∙ sym (stmt_looped s x e body line i)) h

  -- the loop is not fine, whatever its statements
  pub loop-refused : {T : Type 0} (q : Result Place Refusal) (r : Result T Refusal) (y : Refusal) (s : Statement) (x : names.Name) (e : Expression) (body : Vec Statement Global) (line : ℕ) → s ≡ For x e body line
      → q ≡ Err y → IsErrAnd r (λ z. z ≡ y) → Enters q p (name_of x) (expr_of e) → Says r (stmt_fine p (stmt_of s)) (in_stmt p (stmt_of s))
  loop-refused q (Ok z) y s x e body line i was bad h = absurd bad
  loop-refused {T} q (Err z) y s x e body line i was bad h =
      let k = subst (λ o. Enters o p (name_of x) (expr_of e)) (was ∙ ap Err (sym bad)) h in
      looped {T = T} (Err z) s x e body line body.items i refl (k (stmts_of body.items))

  -- its statements decide
  pub loop-says : {T : Type 0} (r : Result T Refusal) (q : Result Place Refusal) (inner : Place) (s : Statement) (x : names.Name) (e : Expression) (body : Vec Statement Global) (line : ℕ) (ss : List Statement) → s ≡ For x e body line → ss ≡ body.items
      → q ≡ Ok inner → Enters q p (name_of x) (expr_of e) → Says r (stmts_fine inner (stmts_of ss)) (in_stmts inner (stmts_of ss)) → Says r (stmt_fine p (stmt_of s)) (in_stmt p (stmt_of s))
  loop-says r q inner s x e body line ss i k was h g =
      let w = subst (λ o. Enters o p (name_of x) (expr_of e)) was h in
      looped r s x e body line ss i k (body-says r inner (name_of x) (expr_of e) w.0 (stmts_of ss) w.1 w.2 g)

-- ---- counts

-- an error that `?` hands on, where there is more to count
pub counts-passed : (q r : Result ℕ Refusal) (x : Refusal) (n m : ℕ) → n ≤ m → q ≡ Err x → IsErrAnd r (λ y. y ≡ x) → Counts q n → Counts r m
counts-passed q (Ok k) x n m l was bad h = absurd bad
counts-passed q (Err y) x n m l was bad h =
    let P : Result ℕ Refusal → Type 0 = λ o. Counts o n in
    let at : Counts (Err y) n = subst P (was ∙ ap Err (sym bad)) h in
    (at.0, omega (arith, at.1, l))

choice_nodes : (s : Statement) (arms : Vec Arm Global) (others : Vec Statement Global) (line : ℕ) (xs : List Arm) (ss : List Statement) → s ≡ If arms others line → xs ≡ arms.items → ss ≡ others.items →
    stmt_nodes (stmt_of s) ≡ arms_nodes (arms_of xs) + stmts_nodes (stmts_of ss) + 1
choice_nodes s arms others line xs ss i p q =
    ap stmt_nodes (stmt_chosen s arms others line i) ∙ sym (ap (λ ys. arms_nodes (arms_of ys) + stmts_nodes (stmts_of ss) + 1) p ∙ ap (λ ys. arms_nodes (arms_of arms.items) + stmts_nodes (stmts_of ys) + 1) q)

pub choice_counted : (r : Result ℕ Refusal) (s : Statement) (arms : Vec Arm Global) (others : Vec Statement Global) (line : ℕ) (xs : List Arm) (ss : List Statement) (before own with_arms : ℕ) → s ≡ If arms others line → xs ≡ arms.items → ss ≡ others.items →
    own ≡ before + 1 → with_arms ≡ own + arms_nodes (arms_of xs) → Counts r (with_arms + stmts_nodes (stmts_of ss)) → Counts r (before + stmt_nodes (stmt_of s))
choice_counted r s arms others line xs ss before own with_arms i p q m n h =
    let k = choice_nodes s arms others line xs ss i p q in
    let same : with_arms + stmts_nodes (stmts_of ss) ≡ before + stmt_nodes (stmt_of s) = omega (arith, k, m, n) in
    subst (λ total. Counts r total) same h

pub arms_too_many : (q r : Result ℕ Refusal) (x : Refusal) (s : Statement) (arms : Vec Arm Global) (others : Vec Statement Global) (line : ℕ) (xs : List Arm) (before own : ℕ) → s ≡ If arms others line → xs ≡ arms.items →
    own ≡ before + 1 → q ≡ Err x → IsErrAnd r (λ y. y ≡ x) → Counts q (own + arms_nodes (arms_of xs)) → Counts r (before + stmt_nodes (stmt_of s))
arms_too_many q r x s arms others line xs before own i p m was bad h =
    let k = choice_nodes s arms others line xs others.items i p refl in
    counts-passed q r x (own + arms_nodes (arms_of xs)) (before + stmt_nodes (stmt_of s)) (omega (arith, k, m)) was bad h

pub loop_counted : (r : Result ℕ Refusal) (s : Statement) (x : names.Name) (e : Expression) (body : Vec Statement Global) (line : ℕ) (ss : List Statement) (before own with_items : ℕ) → s ≡ For x e body line → ss ≡ body.items →
    own ≡ counted (expr_of e) → with_items ≡ before + (own + 1) → with_items ≤ LIMITS.nodes → Counts r (with_items + stmts_nodes (stmts_of ss)) → Counts r (before + stmt_nodes (stmt_of s))
loop_counted r s x e body line ss before own with_items i k m n l h =
    let shown : stmt_nodes (stmt_of s) ≡ nodes (expr_of e) + stmts_nodes (stmts_of ss) + 1 =
    ap stmt_nodes (stmt_looped s x e body line i) ∙ ap (λ ys. nodes (expr_of e) + stmts_nodes (stmts_of ys) + 1) (sym k) in
    let same : with_items + stmts_nodes (stmts_of ss) ≡ before + stmt_nodes (stmt_of s) = omega (arith, shown, m, n, l) in
    subst (λ total. Counts r total) same h
