-- Well typed statements leave an environment of the same types, or a fault.
use Rattle.std.proofs.Common.{◌≡◌, ℕ, ◌++◌, Bool, true, false, cond, not, ◌&&◌, ◌||◌, nat_lt, nat_le, IsTrue, List, [], ◌∷◌, map, length, Option, Some, None, option_and_then, refl, sym, ap, subst, ◌∙◌, arith}
use Rattle.std.specs.Option.{option_map_or}
use Rattle.std.specs.Str.{bytes_eq}
use Rattle.std.proofs.lemmas.Bool.{and_parts, or_right}
use Rattle.std.proofs.lemmas.Bool.Decides.{nat_tests}
use Rattle.std.proofs.lemmas.Slice.Eq.{bytes_eq-Decides}
use Rattle.ioa_value.specs.Actions.{Name}
use Rattle.ioa_value.specs.Operators.{Answer, gives, faults, nothing, IsTypedAnswer}
use Rattle.ioa_value.specs.Plain.{Val, Vals, none as no_item, more as one_item, truth, items, count}
use Rattle.ioa_value.proofs.TypingLemmas.{is_truth, is_sequence}
use Rattle.ioa_value.specs.Table.{Table, AreTypes, Shape, truths, numbers, names, fields, sequence, shape_at, item_of, item_type, type_named, contains}
use Rattle.ioa_value.proofs.NameLemmas.{not_true, outside_both}
use Rattle.ioa_value.specs.Typing.{HasType, is_of, items_are}
use Rattle.ioa_tree.specs.Tree.{Expr, Stmt, assign, choose, each, Stmts, stop, seq, Arms, no_arm, arm, VariableTree, EntryTree, AutomatonTree}
use Rattle.ioa_tree.specs.Instances.{field_names, variable_names}
use Rattle.ioa_value.specs.declared.limits.TheConstants.{LIMITS}
use Rattle.ioa_tree.specs.Meaning.{Env, val, with_name, Outcome, becomes, breaks, nowhere, assigned, then_do, chosen, without, turns, looped, does, picks, eff}
use Rattle.ioa_tree.specs.WellFormed.{Context, type_in, type_of, is_some_of, has_ty, context_of, variable_fields, parameter_names, local_names, scope, scope_in, taken, item_in, stmt_fine, stmts_fine, arms_fine}
use Rattle.ioa_tree.specs.Answers.{HasValueOf, Suits, IsTypedOutcome}
use Rattle.ioa_tree.proofs.ValTyped.{val_typed}

pub some_type : (o : Option ℕ) (ty : ℕ) → is_some_of o ty ≡ true → o ≡ Some ty
some_type (Some t) ty h = let same : t ≡ ty = grind (arith, nat_tests) in ap Some same
some_type None ty h = absurd (cc)

first_type : (c d : Context) (x : Name) (ty : ℕ) → type_in c x ≡ Some ty → type_in (c ++ d) x ≡ Some ty
first_type [] d x ty h = absurd (cc)
first_type (p ∷ ps) d x ty h = go (bytes_eq p.0 x) h (first_type ps d x ty)
  where
    go : (b : Bool) → cond b (Some p.1) (type_in ps x) ≡ Some ty → (type_in ps x ≡ Some ty → type_in (ps ++ d) x ≡ Some ty)
        → cond b (Some p.1) (type_in (ps ++ d) x) ≡ Some ty
    go true k more = k
    go false k more = more k

module _ (types : Table) (c : Context) where
  replaced_suits : (env : Env) (x : Name) (ty : ℕ) (v : Val) → Suits types c env → type_in c x ≡ Some ty → HasType types v ty
      → Suits types c (with_name env x v)
  replaced_suits env x ty v h t k = record { stands = λ y u e. same y u e (bytes_eq x y) refl; others = λ y e. other y e (bytes_eq x y) refl }
    where
      same : (y : Name) (u : ℕ) → type_in c y ≡ Some u → (b : Bool) → bytes_eq x y ≡ b → HasValueOf types u (cond b (Some v) (env y))
      same y u e true is =
          let names : x ≡ y = (bytes_eq-Decides x y).0 is in
          let there : type_in c x ≡ Some u = ap (type_in c) names ∙ e in
          let alike : ty ≡ u = cc in
          subst (HasType types v) alike k
      same y u e false is = h.stands y u e

      other : (y : Name) → type_in c y ≡ None → (b : Bool) → bytes_eq x y ≡ b → cond b (Some v) (env y) ≡ None
      other y e true is =
          let names : x ≡ y = (bytes_eq-Decides x y).0 is in
          let there : type_in c x ≡ None = ap (type_in c) names ∙ e in
          absurd (cc)
      other y e false is = h.others y e

  assigned_typed : (env : Env) (x : Name) (ty : ℕ) (a : Answer) (old : Option Val) → Suits types c env → type_in c x ≡ Some ty → IsTypedAnswer types ty a
      → HasValueOf types ty old → IsTypedOutcome types c (assigned x env a old)
  assigned_typed env x ty (gives v) (Some w) h t k o = replaced_suits env x ty v h t k
  assigned_typed env x ty (gives v) None h t k o = absurd o
  assigned_typed env x ty (faults f) old h t k o = tt
  assigned_typed env x ty nothing old h t k o = absurd k

  then_typed : (o : Outcome) (go : Env → Outcome) → IsTypedOutcome types c o → ((env : Env) → Suits types c env → IsTypedOutcome types c (go env))
      → IsTypedOutcome types c (then_do o go)
  then_typed (becomes env) go h k = k env h
  then_typed (breaks f) go h k = tt
  then_typed nowhere go h k = absurd h

-- a name that a variable's type is known by is a variable's
named_variable : (types : Table) (vs : List VariableTree) (x : Name) (ty : ℕ) → type_in (context_of types (map (λ v. v.field) vs)) x ≡ Some ty
    → contains (map (λ v. v.field.name) vs) x ≡ true
named_variable types [] x ty h = absurd (cc)
named_variable types (v ∷ vs) x ty h = go (type_named types v.field.ty) h (named_variable types vs x ty)
  where
    same : (b : Bool) (n : ℕ) → cond b (Some n) (type_in (context_of types (map (λ v. v.field) vs)) x) ≡ Some ty
        → (type_in (context_of types (map (λ v. v.field) vs)) x ≡ Some ty → contains (map (λ v. v.field.name) vs) x ≡ true)
        → (b || contains (map (λ v. v.field.name) vs) x) ≡ true
    same true n h more = refl
    same false n h more = more h

    go : (o : Option ℕ) → type_in (option_map_or (λ n. (v.field.name, n) ∷ []) o [] ++ context_of types (map (λ v. v.field) vs)) x ≡ Some ty
        → (type_in (context_of types (map (λ v. v.field) vs)) x ≡ Some ty → contains (map (λ v. v.field.name) vs) x ≡ true)
        → (bytes_eq v.field.name x || contains (map (λ v. v.field.name) vs) x) ≡ true
    go (Some n) h more = same (bytes_eq v.field.name x) n h more
    go None h more = or_right (bytes_eq v.field.name x) (contains (map (λ v. v.field.name) vs) x) (more h)

-- what is of a sequence type is a sequence, and each item is of the type of its items
list_typed : (types : Table) → AreTypes types → (ty item : ℕ) (v : Val) → item_type types ty ≡ Some item → HasType types v ty
    → (vs : Vals) × (v ≡ items ty vs) × IsTrue (items_are types vs item)
list_typed types declared ty item v h k = go (shape_at types ty) refl h
  where
    go : (o : Option Shape) → shape_at types ty ≡ o → item_of o ≡ Some item → (vs : Vals) × (v ≡ items ty vs) × IsTrue (items_are types vs item)
    go (Some (sequence most of)) is h =
        let s = is_sequence types declared v ty most of k is in
        let parts = and_parts (nat_le (count s.0) most) (items_are types s.0 of) s.2 in
        let same : of ≡ item = cc in
        (s.0, s.1, ap (items_are types s.0) (sym same) ∙ parts.1)
    go (Some truths) is h = absurd (cc)
    go (Some numbers) is h = absurd (cc)
    go (Some (names ns)) is h = absurd (cc)
    go (Some (fields fs)) is h = absurd (cc)
    go None is h = absurd (cc)

module _ (types : Table) (declared : AreTypes types) (globals : List Name) (a : AutomatonTree) (e : EntryTree) where
  -- what may be named within the loops, and what each stands for
  abbrev S : Context → Context
  S loops = scope_in types types globals a e loops

  -- no loop has the name of a variable
  abbrev pub AreApart : Context → Type 0
  AreApart loops = (x : Name) (ty : ℕ) → type_in (context_of types (variable_fields a)) x ≡ Some ty → type_in loops x ≡ None

  seen_through : (loops : Context) (x : Name) → type_in loops x ≡ None → type_in (S loops) x ≡ type_in (scope types types globals a e) x
  seen_through [] x h = refl
  seen_through (l ∷ ls) x h = go (bytes_eq l.0 x) h (seen_through ls x)
    where
      go : (b : Bool) → cond b (Some l.1) (type_in ls x) ≡ None → (type_in ls x ≡ None → type_in (S ls) x ≡ type_in (scope types types globals a e) x)
          → cond b (Some l.1) (type_in (S ls) x) ≡ type_in (scope types types globals a e) x
      go true h more = absurd (cc)
      go false h more = more h

  -- a new name within them is none of a variable, either
  still_apart : (loops : Context) (x : Name) (item : ℕ) → AreApart loops → contains (taken types types globals a e loops) x ≡ false → AreApart ((x, item) ∷ loops)
  still_apart loops x item h new y ty k = go (bytes_eq x y) refl
    where
      go : (b : Bool) → bytes_eq x y ≡ b → cond b (Some item) (type_in loops y) ≡ None
      go true is =
          let names : x ≡ y = (bytes_eq-Decides x y).0 is in
          let l = outside_both (map (λ p. p.0) loops) (parameter_names e ++ (globals ++ local_names types types globals a)) x new in
          let r = outside_both (parameter_names e) (globals ++ local_names types types globals a) x l.1 in
          let g = outside_both globals (local_names types types globals a) x r.1 in
          let own = outside_both (field_names a.formals) (variable_names a) x g.1 in
          let there : contains (variable_names a) x ≡ true = named_variable types a.variables x ty (ap (type_in (context_of types (variable_fields a))) names ∙ k) in
          absurd (cc (own.1, there))
      go false is = h y ty k

  assign_typed : (loops : Context) (x : Name) (v : Expr) (env : Env) → AreApart loops → stmt_fine types types globals a e loops (assign x v) ≡ true → Suits types (S loops) env
      → IsTypedOutcome types (S loops) (does types (assign x v) env)
  assign_typed loops x v env out h suits = go (type_in (context_of types (variable_fields a)) x) refl h
    where
      go : (o : Option ℕ) → type_in (context_of types (variable_fields a)) x ≡ o
          → option_map_or (λ ty. has_ty types types (S loops) v ty) o false ≡ true
          → IsTypedOutcome types (S loops) (does types (assign x v) env)
      go None q k = absurd (cc)
      go (Some ty) q k =
          let here : type_in (S loops) x ≡ Some ty = seen_through loops x (out x ty q) ∙ first_type _ _ x ty (first_type _ _ x ty q) in
          assigned_typed types (S loops) env x ty (val types v env) (env x) suits here
          (val_typed types declared (S loops) env v ty suits (some_type (type_of types types (S loops) v) ty k))
          (suits.stands x ty here)

  -- what a condition chooses is typed, where both are
  chosen_typed : (loops : Context) (c : Expr) (env : Env) (this other : Outcome) → has_ty types types (S loops) c 0 ≡ true
      → Suits types (S loops) env → IsTypedOutcome types (S loops) this
      → IsTypedOutcome types (S loops) other
      → IsTypedOutcome types (S loops) (chosen (val types c env) this other)
  chosen_typed loops c env this other h suits y n = go (val types c env) (val_typed types declared (S loops) env c 0 suits (some_type (type_of types types (S loops) c) 0 h))
    where
      either : (b : Bool) → IsTypedOutcome types (S loops) (chosen (gives (truth b)) this other)
      either true = y
      either false = n

      go : (m : Answer) → IsTypedAnswer types 0 m → IsTypedOutcome types (S loops) (chosen m this other)
      go (gives v) k = let b = is_truth types declared v k in subst (λ x. IsTypedOutcome types (S loops) (chosen (gives x) this other)) (sym b.1) (either b.0)
      go (faults f) k = tt
      go nothing k = absurd k

  -- the name for a value of its type, and given back
  bound_suits : (c : Context) (env : Env) (x : Name) (item : ℕ) (v : Val) → Suits types c env → HasType types v item → Suits types ((x, item) ∷ c) (with_name env x v)
  bound_suits c env x item v suits k = record { stands = λ y u h. there y u (bytes_eq x y) h; others = λ y h. none y (bytes_eq x y) h }
    where
      there : (y : Name) (u : ℕ) (b : Bool) → cond b (Some item) (type_in c y) ≡ Some u → HasValueOf types u (cond b (Some v) (env y))
      there y u true h = let same : item ≡ u = cc in subst (HasType types v) same k
      there y u false h = suits.stands y u h

      none : (y : Name) (b : Bool) → cond b (Some item) (type_in c y) ≡ None → cond b (Some v) (env y) ≡ None
      none y true h = absurd (cc)
      none y false h = suits.others y h

  given_back : (c : Context) (env next : Env) (x : Name) (item : ℕ) → Suits types c env → Suits types ((x, item) ∷ c) next → Suits types c (without x env next)
  given_back c env next x item before suits = record { stands = λ y u h. there y u h (bytes_eq x y) (suits.stands y); others = λ y h. none y h (bytes_eq x y) (suits.others y) }
    where
      there : (y : Name) (u : ℕ) → type_in c y ≡ Some u → (b : Bool) → ((w : ℕ) → cond b (Some item) (type_in c y) ≡ Some w → HasValueOf types w (next y))
          → HasValueOf types u (cond b (env y) (next y))
      there y u h true k = before.stands y u h
      there y u h false k = k u h

      none : (y : Name) → type_in c y ≡ None → (b : Bool) → (cond b (Some item) (type_in c y) ≡ None → next y ≡ None) → cond b (env y) (next y) ≡ None
      none y h true k = before.others y h
      none y h false k = k h

  turns_typed : (c : Context) (x : Name) (item : ℕ) (body : Env → Outcome) → ((env : Env) → Suits types ((x, item) ∷ c) env → IsTypedOutcome types ((x, item) ∷ c) (body env))
      → (vs : Vals) (env : Env) → IsTrue (items_are types vs item) → Suits types c env → IsTypedOutcome types c (turns body x vs env)
  turns_typed c x item body h no_item env k suits = suits
  turns_typed c x item body h (one_item v vs) env k suits =
      let parts = and_parts (is_of types v item) (items_are types vs item) k in
      go (body (with_name env x v)) (h (with_name env x v) (bound_suits c env x item v suits parts.0)) (λ next s. turns_typed c x item body h vs next parts.1 s)
    where
      go : (o : Outcome) → IsTypedOutcome types ((x, item) ∷ c) o → ((next : Env) → Suits types c next → IsTypedOutcome types c (turns body x vs next))
          → IsTypedOutcome types c (then_do o (λ next. turns body x vs (without x env next)))
      go (becomes next) s more = more (without x env next) (given_back c env next x item suits s)
      go (breaks f) s more = tt
      go nowhere s more = absurd s

  looped_typed : (loops : Context) (x : Name) (v : Expr) (ss : Stmts) (env : Env) → Suits types (S loops) env
      → ((item : ℕ) → stmts_fine types types globals a e ((x, item) ∷ loops) ss ≡ true → (next : Env) → Suits types (S ((x, item) ∷ loops)) next
      → IsTypedOutcome types (S ((x, item) ∷ loops)) (eff types ss next))
      → option_map_or (λ item. stmts_fine types types globals a e ((x, item) ∷ loops) ss) (item_in types types globals a e loops v) false ≡ true
      → IsTypedOutcome types (S loops) (looped (eff types ss) x env (val types v env))
  looped_typed loops x v ss env suits body h = typed (type_of types types (S loops) v) refl h
    where
      known : (ty item : ℕ) → item_type types ty ≡ Some item → stmts_fine types types globals a e ((x, item) ∷ loops) ss ≡ true → (m : Answer) → IsTypedAnswer types ty m
          → IsTypedOutcome types (S loops) (looped (eff types ss) x env m)
      known ty item is fine (gives w) k =
          let parts = list_typed types declared ty item w is k in
          subst (λ u. IsTypedOutcome types (S loops) (looped (eff types ss) x env (gives u))) (sym parts.1)
          (turns_typed (S loops) x item (eff types ss) (body item fine) parts.0 env parts.2 suits)
      known ty item is fine (faults f) k = tt
      known ty item is fine nothing k = absurd k

      sequence : (ty : ℕ) → type_of types types (S loops) v ≡ Some ty → (o : Option ℕ) → item_type types ty ≡ o
          → option_map_or (λ item. stmts_fine types types globals a e ((x, item) ∷ loops) ss) o false ≡ true
          → IsTypedOutcome types (S loops) (looped (eff types ss) x env (val types v env))
      sequence ty q (Some item) is k = known ty item is k (val types v env) (val_typed types declared (S loops) env v ty suits q)
      sequence ty q None is k = absurd (cc)

      typed : (o : Option ℕ) → type_of types types (S loops) v ≡ o
          → option_map_or (λ item. stmts_fine types types globals a e ((x, item) ∷ loops) ss) (option_and_then (item_type types) o) false ≡ true
          → IsTypedOutcome types (S loops) (looped (eff types ss) x env (val types v env))
      typed (Some ty) q k = sequence ty q (item_type types ty) refl k
      typed None q k = absurd (cc)

  mutual
    stmt_typed : (loops : Context) (s : Stmt) (env : Env) → AreApart loops → stmt_fine types types globals a e loops s ≡ true → Suits types (S loops) env
        → IsTypedOutcome types (S loops) (does types s env)
    stmt_typed loops (assign x v) env out h suits = assign_typed loops x v env out h suits
    stmt_typed loops (choose arms others) env out h suits =
        let parts = and_parts (arms_fine types types globals a e loops arms) (stmts_fine types types globals a e loops others) h in
        picks_typed loops arms env (eff types others env) out parts.0 suits (stmts_typed loops others env out parts.1 suits)
    stmt_typed loops (each x v ss) env out h suits =
        let there = option_map_or (λ item. stmts_fine types types globals a e ((x, item) ∷ loops) ss) (item_in types types globals a e loops v) false in
        let parts = and_parts (not (contains (taken types types globals a e loops) x)) (nat_lt (length loops) LIMITS.loops && there) h in
        let inner = and_parts (nat_lt (length loops) LIMITS.loops) there parts.1 in
        looped_typed loops x v ss env suits
        (λ item fine next s. stmts_typed ((x, item) ∷ loops) ss next (still_apart loops x item out (not_true (contains (taken types types globals a e loops) x) parts.0)) fine s)
        inner.1

    picks_typed : (loops : Context) (arms : Arms) (env : Env) (otherwise : Outcome) → AreApart loops → arms_fine types types globals a e loops arms ≡ true
        → Suits types (S loops) env → IsTypedOutcome types (S loops) otherwise
        → IsTypedOutcome types (S loops) (picks types arms env otherwise)
    picks_typed loops no_arm env otherwise out h suits k = k
    picks_typed loops (arm c ss more) env otherwise out h suits k =
        let parts = and_parts (has_ty types types (S loops) c 0) (stmts_fine types types globals a e loops ss && arms_fine types types globals a e loops more) h in
        let inner = and_parts (stmts_fine types types globals a e loops ss) (arms_fine types types globals a e loops more) parts.1 in
        chosen_typed loops c env (eff types ss env) (picks types more env otherwise) parts.0 suits (stmts_typed loops ss env out inner.0 suits)
        (picks_typed loops more env otherwise out inner.1 suits k)

    pub stmts_typed : (loops : Context) (ss : Stmts) (env : Env) → AreApart loops → stmts_fine types types globals a e loops ss ≡ true → Suits types (S loops) env
        → IsTypedOutcome types (S loops) (eff types ss env)
    stmts_typed loops stop env out h suits = suits
    stmts_typed loops (seq s ss) env out h suits =
        let parts = and_parts (stmt_fine types types globals a e loops s) (stmts_fine types types globals a e loops ss) h in
        then_typed types (S loops) (does types s env) (λ next. eff types ss next) (stmt_typed loops s env out parts.0 suits) (λ next k. stmts_typed loops ss next out parts.1 k)

  pub effect_typed : (ss : Stmts) (env : Env) → stmts_fine types types globals a e [] ss ≡ true → Suits types (scope types types globals a e) env
      → IsTypedOutcome types (scope types types globals a e) (eff types ss env)
  effect_typed ss env h suits = stmts_typed [] ss env (λ x ty k. refl) h suits
