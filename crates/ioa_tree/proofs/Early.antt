-- What is fine over the types that are declared before is fine over all types.
use Rattle.std.proofs.Common.{◌≡◌, inl, inr, ℕ, ◌+◌, ◌==◌, Bool, true, false, cond, not, ◌&&◌, ◌||◌, nat_lt, ◌++◌, length, List, [], ◌∷◌, map, Option, Some, None, is_some, option_and_then, refl, sym, ap, ◌∙◌}
use Rattle.std.specs.Prelude.{slice_get}
use Rattle.std.specs.List.{list_any, list_all}
use Rattle.std.specs.Option.{option_map, option_map_or, option_or}
use Rattle.std.proofs.lemmas.Option.{option_and_then_some}
use Rattle.std.specs.Str.{bytes_eq}
use Rattle.std.proofs.lemmas.Bool.{and_parts, and_from, or_cases, or_left, or_right, eq-eqb}
use Rattle.std.proofs.lemmas.List.{map-append}
use Rattle.ioa_value.specs.Actions.{Name}
use Rattle.ioa_value.specs.declared.operator.Op.TheVariants.{Make}
use Rattle.ioa_value.specs.Operators.{op_type}
use Rattle.ioa_value.specs.Table.{Table, Declaration, Shape, names_in, shape_at, item_of, item_type, place_from, type_named, constant_from, constant_named}
use Rattle.ioa_value.proofs.ItemLemmas.{get_append}
use Rattle.ioa_tree.specs.Tree.{Expr, number, truth, named, parens, prefix, binary, empty, make, select, Exprs, no_expr, also, FieldTree, ConstantTree, positive, negative, truth_literal, reference, PositionTree, typed, only, EntryTree, VariableTree, ChoiceTree, exactly, any_below, ProposalTree, Stmt, assign, choose, each, Stmts, stop, seq, Arms, no_arm, arm, TransitionTree, AutomatonTree, InstanceTree, CompositionTree, SourceTree}
use Rattle.ioa_tree.specs.Meaning.{or_else}
use Rattle.ioa_value.specs.declared.limits.TheConstants.{LIMITS}
use Rattle.ioa_tree.specs.Types.{sequence_named, constant_type}
use Rattle.ioa_tree.specs.WellFormed.{Context, type_in, type_of, types_of_all, one_type, both_types, infix_type, made_type, selected_type, is_some_of, same_type, has_ty, contains, distinct, apart, is_type, typed_field, context_of, position_fields, constant_fine, position_fine, parameter_names, variable_fields, is_input, is_numbered, is_tried, formals, held, scope, scope_in, taken, item_in, local_names, fields_fine, start_fine, entry_fine, matches, one_to_one, pre_fine, choice_fine, proposal_fine, proposals_fine, all_proposed, stmt_fine, stmts_fine, arms_fine, input_fine, transition_fine, automaton_fine, is_automaton_of, instance_fine, composition_fine}
use Rattle.ioa_tree.proofs.ValTyped.{types_of_both, types_of_row, type_of_one}
use Rattle.ioa_tree.proofs.EffectTyped.{some_type}
use Rattle.ioa_tree.proofs.FineParts.{FineParts, fine_parts, EntryParts, entry_parts}
use Rattle.ioa_tree.proofs.Starts.{same_types, some_there}

-- the earlier types are the first ones of the table
pub record Begins (early types : Table) : Type 0 where
  pub more : Table
  pub whole : types ≡ early ++ more

-- ---- tests

-- the second is passed where the first is
abbrev pub Implies : Bool → Bool → Type 0
Implies a b = a ≡ true → b ≡ true

pub and_implies : (a b a' b' : Bool) → Implies a a' → Implies b b' → Implies (a && b) (a' && b')
and_implies a b a' b' f g h = let p = and_parts a b h in and_from a' b' (f p.0) (g p.1)

pub or_implies : (a b a' b' : Bool) → Implies a a' → Implies b b' → Implies (a || b) (a' || b')
or_implies a b a' b' f g h = elim (or_cases a b h) [
  | inl k ↦ or_left a' b' (f k)
  | inr k ↦ or_right a' b' (g k)
]

pub cond_implies : (c a b a' b' : Bool) → Implies a a' → Implies b b' → Implies (cond c a b) (cond c a' b')
cond_implies true a b a' b' f g h = f h
cond_implies false a b a' b' f g h = g h

pub some_implies : {X : Type 0} (f g : X → Bool) (d : Bool) (o : Option X) → ((x : X) → Implies (f x) (g x))
    → Implies (option_map_or f o d) (option_map_or g o d)
some_implies f g d (Some x) k h = k x h
some_implies f g d None k h = h

pub all_imply : {X : Type 0} (f g h : X → Bool) (xs : List X) → ((x : X) → f x ≡ true → g x ≡ true → h x ≡ true) → list_all f xs ≡ true
    → Implies (list_all g xs) (list_all h xs)
all_imply f g h [] k a b = refl
all_imply f g h (x ∷ xs) k a b =
    let p = and_parts (f x) (list_all f xs) a in
    let q = and_parts (g x) (list_all g xs) b in
    and_from (h x) (list_all h xs) (k x p.0 q.0) (all_imply f g h xs k p.1 q.1)

pub each_implies : {X : Type 0} (f g : X → Bool) (xs : List X) → ((x : X) → Implies (f x) (g x)) → Implies (list_all f xs) (list_all g xs)
each_implies f g xs k h = all_imply f f g xs (λ x a b. k x a) h h

-- ---- names

place_stays : (i : ℕ) (ns ms : List Name) (x : Name) (k : ℕ) → place_from i ns x ≡ Some k → place_from i (ns ++ ms) x ≡ Some k
place_stays i [] ms x k e = absurd (cc)
place_stays i (n ∷ ns) ms x k e = go (bytes_eq n x) e (place_stays (i + 1) ns ms x k)
  where
    go : (b : Bool) → cond b (Some i) (place_from (i + 1) ns x) ≡ Some k → (place_from (i + 1) ns x ≡ Some k → place_from (i + 1) (ns ++ ms) x ≡ Some k)
        → cond b (Some i) (place_from (i + 1) (ns ++ ms) x) ≡ Some k
    go true e rest = e
    go false e rest = rest e

first_stays : (i : ℕ) (early more : Table) (x : Name) (p : ℕ × ℕ) → constant_from i early x ≡ Some p → constant_from i (early ++ more) x ≡ Some p
first_stays i [] more x p e = absurd (cc)
first_stays i (d ∷ ds) more x p e = go (option_map (λ n. (i, n)) (place_from 0 (names_in d.shape) x)) e (first_stays (i + 1) ds more x p)
  where
    go : (o : Option (ℕ × ℕ)) → option_or o (constant_from (i + 1) ds x) ≡ Some p
        → (constant_from (i + 1) ds x ≡ Some p → constant_from (i + 1) (ds ++ more) x ≡ Some p) → option_or o (constant_from (i + 1) (ds ++ more) x) ≡ Some p
    go (Some q) e rest = e
    go None e rest = rest e

module _ (types early : Table) (begins : Begins early types) where
  -- a type has its number in the whole table
  pub type_stays : (x : Name) (k : ℕ) → type_named early x ≡ Some k → type_named types x ≡ Some k
  type_stays x k e =
      ap (λ t. type_named t x) begins.whole ∙ ap (λ l. place_from 0 l x) (map-append (λ d. d.name) early begins.more)
      ∙ place_stays 0 (map (λ d. d.name) early) (map (λ d. d.name) begins.more) x k e

  pub constant_stays : (x : Name) (p : ℕ × ℕ) → constant_named early x ≡ Some p → constant_named types x ≡ Some p
  constant_stays x p e = ap (λ t. constant_named t x) begins.whole ∙ first_stays 0 early begins.more x p e

  pub shape_stays : (ty : ℕ) (s : Shape) → shape_at early ty ≡ Some s → shape_at types ty ≡ Some s
  shape_stays ty s e = go (slice_get early ty) refl e
    where
      go : (o : Option Declaration) → slice_get early ty ≡ o → option_map (λ d. d.shape) o ≡ Some s → shape_at types ty ≡ Some s
      go (Some d) at e = ap (λ t. shape_at t ty) begins.whole ∙ ap (option_map (λ d. d.shape)) (get_append early begins.more ty d at) ∙ e
      go None at e = absurd (cc)

  constant_type_stays : (x : Name) (ty : ℕ) → constant_type early x ≡ Some ty → constant_type types x ≡ Some ty
  constant_type_stays x ty e = go (constant_named early x) refl e
    where
      go : (o : Option (ℕ × ℕ)) → constant_named early x ≡ o → option_map (λ p. p.0) o ≡ Some ty → constant_type types x ≡ Some ty
      go (Some p) at e = ap (option_map (λ q. q.0)) (constant_stays x p at) ∙ e
      go None at e = absurd (cc)

  item_stays : (ty of : ℕ) → item_type early ty ≡ Some of → item_type types ty ≡ Some of
  item_stays ty of e = go (shape_at early ty) refl e
    where
      go : (o : Option Shape) → shape_at early ty ≡ o → item_of o ≡ Some of → item_type types ty ≡ Some of
      go (Some s) at e = ap item_of (shape_stays ty s at) ∙ e
      go None at e = absurd (cc)

  sequence_stays : (x : Name) (ty : ℕ) → sequence_named early x ≡ Some ty → sequence_named types x ≡ Some ty
  sequence_stays x ty e = go (type_named early x) refl e
    where
      item : (s : ℕ) (o : Option ℕ) → item_type early s ≡ o → option_map (λ of. s) o ≡ Some ty → option_map (λ of. s) (item_type types s) ≡ Some ty
      item s (Some of) at e = ap (option_map (λ of. s)) (item_stays s of at) ∙ e
      item s None at e = absurd (cc)

      go : (o : Option ℕ) → type_named early x ≡ o → option_and_then (λ s. option_map (λ of. s) (item_type early s)) o ≡ Some ty
          → sequence_named types x ≡ Some ty
      go (Some s) at e = ap (option_and_then (λ s. option_map (λ of. s) (item_type types s))) (type_stays x s at) ∙ item s (item_type early s) refl e
      go None at e = absurd (cc)

  pub known_stays : (f : FieldTree) → Implies (is_type early f) (is_type types f)
  known_stays f h = let t = some_there (type_named early f.ty) h in ap (λ o. option_map_or (λ n. true) o false) (type_stays f.ty t.0 t.1)

  tried_stays : (f : FieldTree) → Implies (is_tried early f) (is_tried types f)
  tried_stays f h = go (type_named early f.ty) refl h
    where
      shaped : (ty : ℕ) (o : Option Shape) → shape_at early ty ≡ o → is_numbered o ≡ true → is_numbered (shape_at types ty) ≡ true
      shaped ty (Some s) at h = ap is_numbered (shape_stays ty s at) ∙ h
      shaped ty None at h = absurd (cc)

      go : (o : Option ℕ) → type_named early f.ty ≡ o → option_map_or (λ ty. is_numbered (shape_at early ty)) o false ≡ true → is_tried types f ≡ true
      go (Some ty) at h = ap (λ o. option_map_or (λ n. is_numbered (shape_at types n)) o false) (type_stays f.ty ty at) ∙ shaped ty (shape_at early ty) refl h
      go None at h = absurd (cc)

  field_stays : (f : FieldTree) → is_type early f ≡ true → typed_field types f ≡ typed_field early f
  field_stays f h =
      let t = some_there (type_named early f.ty) h in
      let made : Option ℕ → Context = λ o. option_map_or (λ n. (f.name, n) ∷ []) o [] in
      ap made (type_stays f.ty t.0 t.1) ∙ sym (ap made t.1)

  pub context_stays : (fs : List FieldTree) → list_all (is_type early) fs ≡ true → context_of types fs ≡ context_of early fs
  context_stays [] h = refl
  context_stays (f ∷ fs) h =
      let p = and_parts (is_type early f) (list_all (is_type early) fs) h in
      ap (λ c. c ++ context_of types fs) (field_stays f p.0) ∙ ap (λ c. typed_field early f ++ c) (context_stays fs p.1)

  constant_fine_stays : (c : Context) (k : ConstantTree) → Implies (constant_fine early c k) (constant_fine types c k)
  constant_fine_stays c (positive n) h = h
  constant_fine_stays c (negative n) h = h
  constant_fine_stays c (truth_literal b) h = h
  constant_fine_stays c (reference x) h = go (type_in c x) (constant_type early x) refl h
    where
      go : (o p : Option ℕ) → constant_type early x ≡ p → is_some (or_else o p) ≡ true → is_some (or_else o (constant_type types x)) ≡ true
      go (Some t) p at h = h
      go None (Some ty) at h = ap is_some (constant_type_stays x ty at)
      go None None at h = absurd (cc)

  position_stays : (c d : Context) → d ≡ c → (p : PositionTree) → Implies (position_fine early c p) (position_fine types d p)
  position_stays c d same (typed f) h = known_stays f h
  position_stays c d same (only k) h = ap (λ x. constant_fine types x k) same ∙ constant_fine_stays c k h

  -- ---- expressions

  made_stays : (x : Name) (tys : List ℕ) (ty : ℕ) → made_type types (type_named early x) tys ≡ Some ty → made_type types (type_named types x) tys ≡ Some ty
  made_stays x tys ty h =
      let made : ℕ → Option ℕ = λ n. op_type types (Make (record { 0 = n })) tys in
      option_and_then_some made (type_named early x) ty h (λ n named takes. ap (option_and_then made) (type_stays x n named) ∙ takes)

  mutual
    pub expr_stays : (c : Context) (e : Expr) (ty : ℕ) → type_of types early c e ≡ Some ty → type_of types types c e ≡ Some ty
    expr_stays c (number n) ty h = h
    expr_stays c (truth b) ty h = h
    expr_stays c (named x) ty h = go (type_in c x) h
      where
        go : (o : Option ℕ) → or_else o (constant_type early x) ≡ Some ty → or_else o (constant_type types x) ≡ Some ty
        go (Some t) h = h
        go None h = constant_type_stays x ty h
    expr_stays c (parens e) ty h = expr_stays c e ty h
    expr_stays c (prefix o e) ty h =
        let t = type_of_one (type_of types early c e) (op_type types o) ty h in
        ap (λ a. one_type a (op_type types o)) (expr_stays c e t.0 t.1) ∙ t.2
    expr_stays c (binary l o r) ty h =
        let t = types_of_both (type_of types early c l) (type_of types early c r) (infix_type types o) ty h in
        ap (λ a. both_types a (type_of types types c r) (infix_type types o)) (expr_stays c l t.0 t.2)
        ∙ ap (λ b. both_types (Some t.0) b (infix_type types o)) (expr_stays c r t.1 t.3) ∙ t.4
    expr_stays c (empty x) ty h = sequence_stays x ty h
    expr_stays c (make x es) ty h =
        option_and_then_some (made_type types (type_named early x)) (types_of_all types early c es) ty h
        (λ tys known takes. ap (option_and_then (made_type types (type_named types x))) (exprs_stay c es tys known) ∙ made_stays x tys ty takes)
    expr_stays c (select e x) ty h =
        option_and_then_some (selected_type types x) (type_of types early c e) ty h
        (λ a known has. ap (option_and_then (selected_type types x)) (expr_stays c e a known) ∙ has)

    exprs_stay : (c : Context) (es : Exprs) (tys : List ℕ) → types_of_all types early c es ≡ Some tys → types_of_all types types c es ≡ Some tys
    exprs_stay c no_expr tys h = h
    exprs_stay c (also e es) tys h =
        let t = types_of_row (type_of types early c e) (types_of_all types early c es) tys h in
        let row : Option (List ℕ) → Option ℕ → Option (List ℕ) = λ r s. option_and_then (λ a. option_map (λ bs. a ∷ bs) r) s in
        ap (row (types_of_all types types c es)) (expr_stays c e t.0 t.2) ∙ ap (λ r. row r (Some t.0)) (exprs_stay c es t.1 t.3) ∙ ap Some t.4

  pub has_ty_stays : (c : Context) (e : Expr) (ty : ℕ) → Implies (has_ty types early c e ty) (has_ty types types c e ty)
  has_ty_stays c e ty h = ap (λ o. is_some_of o ty) (expr_stays c e ty (some_type (type_of types early c e) ty h)) ∙ eq-eqb ty ty refl

  pub has_ty_there : (c d : Context) → d ≡ c → (e : Expr) (ty : ℕ) → Implies (has_ty types early c e ty) (has_ty types types d e ty)
  has_ty_there c d same e ty h = ap (λ x. has_ty types types x e ty) same ∙ has_ty_stays c e ty h

  -- the argument, or the start expression, has a type
  closed_stays : (c : Context) (e : Expr)
      → Implies (option_map_or (λ ty. true) (type_of types early c e) false) (option_map_or (λ ty. true) (type_of types types c e) false)
  closed_stays c e h = let t = some_there (type_of types early c e) h in ap (λ o. option_map_or (λ n. true) o false) (expr_stays c e t.0 t.1)

  -- ---- automata

  module _ (globals : List Name) (a : AutomatonTree) (fine : FineParts types early globals a) where
    variables_stay : context_of types (variable_fields a) ≡ context_of early (variable_fields a)
    variables_stay = context_stays (variable_fields a) fine.variable_types

    formals_stay : formals types types globals a ≡ formals types early globals a
    formals_stay = context_stays a.formals fine.formal_types

    held_stays : held types types globals a ≡ held types early globals a
    held_stays = ap (λ c. c ++ context_of types a.formals) variables_stay ∙ ap (λ c. context_of early (variable_fields a) ++ c) formals_stay

    start_stays : (v : VariableTree) → Implies (start_fine types early globals a v) (start_fine types types globals a v)
    start_stays v h = some_implies _ _ true v.start same h
      where
        -- the expression has the variable's type
        fits : Table → Expr → Bool
        fits t e = same_type (type_of types t (formals types t globals a) e) (type_named t v.field.ty)

        same : (e : Expr) → Implies (fits early e) (fits types e)
        same e h =
            let t = same_types (type_of types early (formals types early globals a) e) (type_named early v.field.ty) h in
            let there : type_of types types (formals types types globals a) e ≡ Some t.0 =
            ap (λ c. type_of types types c e) formals_stay ∙ expr_stays (formals types early globals a) e t.0 t.1 in
            ap (λ o. same_type o (type_named types v.field.ty)) there ∙ ap (λ o. is_some_of o t.0) (type_stays v.field.ty t.0 t.2) ∙ eq-eqb t.0 t.0 refl

    entry_stays : (e : EntryTree) → Implies (entry_fine types early globals a e) (entry_fine types types globals a e)
    entry_stays e =
        let names = parameter_names e in
        let apart_names = distinct names && apart names (globals ++ local_names types early globals a) in
        let c = formals types early globals a in
        let d = formals types types globals a in
        and_implies apart_names (list_all (position_fine early c) e.positions) apart_names (list_all (position_fine types d) e.positions)
        (λ h. h) (each_implies (position_fine early c) (position_fine types d) e.positions (position_stays c d formals_stay))

    module _ (e : EntryTree) (parts : EntryParts types early globals a e) where
      positions_stay : context_of types (position_fields e.positions) ≡ context_of early (position_fields e.positions)
      positions_stay = context_stays (position_fields e.positions) parts.position_types

      scope_stays : scope types types globals a e ≡ scope types early globals a e
      scope_stays = ap (λ c. c ++ context_of types (position_fields e.positions)) held_stays ∙ ap (λ c. held types early globals a ++ c) positions_stay

      condition_stays : (c : Expr) → Implies (has_ty types early (scope types early globals a e) c 0) (has_ty types types (scope types types globals a e) c 0)
      condition_stays c = has_ty_there (scope types early globals a e) (scope types types globals a e) scope_stays c 0

      -- the expression has the type of the name's place
      abbrev placed : Table → Context → Context → Name → Expr → Bool
      placed t c places x v = option_map_or (λ ty. has_ty types t c v ty) (type_in places x) false

      placed_stays : (c d : Context) → d ≡ c → (places : List FieldTree) → context_of types places ≡ context_of early places → (x : Name) (v : Expr)
          → Implies (placed early c (context_of early places) x v) (placed types d (context_of types places) x v)
      placed_stays c d same places there x v h =
          ap (λ k. placed types d k x v) there ∙ some_implies _ (λ ty. has_ty types types d v ty) false (type_in (context_of early places) x) (has_ty_there c d same v) h

      scope_in_stays : (loops : Context) → scope_in types types globals a e loops ≡ scope_in types early globals a e loops
      scope_in_stays loops = ap (λ c. loops ++ c) scope_stays

      condition_in_stays : (loops : Context) (c : Expr) → Implies (has_ty types early (scope_in types early globals a e loops) c 0) (has_ty types types (scope_in types types globals a e loops) c 0)
      condition_in_stays loops c = has_ty_there (scope_in types early globals a e loops) (scope_in types types globals a e loops) (scope_in_stays loops) c 0

      -- what a loop goes over is of the same items
      items_stay : (loops : Context) (v : Expr) (item : ℕ) → item_in types early globals a e loops v ≡ Some item → item_in types types globals a e loops v ≡ Some item
      items_stay loops v item h =
          option_and_then_some (item_type types) (type_of types early (scope_in types early globals a e loops) v) item h
          (λ ty known is. ap (λ c. option_and_then (item_type types) (type_of types types c v)) (scope_in_stays loops)
          ∙ ap (option_and_then (item_type types)) (expr_stays (scope_in types early globals a e loops) v ty known) ∙ is)

      -- what is done for each item is fine
      turns_stay : (f g : ℕ → Bool) (o q : Option ℕ) → ((item : ℕ) → o ≡ Some item → q ≡ Some item) → ((item : ℕ) → Implies (f item) (g item))
          → Implies (option_map_or f o false) (option_map_or g q false)
      turns_stay f g (Some item) q there k h = ap (λ o. option_map_or g o false) (there item refl) ∙ k item h
      turns_stay f g None q there k h = absurd (cc)

      mutual
        stmt_stays : (loops : Context) (s : Stmt) → Implies (stmt_fine types early globals a e loops s) (stmt_fine types types globals a e loops s)
        stmt_stays loops (assign x v) h =
            placed_stays (scope_in types early globals a e loops) (scope_in types types globals a e loops) (scope_in_stays loops) (variable_fields a) variables_stay x v h
        stmt_stays loops (choose arms others) h =
            let p = and_parts (arms_fine types early globals a e loops arms) (stmts_fine types early globals a e loops others) h in
            and_from (arms_fine types types globals a e loops arms) (stmts_fine types types globals a e loops others) (arms_stay loops arms p.0) (stmts_stay loops others p.1)
        stmt_stays loops (each x v ss) h =
            let within = nat_lt (length loops) LIMITS.loops in
            let new = not (contains (taken types types globals a e loops) x) in
            let done : Table → Bool = λ t. option_map_or (λ item. stmts_fine types t globals a e ((x, item) ∷ loops) ss) (item_in types t globals a e loops v) false in
            let p = and_parts new (within && done early) h in
            let q = and_parts within (done early) p.1 in
            and_from new (within && done types) p.0 (and_from within (done types) q.0
            (turns_stay (λ item. stmts_fine types early globals a e ((x, item) ∷ loops) ss) (λ item. stmts_fine types types globals a e ((x, item) ∷ loops) ss)
            (item_in types early globals a e loops v) (item_in types types globals a e loops v) (items_stay loops v) (λ item k. stmts_stay ((x, item) ∷ loops) ss k) q.1))

        stmts_stay : (loops : Context) (ss : Stmts) → Implies (stmts_fine types early globals a e loops ss) (stmts_fine types types globals a e loops ss)
        stmts_stay loops stop h = h
        stmts_stay loops (seq s ss) h =
            let p = and_parts (stmt_fine types early globals a e loops s) (stmts_fine types early globals a e loops ss) h in
            and_from (stmt_fine types types globals a e loops s) (stmts_fine types types globals a e loops ss) (stmt_stays loops s p.0) (stmts_stay loops ss p.1)

        arms_stay : (loops : Context) (arms : Arms) → Implies (arms_fine types early globals a e loops arms) (arms_fine types types globals a e loops arms)
        arms_stay loops no_arm h = h
        arms_stay loops (arm c ss more) h =
            let inner = stmts_fine types types globals a e loops ss && arms_fine types types globals a e loops more in
            let p = and_parts (has_ty types early (scope_in types early globals a e loops) c 0) _ h in
            let q = and_parts (stmts_fine types early globals a e loops ss) (arms_fine types early globals a e loops more) p.1 in
            and_from (has_ty types types (scope_in types types globals a e loops) c 0) inner (condition_in_stays loops c p.0)
            (and_from (stmts_fine types types globals a e loops ss) (arms_fine types types globals a e loops more) (stmts_stay loops ss q.0) (arms_stay loops more q.1))

      choice_stays : (c : ChoiceTree) (ty : ℕ) → Implies (choice_fine types early globals a c ty) (choice_fine types types globals a c ty)
      choice_stays (exactly v) ty = has_ty_there (held types early globals a) (held types types globals a) held_stays v ty
      choice_stays (any_below v) ty =
          and_implies (ty == 1) (has_ty types early (held types early globals a) v 1) (ty == 1) (has_ty types types (held types types globals a) v 1)
          (λ h. h) (has_ty_there (held types early globals a) (held types types globals a) held_stays v 1)

      proposal_stays : (p : ProposalTree) → Implies (proposal_fine types early globals a e p) (proposal_fine types types globals a e p)
      proposal_stays p h =
          ap (λ k. option_map_or (choice_fine types types globals a p.choice) (type_in k p.name) false) positions_stay
          ∙ some_implies (choice_fine types early globals a p.choice) (choice_fine types types globals a p.choice) false
          (type_in (context_of early (position_fields e.positions)) p.name) (choice_stays p.choice) h

      proposals_stay : (r : TransitionTree) → Implies (proposals_fine types early globals a e r) (proposals_fine types types globals a e r)
      proposals_stay r =
          let once = distinct (map (λ p. p.name) r.proposals) in
          and_implies (list_all (proposal_fine types early globals a e) r.proposals) once (list_all (proposal_fine types types globals a e) r.proposals) once
          (each_implies (proposal_fine types early globals a e) (proposal_fine types types globals a e) r.proposals proposal_stays) (λ h. h)

      all_stay : (r : TransitionTree) → Implies (all_proposed types early globals a e r) (all_proposed types types globals a e r)
      all_stay r =
          let given : FieldTree → Bool = λ f. contains (map (λ p. p.name) r.proposals) f.name in
          each_implies (λ f. is_tried early f || given f) (λ f. is_tried types f || given f) (position_fields e.positions)
          (λ f. or_implies (is_tried early f) (given f) (is_tried types f) (given f) (tried_stays f) (λ h. h))

      -- what an output or internal transition has before its effect
      abbrev local : Table → TransitionTree → Bool
      local t r = pre_fine types t globals a e r && proposals_fine types t globals a e r && all_proposed types t globals a e r

      local_stays : (r : TransitionTree) → Implies (local early r) (local types r)
      local_stays r =
          let start : Table → Bool = λ t. pre_fine types t globals a e r && proposals_fine types t globals a e r in
          and_implies (start early) (all_proposed types early globals a e r) (start types) (all_proposed types types globals a e r)
          (and_implies (pre_fine types early globals a e r) (proposals_fine types early globals a e r)
          (pre_fine types types globals a e r) (proposals_fine types types globals a e r) (some_implies _ _ true r.pre condition_stays) (proposals_stay r))
          (all_stay r)

      transition_stays : (r : TransitionTree) → Implies (transition_fine types early globals a e r) (transition_fine types types globals a e r)
      transition_stays r =
          let input = input_fine types types globals a r in
          and_implies (stmts_fine types early globals a e [] r.effect) (cond (is_input r.kind) input (local early r))
          (stmts_fine types types globals a e [] r.effect) (cond (is_input r.kind) input (local types r))
          (stmts_stay [] r.effect) (cond_implies (is_input r.kind) input (local early r) input (local types r) (λ h. h) (local_stays r))

    -- a transition is fine, if it is the entry's
    abbrev paired : Table → EntryTree → TransitionTree → Bool
    paired t e r = not (matches types t globals a e r) || transition_fine types t globals a e r

    pairs_stay : (e : EntryTree) → EntryParts types early globals a e
        → Implies (list_all (paired early e) a.transitions) (list_all (paired types e) a.transitions)
    pairs_stay e parts =
        each_implies (paired early e) (paired types e) a.transitions
        (λ r. or_implies (not (matches types early globals a e r)) (transition_fine types early globals a e r)
        (not (matches types types globals a e r)) (transition_fine types types globals a e r) (λ h. h) (transition_stays e parts r))

    transitions_stay : list_all (λ e. list_all (paired types e) a.transitions) a.entries ≡ true
    transitions_stay =
        all_imply (entry_fine types early globals a) (λ e. list_all (paired early e) a.transitions) (λ e. list_all (paired types e) a.transitions) a.entries
        (λ e known. pairs_stay e (entry_parts types early globals a e known)) fine.entries fine.transitions

    fields_stay : fields_fine types types globals a ≡ true
    fields_stay =
        let names = local_names types types globals a in
        let alone = distinct names && apart names globals in
        let first = and_from (distinct names) (apart names globals) fine.distinct_names fine.apart_names in
        and_from (alone && list_all (is_type types) a.formals) (list_all (is_type types) (variable_fields a))
        (and_from alone (list_all (is_type types) a.formals) first (each_implies (is_type early) (is_type types) a.formals known_stays fine.formal_types))
        (each_implies (is_type early) (is_type types) (variable_fields a) known_stays fine.variable_types)

    parts_stay : automaton_fine types types globals a ≡ true
    parts_stay =
        let starts = list_all (start_fine types types globals a) a.variables in
        let names = distinct (map (λ e. e.name) a.entries) in
        let entries = list_all (entry_fine types types globals a) a.entries in
        let pairs = list_all (λ e. list_all (paired types e) a.transitions) a.entries in
        and_from (fields_fine types types globals a && starts && names && entries && one_to_one types types globals a) pairs
        (and_from (fields_fine types types globals a && starts && names && entries) (one_to_one types types globals a)
        (and_from (fields_fine types types globals a && starts && names) entries
        (and_from (fields_fine types types globals a && starts) names
        (and_from (fields_fine types types globals a) starts fields_stay
        (each_implies (start_fine types early globals a) (start_fine types types globals a) a.variables start_stays fine.starts))
        fine.entry_names)
        (each_implies (entry_fine types early globals a) (entry_fine types types globals a) a.entries entry_stays fine.entries))
        fine.one_each) transitions_stay

  pub automaton_stays : (globals : List Name) (a : AutomatonTree) → automaton_fine types early globals a ≡ true → automaton_fine types types globals a ≡ true
  automaton_stays globals a h = parts_stay globals a (fine_parts types early globals a h)

  -- ---- components

  pub instance_stays : (before : SourceTree) (i : InstanceTree) → Implies (instance_fine types early before i) (instance_fine types types before i)
  instance_stays before i =
      let declared = list_any (is_automaton_of i.automaton) before in
      let closed : Table → Expr → Bool = λ t e. option_map_or (λ ty. true) (type_of types t [] e) false in
      and_implies declared (list_all (closed early) i.arguments) declared (list_all (closed types) i.arguments) (λ h. h)
      (each_implies (closed early) (closed types) i.arguments (closed_stays []))

  pub composition_stays : (before : SourceTree) (c : CompositionTree) → Implies (composition_fine types early before c) (composition_fine types types before c)
  composition_stays before c =
      let names = distinct (map (λ i. i.name) c.instances) && distinct c.hidden in
      and_implies names (list_all (instance_fine types early before) c.instances) names (list_all (instance_fine types types before) c.instances) (λ h. h)
      (each_implies (instance_fine types early before) (instance_fine types types before) c.instances (instance_stays before))
