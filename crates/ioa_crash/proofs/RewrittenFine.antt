-- The rewritten automaton is well formed again.
use Rattle.std.proofs.Common.{◌≡◌, ℕ, ◌+◌, Bool, true, false, not, cond, ◌&&◌, ◌||◌, ◌==◌, List, [], ◌∷◌, ◌++◌, map, filter, length, is_some, Option, Some, None, refl, sym, ap, subst, ◌∙◌, true≢false, codes, arith, length-append}
use Rattle.std.specs.List.{list_all, list_any, flat_map}
use Rattle.std.specs.Option.{option_map_or}
use Rattle.std.specs.Str.{bytes_eq}
use Rattle.std.proofs.lemmas.Bool.{and_parts, and_from, or_left, or_right, eq-eqb, or_parts, not_from_false}
use Rattle.std.proofs.lemmas.List.{map-append}
use Rattle.std.proofs.lemmas.List.Folds.{list_all-append, list_any-append, list_all-map}
use Rattle.std.proofs.lemmas.List.Elements.{filter-append}
use Rattle.ioa_value.specs.Actions.{Name}
use Rattle.ioa_value.specs.Table.{Table, AreTypes, type_named, contains, distinct, apart}
use Rattle.ioa_value.proofs.NameLemmas.{same_name, own_name, not_true, distinct-append, distinct_apart, outside_both, apart_outside}
use Rattle.ioa_tree.specs.declared.tree.Infix.TheVariants.{And}
use Rattle.ioa_tree.specs.Tree.{Expr, named, CrashTree, ConstantTree, positive, negative, truth_literal, reference, PositionTree, typed, only, EntryTree, VariableTree, ChoiceTree, exactly, any_below, expr_in, ProposalTree, TransitionTree, AutomatonTree}
use Rattle.ioa_tree.specs.Names.{names_of_expr, names_of_option, names_of_constant, names_of_position, names_of_entry, names_of_proposal, names_of_stmts, names_of_transition}
use Rattle.ioa_tree.specs.Types.{constant_type}
use Rattle.ioa_tree.specs.Meaning.{or_else}
use Rattle.ioa_tree.specs.Instances.{field_names, variable_names, position_fields}
use Rattle.ioa_tree.specs.WellFormed.{Context, type_in, type_of, both_types, infix_type, has_ty, is_some_of, same_type, context_of, is_type, variable_fields, same_kind, is_input, constant_fine, position_fine, parameter_names, formals, held, scope, local_names, fields_fine, start_fine, entry_fine, one_to_one, pre_fine, choice_fine, proposal_fine, proposals_fine, all_proposed, stmts_fine, effect_fine, input_fine, transition_fine, automaton_fine}
use Rattle.ioa_tree.proofs.Agreement.{all_both}
use Rattle.ioa_tree.proofs.TypeAgreement.{type_same, stmts_still}
use Rattle.ioa_tree.proofs.EffectTyped.{some_type}
use Rattle.ioa_tree.proofs.Early.{all_imply, each_implies}
use Rattle.ioa_tree.proofs.FineParts.{FineParts, entry_parts}
use Rattle.ioa_crash.specs.Rewriting.{spelled, up_name, start_name, up_variable, volatile, start_formal, only_up, guarded, signal_entry, signals, resets, crash_transition, recover_transition, rewritten}
use Rattle.ioa_crash.proofs.SpelledNames.{not_both, none_unspelled, or_false, other_way, all_of, unspelled, starts_unspelled, starts_not_up}
use Rattle.ioa_crash.proofs.SpelledTrees.{IsSpelled, parameters_spelled, Parts, parts_spelled}
use Rattle.ioa_crash.proofs.RewrittenNames.{names_of, volatile_among, formal_names, names_more}
use Rattle.ioa_crash.proofs.RewrittenEntries.{entry_names, transition_names, pairs, none_named, all_others, Apart}
use Rattle.ioa_crash.proofs.RewrittenTypes.{fields_of, bool_named, volatile_type, variables_same, formals_same, held_same, scope_same, up_variable_typed, up_typed, start_typed}

-- ---- distinct names

apart_all : (ns ms : List Name) → ((x : Name) → contains ns x ≡ true → contains ms x ≡ false) → apart ns ms ≡ true
apart_all [] ms h = refl
apart_all (n ∷ ns) ms h =
    and_from (not (contains ms n)) (apart ns ms) (not_from_false (contains ms n) (h n (or_left (bytes_eq n n) (contains ns n) (own_name n))))
    (apart_all ns ms (λ x c. h x (or_right (bytes_eq n x) (contains ns x) c)))

joined : (ns ms : List Name) → distinct ns ≡ true → distinct ms ≡ true → ((x : Name) → contains ms x ≡ true → contains ns x ≡ false) → distinct (ns ++ ms) ≡ true
joined ns ms d e h = distinct-append ns ms ∙ and_from (distinct ns) (distinct ms && apart ms ns) d (and_from (distinct ms) (apart ms ns) e (apart_all ms ns h))

both_distinct : (ns ms : List Name) → distinct (ns ++ ms) ≡ true → (distinct ns ≡ true) × (distinct ms ≡ true)
both_distinct ns ms d =
    let p = and_parts (distinct ns) (distinct ms && apart ms ns) (sym (distinct-append ns ms) ∙ d) in
    (p.0, (and_parts (distinct ms) (apart ms ns) p.1).0)

-- what is in neither part is not in the whole
pub outside : (ns ms : List Name) (x : Name) → contains ns x ≡ false → contains ms x ≡ false → contains (ns ++ ms) x ≡ false
outside ns ms x h k = list_any-append (λ n. bytes_eq n x) ns ms ∙ ap (λ b. b || contains ms x) h ∙ k

one_name : (y x : Name) → bytes_eq y x ≡ false → contains (y ∷ []) x ≡ false
one_name y x h = or_false (bytes_eq y x) ∙ h

-- the one name that a list has
only_name : (y x : Name) → contains (y ∷ []) x ≡ true → y ≡ x
only_name y x h = same_name y x (sym (or_false (bytes_eq y x)) ∙ h)

-- crash and recover are names of their own
pub signals_distinct : (n : CrashTree) (a : AutomatonTree) → Apart n a.entries → distinct (entry_names a.entries) ≡ true → distinct (entry_names (a.entries ++ signals n)) ≡ true
signals_distinct n a free d =
    ap distinct (map-append (λ (e : EntryTree). e.name) a.entries (signals n))
    ∙ joined (entry_names a.entries) (n.crash ∷ n.recover ∷ []) d
    (ap (λ b. not b && true) (one_name n.recover n.crash (other_way n.crash n.recover free.two)))
    (λ x c. go x (bytes_eq n.crash x) refl c)
  where
    go : (x : Name) (b : Bool) → bytes_eq n.crash x ≡ b → (b || contains (n.recover ∷ []) x) ≡ true → contains (entry_names a.entries) x ≡ false
    go x true e c = subst (λ (y : Name). contains (entry_names a.entries) y ≡ false) (same_name n.crash x e) free.crash
    go x false e c = subst (λ (y : Name). contains (entry_names a.entries) y ≡ false) (only_name n.recover x c) free.recover

start_apart : (ns : List Name) (x : Name) → contains ns x ≡ false → contains (map start_name ns) (start_name x) ≡ false
start_apart [] x h = refl
start_apart (n ∷ ns) x h =
    go (bytes_eq n x) (contains ns x) refl h (start_apart ns x)
  where
    go : (b c : Bool) → bytes_eq n x ≡ b → (b || c) ≡ false → (c ≡ false → contains (map start_name ns) (start_name x) ≡ false)
        → (bytes_eq n x || contains (map start_name ns) (start_name x)) ≡ false
    go true c e k more = absurd (true≢false k)
    go false c e k more = ap (λ b. b || contains (map start_name ns) (start_name x)) e ∙ more k

starts_distinct : (ns : List Name) → distinct ns ≡ true → distinct (map start_name ns) ≡ true
starts_distinct [] d = refl
starts_distinct (n ∷ ns) d =
    let p = and_parts (not (contains ns n)) (distinct ns) d in
    and_from (not (contains (map start_name ns) (start_name n))) (distinct (map start_name ns))
    (not_from_false (contains (map start_name ns) (start_name n)) (start_apart ns n (not_true (contains ns n) p.0))) (starts_distinct ns p.1)

volatile_distinct : (vs : List VariableTree) → distinct (names_of vs) ≡ true → distinct (names_of (volatile vs)) ≡ true
volatile_distinct [] d = refl
volatile_distinct (v ∷ vs) d =
    let p = and_parts (not (contains (names_of vs) v.field.name)) (distinct (names_of vs)) d in
    go v.stable (not_true (contains (names_of vs) v.field.name) p.0) (volatile_distinct vs p.1)
  where
    without : (b : Bool) → contains (names_of (volatile vs)) v.field.name ≡ b → contains (names_of vs) v.field.name ≡ false → not b ≡ true
    without true e h = not_both (contains (names_of vs) v.field.name) (volatile_among vs v.field.name e) h
    without false e h = refl

    go : (b : Bool) → contains (names_of vs) v.field.name ≡ false → distinct (names_of (volatile vs)) ≡ true → distinct (names_of (cond (not b) (v ∷ volatile vs) (volatile vs))) ≡ true
    go true h k = k
    go false h k = and_from (not (contains (names_of (volatile vs)) v.field.name)) (distinct (names_of (volatile vs))) (without (contains (names_of (volatile vs)) v.field.name) refl h) k

nothing_apart : (ns : List Name) → apart ns [] ≡ true
nothing_apart [] = refl
nothing_apart (n ∷ ns) = nothing_apart ns

-- ---- lists

both_all : {X : Type 0} (p : X → Bool) (xs ys : List X) → list_all p xs ≡ true → list_all p ys ≡ true → list_all p (xs ++ ys) ≡ true
both_all p xs ys h k = list_all-append p xs ys ∙ and_from (list_all p xs) (list_all p ys) h k

-- the tests of one list together
pub all_two : {X : Type 0} (f g : X → Bool) (xs : List X) → list_all f xs ≡ true → list_all g xs ≡ true → list_all (λ x. f x && g x) xs ≡ true
all_two f g xs h k = all_imply f g (λ x. f x && g x) xs (λ x a b. and_from (f x) (g x) a b) h k

-- ---- positions

module _ (types : Table) (c d : Context) (same : (x : Name) → spelled x ≡ true → type_in c x ≡ type_in d x) where
  constant_still : (k : ConstantTree) → list_all spelled (names_of_constant k) ≡ true → constant_fine types c k ≡ constant_fine types d k
  constant_still (positive n) s = refl
  constant_still (negative n) s = refl
  constant_still (truth_literal b) s = refl
  constant_still (reference x) s = ap (λ o. is_some (or_else o (constant_type types x))) (same x (and_parts (spelled x) true s).0)

  position_still : (p : PositionTree) → list_all spelled (names_of_position p) ≡ true → position_fine types c p ≡ position_fine types d p
  position_still (typed f) s = refl
  position_still (only k) s = constant_still k s

  positions_still : (ps : List PositionTree) → list_all spelled (flat_map names_of_position ps) ≡ true → list_all (position_fine types c) ps ≡ true → list_all (position_fine types d) ps ≡ true
  positions_still [] s h = refl
  positions_still (p ∷ ps) s h =
      let k = all_both spelled (names_of_position p) (flat_map names_of_position ps) s in
      let q = and_parts (position_fine types c p) (list_all (position_fine types c) ps) h in
      and_from (position_fine types d p) (list_all (position_fine types d) ps) (sym (position_still p k.0) ∙ q.0) (positions_still ps k.1 q.1)

module _ (types : Table) (declared : AreTypes types) (g : List Name) (n : CrashTree) (a : AutomatonTree) (names : IsSpelled a) (fine : FineParts types types g a) (free : Apart n a.entries) where
  abbrev more : AutomatonTree
  more = rewritten n a

  abbrev volatile_names : List Name
  volatile_names = names_of (volatile a.variables)

  -- ---- formals and variables

  abbrev formal_list : List Name
  formal_list = field_names a.formals ++ map start_name volatile_names

  abbrev variable_list : List Name
  variable_list = variable_names a ++ up_name ∷ []

  locals : local_names types types [] more ≡ formal_list ++ variable_list
  locals = ap (λ ns. ns ++ variable_names more) (formal_names a.formals (volatile a.variables)) ∙ ap (λ ns. formal_list ++ ns) (names_more a.variables)

  old_distinct : (distinct (field_names a.formals) ≡ true) × (distinct (variable_names a) ≡ true)
  old_distinct = both_distinct (field_names a.formals) (variable_names a) fine.distinct_names

  formal_spelled : (x : Name) → contains (field_names a.formals) x ≡ true → spelled x ≡ true
  formal_spelled x c = all_of spelled (field_names a.formals) x names.formals c

  variable_spelled : (x : Name) → contains (variable_names a) x ≡ true → spelled x ≡ true
  variable_spelled x c = all_of spelled (variable_names a) x names.variables c

  -- a spelled name is no added one
  no_formal : (x : Name) → spelled x ≡ true → contains (field_names a.formals) x ≡ false → contains formal_list x ≡ false
  no_formal x s h = outside (field_names a.formals) (map start_name volatile_names) x h (starts_unspelled volatile_names x s)

  no_variable : (x : Name) → spelled x ≡ true → contains (variable_names a) x ≡ false → contains variable_list x ≡ false
  no_variable x s h = outside (variable_names a) (up_name ∷ []) x h (one_name up_name x (unspelled (codes "up") x s))

  formals_distinct : distinct formal_list ≡ true
  formals_distinct =
      joined (field_names a.formals) (map start_name volatile_names) old_distinct.0 (starts_distinct volatile_names (volatile_distinct a.variables old_distinct.1))
      (λ x c. go x c (contains (field_names a.formals) x) refl)
    where
      go : (x : Name) → contains (map start_name volatile_names) x ≡ true → (b : Bool) → contains (field_names a.formals) x ≡ b → contains (field_names a.formals) x ≡ false
      go x c true e = not_both (contains (map start_name volatile_names) x) c (starts_unspelled volatile_names x (formal_spelled x e))
      go x c false e = e

  variables_distinct : distinct variable_list ≡ true
  variables_distinct = joined (variable_names a) (up_name ∷ []) old_distinct.1 refl (λ x c. go x c (contains (variable_names a) x) refl)
    where
      go : (x : Name) → contains (up_name ∷ []) x ≡ true → (b : Bool) → contains (variable_names a) x ≡ b → contains (variable_names a) x ≡ false
      go x c true e = not_both (contains (up_name ∷ []) x) c (one_name up_name x (unspelled (codes "up") x (variable_spelled x e)))
      go x c false e = e

  locals_distinct : distinct (formal_list ++ variable_list) ≡ true
  locals_distinct = joined formal_list variable_list formals_distinct variables_distinct (λ x c. go x c (contains (variable_names a) x) refl)
    where
      old : (x : Name) → contains (variable_names a) x ≡ true → (b : Bool) → contains (field_names a.formals) x ≡ b → contains (field_names a.formals) x ≡ false
      old x c true e = not_both (contains (variable_names a) x) c (distinct_apart (field_names a.formals) (variable_names a) x fine.distinct_names e)
      old x c false e = e

      up : (x : Name) → up_name ≡ x → contains formal_list x ≡ false
      up x e = subst (λ (y : Name). contains formal_list y ≡ false) e
          (outside (field_names a.formals) (map start_name volatile_names) up_name (none_unspelled (field_names a.formals) (codes "up") names.formals) (starts_not_up volatile_names))

      go : (x : Name) → contains variable_list x ≡ true → (b : Bool) → contains (variable_names a) x ≡ b → contains formal_list x ≡ false
      go x c true e = no_formal x (variable_spelled x e) (old x e (contains (field_names a.formals) x) refl)
      go x c false e = up x (only_name up_name x (sym (ap (λ b. b || contains (up_name ∷ []) x) e) ∙ sym (list_any-append (λ y. bytes_eq y x) (variable_names a) (up_name ∷ [])) ∙ c))

  starts_typed : (vs : List VariableTree) → list_all (is_type types) (fields_of vs) ≡ true → list_all (is_type types) (map start_formal (volatile vs)) ≡ true
  starts_typed [] h = refl
  starts_typed (v ∷ vs) h =
      let p = and_parts (is_type types v.field) (list_all (is_type types) (fields_of vs)) h in
      go v.stable p.0 (starts_typed vs p.1)
    where
      go : (b : Bool) → is_type types v.field ≡ true → list_all (is_type types) (map start_formal (volatile vs)) ≡ true
          → list_all (is_type types) (map start_formal (cond (not b) (v ∷ volatile vs) (volatile vs))) ≡ true
      go true k rest = rest
      go false k rest = and_from (is_type types v.field) (list_all (is_type types) (map start_formal (volatile vs))) k rest

  fields_still : fields_fine types types [] more ≡ true
  fields_still =
      let ns = local_names types types [] more in
      let names_apart : (distinct ns && apart ns []) ≡ true = and_from (distinct ns) (apart ns []) (ap distinct locals ∙ locals_distinct) (nothing_apart ns) in
      let formals_known : list_all (is_type types) more.formals ≡ true = both_all (is_type types) a.formals (map start_formal (volatile a.variables)) fine.formal_types (starts_typed a.variables fine.variable_types) in
      let up_known : list_all (is_type types) (up_variable.field ∷ []) ≡ true = ap (λ o. option_map_or (λ (k : ℕ). true) o false && true) (bool_named types declared) in
      let variables_known : list_all (is_type types) (variable_fields more) ≡ true =
      ap (list_all (is_type types)) (map-append (λ v. v.field) a.variables (up_variable ∷ [])) ∙ both_all (is_type types) (variable_fields a) (up_variable.field ∷ []) fine.variable_types up_known in
      and_from (distinct ns && apart ns [] && list_all (is_type types) more.formals) (list_all (is_type types) (variable_fields more))
      (and_from (distinct ns && apart ns []) (list_all (is_type types) more.formals) names_apart formals_known) variables_known

  -- ---- starts

  starts_still : list_all (start_fine types types [] more) more.variables ≡ true
  starts_still =
      both_all (start_fine types types [] more) a.variables (up_variable ∷ [])
      (all_imply (λ v. list_all spelled (names_of_option v.start)) (start_fine types types g a) (start_fine types types [] more) a.variables still names.starts fine.starts)
      (ap (λ o. same_type (Some 0) o && true) (bool_named types declared))
    where
      still : (v : VariableTree) → list_all spelled (names_of_option v.start) ≡ true → start_fine types types g a v ≡ true → start_fine types types [] more v ≡ true
      still v s h = go v.start s h
        where
          go : (o : Option Expr) → list_all spelled (names_of_option o) ≡ true
              → option_map_or (λ e. same_type (type_of types types (formals types types g a) e) (type_named types v.field.ty)) o true ≡ true
              → option_map_or (λ e. same_type (type_of types types (formals types types [] more) e) (type_named types v.field.ty)) o true ≡ true
          go None s h = refl
          go (Some e) s h =
              sym (ap (λ o. same_type o (type_named types v.field.ty))
              (type_same types types spelled (formals types types g a) (formals types types [] more) (formals_same types declared g n a names) e s)) ∙ h

  -- ---- entries

  entry_names_still : distinct (entry_names more.entries) ≡ true
  entry_names_still = signals_distinct n a free fine.entry_names

  -- a spelled name that is free stays so
  still_free : (x : Name) → spelled x ≡ true → contains (g ++ local_names types types g a) x ≡ false → contains (formal_list ++ variable_list) x ≡ false
  still_free x s h =
      let k = outside_both (field_names a.formals) (variable_names a) x (outside_both g (local_names types types g a) x h).1 in
      outside formal_list variable_list x (no_formal x s k.0) (no_variable x s k.1)

  entry_still : (e : EntryTree) → list_all spelled (names_of_entry e) ≡ true → entry_fine types types g a e ≡ true → entry_fine types types [] more e ≡ true
  entry_still e s h =
      let p = entry_parts types types g a e h in
      let ns = parameter_names e in
      let own : list_all spelled ns ≡ true = parameters_spelled e s in
      let positions = (and_parts (spelled e.name) (list_all spelled (flat_map names_of_position e.positions)) s).1 in
      let away : apart ns (formal_list ++ variable_list) ≡ true = apart_all ns (formal_list ++ variable_list) (λ x c. still_free x (all_of spelled ns x own c) (apart_outside ns (g ++ local_names types types g a) x p.apart_names c)) in
      and_from (distinct ns && apart ns ([] ++ local_names types types [] more)) (list_all (position_fine types (formals types types [] more)) e.positions)
      (and_from (distinct ns) (apart ns ([] ++ local_names types types [] more)) p.distinct_names (ap (apart ns) locals ∙ away))
      (positions_still types (formals types types g a) (formals types types [] more) (formals_same types declared g n a names) e.positions positions p.positions)

  entries_still : list_all (entry_fine types types [] more) more.entries ≡ true
  entries_still =
      both_all (entry_fine types types [] more) a.entries (signals n)
      (all_imply (λ e. list_all spelled (names_of_entry e)) (entry_fine types types g a) (entry_fine types types [] more) a.entries entry_still names.entries fine.entries) refl

  -- ---- entries and transitions, one to one

  abbrev ts : List TransitionTree
  ts = a.transitions

  abbrev added : List TransitionTree
  added = crash_transition a.variables n.crash ∷ recover_transition n.recover ∷ []

  abbrev count : EntryTree → List TransitionTree → ℕ
  count e us = length (filter (pairs e) us)

  count_both : (e : EntryTree) (us ws : List TransitionTree) → count e (us ++ ws) ≡ count e us + count e ws
  count_both e us ws = ap length (filter-append (pairs e) us ws) ∙ length-append (filter (pairs e) us) (filter (pairs e) ws)

  count_guarded : (e : EntryTree) (us : List TransitionTree) → count e (map guarded us) ≡ count e us
  count_guarded e [] = refl
  count_guarded e (u ∷ us) = go (pairs e u) (count_guarded e us)
    where
      go : (b : Bool) → count e (map guarded us) ≡ count e us
          → length (cond b (guarded u ∷ filter (pairs e) (map guarded us)) (filter (pairs e) (map guarded us))) ≡ length (cond b (u ∷ filter (pairs e) us) (filter (pairs e) us))
      go true k = omega arith
      go false k = k

  both_not : (b c : Bool) → c ≡ false → (b && c) ≡ false
  both_not true c h = h
  both_not false c h = refl

  -- a transition of another name is not the entry's
  not_paired : (e : EntryTree) (t : TransitionTree) → bytes_eq e.name t.name ≡ false → pairs e t ≡ false
  not_paired e t h = both_not (same_kind e.kind t.kind) (bytes_eq e.name t.name) h

  count_none : (e : EntryTree) (us : List TransitionTree) → contains (transition_names us) e.name ≡ false → count e us ≡ 0
  count_none e [] h = refl
  count_none e (u ∷ us) h = go (bytes_eq u.name e.name) refl h (count_none e us)
    where
      go : (b : Bool) → bytes_eq u.name e.name ≡ b → (b || contains (transition_names us) e.name) ≡ false
          → (contains (transition_names us) e.name ≡ false → count e us ≡ 0) → count e (u ∷ us) ≡ 0
      go true q k rest = absurd (true≢false k)
      go false q k rest = ap (λ b. length (cond b (u ∷ filter (pairs e) us) (filter (pairs e) us))) (not_paired e u (other_way u.name e.name q)) ∙ rest k

  owned : list_all (λ t. list_any (λ e. pairs e t) a.entries) ts ≡ true
  owned = (and_parts (list_all (λ e. count e ts == 1) a.entries) (list_all (λ t. list_any (λ e. pairs e t) a.entries) ts) fine.one_each).1

  counted : list_all (λ e. count e ts == 1) a.entries ≡ true
  counted = (and_parts (list_all (λ e. count e ts == 1) a.entries) (list_all (λ t. list_any (λ e. pairs e t) a.entries) ts) fine.one_each).0

  no_crash : contains (transition_names ts) n.crash ≡ false
  no_crash = none_named a.entries ts n.crash owned free.crash

  no_recover : contains (transition_names ts) n.recover ≡ false
  no_recover = none_named a.entries ts n.recover owned free.recover

  -- no old entry has a signal's name
  foreign_entries : list_all (λ e. not (bytes_eq e.name n.crash) && not (bytes_eq e.name n.recover)) a.entries ≡ true
  foreign_entries =
      all_two (λ (e : EntryTree). not (bytes_eq e.name n.crash)) (λ e. not (bytes_eq e.name n.recover)) a.entries
      (all_others (λ (e : EntryTree). e.name) a.entries n.crash free.crash) (all_others (λ (e : EntryTree). e.name) a.entries n.recover free.recover)

  not_signals : (e : EntryTree) → (not (bytes_eq e.name n.crash) && not (bytes_eq e.name n.recover)) ≡ true → (bytes_eq e.name n.crash ≡ false) × (bytes_eq e.name n.recover ≡ false)
  not_signals e h = let p = and_parts (not (bytes_eq e.name n.crash)) (not (bytes_eq e.name n.recover)) h in (not_true (bytes_eq e.name n.crash) p.0, not_true (bytes_eq e.name n.recover) p.1)

  whole_count : (e : EntryTree) (k m : ℕ) → count e ts ≡ k → count e added ≡ m → count e more.transitions ≡ k + m
  whole_count e k m h l = count_both e (map guarded ts) added ∙ ap (λ x. x + count e added) (count_guarded e ts ∙ h) ∙ ap (λ x. k + x) l

  added_none : (e : EntryTree) → bytes_eq e.name n.crash ≡ false → bytes_eq e.name n.recover ≡ false → count e added ≡ 0
  added_none e c r = count_none e added (ap (λ b. b || contains (n.recover ∷ []) e.name) (other_way e.name n.crash c) ∙ one_name n.recover e.name (other_way e.name n.recover r))

  old_counts : (e : EntryTree) → (not (bytes_eq e.name n.crash) && not (bytes_eq e.name n.recover)) ≡ true → (count e ts == 1) ≡ true → (count e more.transitions == 1) ≡ true
  old_counts e f h =
      let p = not_signals e f in
      let none : count e ts + 0 ≡ count e ts = omega arith in
      ap (λ k. k == 1) (whole_count e (count e ts) 0 refl (added_none e p.0 p.1) ∙ none) ∙ h

  crash_counts : count (signal_entry n.crash) more.transitions ≡ 1
  crash_counts =
      let last : count (signal_entry n.crash) added ≡ 1 =
      ap (λ b. length (cond b (crash_transition a.variables n.crash ∷ filter (pairs (signal_entry n.crash)) (recover_transition n.recover ∷ [])) (filter (pairs (signal_entry n.crash)) (recover_transition n.recover ∷ [])))) (own_name n.crash)
      ∙ ap (λ b. length (crash_transition a.variables n.crash ∷ cond b (recover_transition n.recover ∷ []) [])) free.two in
      whole_count (signal_entry n.crash) 0 1 (count_none (signal_entry n.crash) ts no_crash) last

  recover_counts : count (signal_entry n.recover) more.transitions ≡ 1
  recover_counts =
      let last : count (signal_entry n.recover) added ≡ 1 =
      ap (λ b. length (cond b (crash_transition a.variables n.crash ∷ filter (pairs (signal_entry n.recover)) (recover_transition n.recover ∷ [])) (filter (pairs (signal_entry n.recover)) (recover_transition n.recover ∷ [])))) (other_way n.crash n.recover free.two)
      ∙ ap (λ b. length (cond b (recover_transition n.recover ∷ []) [])) (own_name n.recover) in
      whole_count (signal_entry n.recover) 0 1 (count_none (signal_entry n.recover) ts no_recover) last

  counts_still : list_all (λ e. count e more.transitions == 1) more.entries ≡ true
  counts_still =
      both_all (λ e. count e more.transitions == 1) a.entries (signals n)
      (all_imply (λ e. not (bytes_eq e.name n.crash) && not (bytes_eq e.name n.recover)) (λ e. count e ts == 1) (λ e. count e more.transitions == 1) a.entries old_counts foreign_entries counted)
      (and_from (count (signal_entry n.crash) more.transitions == 1) ((count (signal_entry n.recover) more.transitions == 1) && true)
      (ap (λ k. k == 1) crash_counts) (and_from (count (signal_entry n.recover) more.transitions == 1) true (ap (λ k. k == 1) recover_counts) refl))

  owned_still : list_all (λ t. list_any (λ e. pairs e t) more.entries) more.transitions ≡ true
  owned_still =
      both_all (λ t. list_any (λ e. pairs e t) more.entries) (map guarded ts) added
      (list_all-map (λ t. list_any (λ e. pairs e t) more.entries) guarded ts ∙ each_implies (λ t. list_any (λ e. pairs e t) a.entries) (λ t. list_any (λ e. pairs e (guarded t)) more.entries) ts old owned)
      (and_from (list_any (λ e. pairs e (crash_transition a.variables n.crash)) more.entries) (list_any (λ e. pairs e (recover_transition n.recover)) more.entries && true)
      (by_signal (crash_transition a.variables n.crash) (ap (λ b. b || (bytes_eq n.recover n.crash || false)) (own_name n.crash)))
      (and_from (list_any (λ e. pairs e (recover_transition n.recover)) more.entries) true
      (by_signal (recover_transition n.recover) (or_right (bytes_eq n.crash n.recover) (bytes_eq n.recover n.recover || false) (ap (λ b. b || false) (own_name n.recover)))) refl))
    where
      old : (t : TransitionTree) → list_any (λ e. pairs e t) a.entries ≡ true → list_any (λ e. pairs e (guarded t)) more.entries ≡ true
      old t h = list_any-append (λ e. pairs e (guarded t)) a.entries (signals n) ∙ or_left (list_any (λ e. pairs e (guarded t)) a.entries) (list_any (λ e. pairs e (guarded t)) (signals n)) h

      by_signal : (t : TransitionTree) → list_any (λ e. pairs e t) (signals n) ≡ true → list_any (λ e. pairs e t) more.entries ≡ true
      by_signal t h = list_any-append (λ e. pairs e t) a.entries (signals n) ∙ or_right (list_any (λ e. pairs e t) a.entries) (list_any (λ e. pairs e t) (signals n)) h

  -- ---- transitions

  module _ (e : EntryTree) where
    -- the host's flag is a Bool
    up_bool : has_ty types types (scope types types [] more e) (named up_name) 0 ≡ true
    up_bool = ap (λ o. is_some_of (or_else o (constant_type types up_name)) 0) (up_typed types declared g n a names e)

    and_bool : (o : Option ℕ) → o ≡ Some 0 → is_some_of (both_types (or_else (type_in (scope types types [] more e) up_name) (constant_type types up_name)) o (infix_type types And)) 0 ≡ true
    and_bool o h =
        ap (λ u. is_some_of (both_types (or_else u (constant_type types up_name)) o (infix_type types And)) 0) (up_typed types declared g n a names e)
        ∙ ap (λ u. is_some_of (both_types (Some 0) u (infix_type types And)) 0) h

    pre_still : (o : Option Expr) → list_all spelled (names_of_option o) ≡ true → option_map_or (λ p. has_ty types types (scope types types g a e) p 0) o true ≡ true
        → has_ty types types (scope types types [] more e) (only_up o) 0 ≡ true
    pre_still None s h = up_bool
    pre_still (Some p) s h =
        and_bool (type_of types types (scope types types [] more e) p)
        (sym (type_same types types spelled (scope types types g a e) (scope types types [] more e) (scope_same types declared g n a names e) p s)
        ∙ some_type (type_of types types (scope types types g a e) p) 0 h)

    effect_still : (t : TransitionTree) → list_all spelled (names_of_stmts t.effect) ≡ true → effect_fine types types g a e t ≡ true → effect_fine types types [] more e (guarded t) ≡ true
    effect_still t s h =
        let inner : stmts_fine types types [] more e [] t.effect ≡ true =
        stmts_still types types g [] a more e spelled (scope_same types declared g n a names e) (variables_same types declared g n a names)
        (λ x c k. ap (λ (ns : List Name). contains ns x) locals ∙ still_free x c k) [] t.effect s h in
        ap (λ b. ((b && (stmts_fine types types [] more e [] t.effect && true)) && true) && true) up_bool ∙ ap (λ b. ((b && true) && true) && true) inner

    type_held : (v : Expr) → list_all spelled (names_of_expr v) ≡ true → type_of types types (held types types g a) v ≡ type_of types types (held types types [] more) v
    type_held v s = type_same types types spelled (held types types g a) (held types types [] more) (held_same types declared g n a names) v s

    choice_same : (c : ChoiceTree) → list_all spelled (names_of_expr (expr_in c)) ≡ true → (place : Option ℕ)
        → option_map_or (choice_fine types types g a c) place false ≡ option_map_or (choice_fine types types [] more c) place false
    choice_same (exactly v) s place = ap (λ (o : Option ℕ). option_map_or (λ ty. is_some_of o ty) place false) (type_held v s)
    choice_same (any_below v) s place = ap (λ (o : Option ℕ). option_map_or (λ ty. ty == 1 && is_some_of o 1) place false) (type_held v s)

    proposals_still : (ps : List ProposalTree) → list_all spelled (flat_map names_of_proposal ps) ≡ true → list_all (proposal_fine types types g a e) ps ≡ true
        → list_all (proposal_fine types types [] more e) ps ≡ true
    proposals_still [] s h = refl
    proposals_still (p ∷ ps) s h =
        let k = all_both spelled (names_of_proposal p) (flat_map names_of_proposal ps) s in
        let q = and_parts (proposal_fine types types g a e p) (list_all (proposal_fine types types g a e) ps) h in
        let named = (and_parts (spelled p.name) (list_all spelled (names_of_expr (expr_in p.choice))) k.0).1 in
        let same : proposal_fine types types g a e p ≡ proposal_fine types types [] more e p =
        choice_same p.choice named (type_in (context_of types (position_fields e.positions)) p.name) in
        and_from (proposal_fine types types [] more e p) (list_all (proposal_fine types types [] more e) ps) (sym same ∙ q.0) (proposals_still ps k.1 q.1)

    -- what stands before the effect
    before_still : (t : TransitionTree) → Parts t → (b : Bool) → is_input t.kind ≡ b
        → cond b (input_fine types types g a t) (pre_fine types types g a e t && proposals_fine types types g a e t && all_proposed types types g a e t) ≡ true
        → cond b (input_fine types types [] more (guarded t)) (pre_fine types types [] more e (guarded t) && proposals_fine types types [] more e (guarded t) && all_proposed types types [] more e (guarded t)) ≡ true
    before_still t s true q h = ap (λ b. option_map_or (λ (p : Expr). false) (cond b t.pre (Some (only_up t.pre))) true && (length t.proposals == 0)) q ∙ h
    before_still t s false q h =
        let p = and_parts (pre_fine types types g a e t && proposals_fine types types g a e t) (all_proposed types types g a e t) h in
        let r = and_parts (pre_fine types types g a e t) (proposals_fine types types g a e t) p.0 in
        let l = and_parts (list_all (proposal_fine types types g a e) t.proposals) (distinct (map (λ (u : ProposalTree). u.name) t.proposals)) r.1 in
        let pre : pre_fine types types [] more e (guarded t) ≡ true =
        ap (λ b. option_map_or (λ u. has_ty types types (scope types types [] more e) u 0) (cond b t.pre (Some (only_up t.pre))) true) q ∙ pre_still t.pre s.pre r.0 in
        and_from (pre_fine types types [] more e (guarded t) && proposals_fine types types [] more e (guarded t)) (all_proposed types types [] more e (guarded t))
        (and_from (pre_fine types types [] more e (guarded t)) (proposals_fine types types [] more e (guarded t)) pre
        (and_from (list_all (proposal_fine types types [] more e) t.proposals) (distinct (map (λ (u : ProposalTree). u.name) t.proposals)) (proposals_still t.proposals s.proposals l.0) l.1))
        p.1

    transition_still : (t : TransitionTree) → list_all spelled (names_of_transition t) ≡ true → transition_fine types types g a e t ≡ true → transition_fine types types [] more e (guarded t) ≡ true
    transition_still t s h =
        let p = and_parts (effect_fine types types g a e t) (cond (is_input t.kind) (input_fine types types g a t) (pre_fine types types g a e t && proposals_fine types types g a e t && all_proposed types types g a e t)) h in
        let parts = parts_spelled t s in
        and_from (effect_fine types types [] more e (guarded t)) (cond (is_input t.kind) (input_fine types types [] more (guarded t)) (pre_fine types types [] more e (guarded t) && proposals_fine types types [] more e (guarded t) && all_proposed types types [] more e (guarded t)))
        (effect_still t parts.effect p.0) (before_still t parts (is_input t.kind) refl p.1)

    abbrev tested : TransitionTree → Bool
    tested t = not (pairs e t) || transition_fine types types [] more e t

    unpaired : (t : TransitionTree) → bytes_eq e.name t.name ≡ false → tested t ≡ true
    unpaired t h = or_left (not (pairs e t)) (transition_fine types types [] more e t) (not_from_false (pairs e t) (not_paired e t h))

    paired_still : (t : TransitionTree) → list_all spelled (names_of_transition t) ≡ true → (not (pairs e t) || transition_fine types types g a e t) ≡ true → tested (guarded t) ≡ true
    paired_still t s h = go (not (pairs e t)) refl h
      where
        go : (b : Bool) → not (pairs e t) ≡ b → (b || transition_fine types types g a e t) ≡ true → (not (pairs e t) || transition_fine types types [] more e (guarded t)) ≡ true
        go true q k = or_left (not (pairs e t)) (transition_fine types types [] more e (guarded t)) q
        go false q k = or_right (not (pairs e t)) (transition_fine types types [] more e (guarded t)) (transition_still t s k)

    -- transitions of names other than the entry's
    others_tested : (us : List TransitionTree) → contains (transition_names us) e.name ≡ false → list_all tested (map guarded us) ≡ true
    others_tested [] h = refl
    others_tested (u ∷ us) h =
        let p = or_parts (bytes_eq u.name e.name) (contains (transition_names us) e.name) h in
        and_from (tested (guarded u)) (list_all tested (map guarded us)) (unpaired (guarded u) (other_way u.name e.name p.0)) (others_tested us p.1)

  old_tested : (e : EntryTree) → (not (bytes_eq e.name n.crash) && not (bytes_eq e.name n.recover)) ≡ true
      → list_all (λ t. not (pairs e t) || transition_fine types types g a e t) ts ≡ true → list_all (tested e) more.transitions ≡ true
  old_tested e f h =
      let p = not_signals e f in
      both_all (tested e) (map guarded ts) added
      (list_all-map (tested e) guarded ts
      ∙ all_imply (λ t. list_all spelled (names_of_transition t)) (λ t. not (pairs e t) || transition_fine types types g a e t) (λ t. tested e (guarded t)) ts (paired_still e) names.transitions h)
      (and_from (tested e (crash_transition a.variables n.crash)) (tested e (recover_transition n.recover) && true) (unpaired e (crash_transition a.variables n.crash) p.0)
      (and_from (tested e (recover_transition n.recover)) true (unpaired e (recover_transition n.recover) p.1) refl))

  resets_fine : (vs : List VariableTree) → ((x : Name) → contains (names_of vs) x ≡ true → contains volatile_names x ≡ true)
      → stmts_fine types types [] more (signal_entry n.crash) [] (resets vs) ≡ true
  resets_fine [] k = ap (λ o. option_map_or (λ ty. is_some_of (Some 0) ty) o false && true) (up_variable_typed types declared g n a names)
  resets_fine (v ∷ vs) k =
      let x : Name = v.field.name in
      let w = volatile_type types a.variables x old_distinct.1 fine.variable_types (k x (or_left (bytes_eq x x) (contains (names_of vs) x) (own_name x))) in
      let own : spelled x ≡ true = variable_spelled x (volatile_among a.variables x (k x (or_left (bytes_eq x x) (contains (names_of vs) x) (own_name x)))) in
      let variable : type_in (context_of types (variable_fields more)) x ≡ Some w.0 = sym (variables_same types declared g n a names x own) ∙ w.1 in
      let value : type_in (scope types types [] more (signal_entry n.crash)) (start_name x) ≡ Some w.0 = start_typed types declared g n a names (signal_entry n.crash) x w.0 w.2 in
      let here : option_map_or (λ ty. is_some_of (or_else (type_in (scope types types [] more (signal_entry n.crash)) (start_name x)) (constant_type types (start_name x))) ty) (type_in (context_of types (variable_fields more)) x) false ≡ true =
      ap (λ o. option_map_or (λ ty. is_some_of (or_else (type_in (scope types types [] more (signal_entry n.crash)) (start_name x)) (constant_type types (start_name x))) ty) o false) variable
      ∙ ap (λ o. is_some_of (or_else o (constant_type types (start_name x))) w.0) value ∙ eq-eqb w.0 w.0 refl in
      and_from _ (stmts_fine types types [] more (signal_entry n.crash) [] (resets vs)) here (resets_fine vs (λ y c. k y (or_right (bytes_eq x y) (contains (names_of vs) y) c)))

  crash_tested : list_all (tested (signal_entry n.crash)) more.transitions ≡ true
  crash_tested =
      both_all (tested (signal_entry n.crash)) (map guarded ts) added (others_tested (signal_entry n.crash) ts no_crash)
      (and_from (tested (signal_entry n.crash) (crash_transition a.variables n.crash)) (tested (signal_entry n.crash) (recover_transition n.recover) && true)
      (or_right (not (pairs (signal_entry n.crash) (crash_transition a.variables n.crash))) (transition_fine types types [] more (signal_entry n.crash) (crash_transition a.variables n.crash))
      (and_from (effect_fine types types [] more (signal_entry n.crash) (crash_transition a.variables n.crash)) true (resets_fine (volatile a.variables) (λ x c. c)) refl))
      (and_from (tested (signal_entry n.crash) (recover_transition n.recover)) true (unpaired (signal_entry n.crash) (recover_transition n.recover) free.two) refl))

  recover_fine : effect_fine types types [] more (signal_entry n.recover) (recover_transition n.recover) ≡ true
  recover_fine = ap (λ o. option_map_or (λ ty. is_some_of (Some 0) ty) o false && true) (up_variable_typed types declared g n a names)

  recover_tested : list_all (tested (signal_entry n.recover)) more.transitions ≡ true
  recover_tested =
      both_all (tested (signal_entry n.recover)) (map guarded ts) added (others_tested (signal_entry n.recover) ts no_recover)
      (and_from (tested (signal_entry n.recover) (crash_transition a.variables n.crash)) (tested (signal_entry n.recover) (recover_transition n.recover) && true)
      (unpaired (signal_entry n.recover) (crash_transition a.variables n.crash) (other_way n.crash n.recover free.two))
      (and_from (tested (signal_entry n.recover) (recover_transition n.recover)) true
      (or_right (not (pairs (signal_entry n.recover) (recover_transition n.recover))) (transition_fine types types [] more (signal_entry n.recover) (recover_transition n.recover))
      (and_from (effect_fine types types [] more (signal_entry n.recover) (recover_transition n.recover)) true recover_fine refl)) refl))

  transitions_still : list_all (λ e. list_all (tested e) more.transitions) more.entries ≡ true
  transitions_still =
      both_all (λ e. list_all (tested e) more.transitions) a.entries (signals n)
      (all_imply (λ e. not (bytes_eq e.name n.crash) && not (bytes_eq e.name n.recover)) (λ e. list_all (λ t. not (pairs e t) || transition_fine types types g a e t) ts)
      (λ e. list_all (tested e) more.transitions) a.entries old_tested foreign_entries fine.transitions)
      (and_from (list_all (tested (signal_entry n.crash)) more.transitions) (list_all (tested (signal_entry n.recover)) more.transitions && true) crash_tested
      (and_from (list_all (tested (signal_entry n.recover)) more.transitions) true recover_tested refl))

  pub rewritten_fine : automaton_fine types types [] more ≡ true
  rewritten_fine =
      let starts = list_all (start_fine types types [] more) more.variables in
      let distinct_entries = distinct (entry_names more.entries) in
      let entries = list_all (entry_fine types types [] more) more.entries in
      let fields = fields_fine types types [] more in
      let one = one_to_one types types [] more in
      and_from (fields && starts && distinct_entries && entries && one) (list_all (λ e. list_all (tested e) more.transitions) more.entries)
      (and_from (fields && starts && distinct_entries && entries) one
      (and_from (fields && starts && distinct_entries) entries
      (and_from (fields && starts) distinct_entries
      (and_from fields starts fields_still starts_still) entry_names_still) entries_still)
      (and_from (list_all (λ e. count e more.transitions == 1) more.entries) (list_all (λ t. list_any (λ e. pairs e t) more.entries) more.transitions) counts_still owned_still))
      transitions_still
