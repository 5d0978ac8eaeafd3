-- The effects of a well formed source's entries may be followed, where variables have values of their types.
use Rattle.std.proofs.Common.{◌≡◌, ◌++◌, ◌⊎◌, ◌||◌, ℕ, zero, suc, Bool, true, false, cond, inl, inr, List, [], ◌∷◌, map, Option, Some, None, refl, sym, ap, subst, ◌∙◌}
use Rattle.std.specs.Prelude.{slice_get}
use Rattle.std.specs.List.{list_all, list_any}
use Rattle.std.specs.Option.{option_map_or}
use Rattle.std.specs.Str.{bytes_eq}
use Rattle.std.proofs.lemmas.Bool.{and_parts, true≢false}
use mathlib.Core.Path.{fun_ext}
use Rattle.ioa_value.specs.Actions.{Act, Name}
use Rattle.ioa_value.specs.Plain.{Val}
use Rattle.ioa_value.specs.Table.{AreTypes, Table, contains, type_named}
use Rattle.ioa_value.specs.Typing.{HasType, is_of}
use Rattle.ioa_value.proofs.ItemLemmas.{all_at, find_at, some_at}
use Rattle.ioa_value.proofs.NameLemmas.{apart_outside, distinct_apart, outside_both, same_name}
use Rattle.ioa_tree.specs.Answers.{Suits}
use Rattle.ioa_tree.specs.Hosts.{Host, IsHost}
use Rattle.ioa_tree.specs.Instances.{Fit, Instance, entry_has, environment, field_names, parameter_values, position_fields, position_has, positions_have, state_of, transition_for, variable_names}
use Rattle.ioa_tree.specs.Meaning.{Env, or_else, over, values_of}
use Rattle.ioa_tree.specs.Names.{LegalNames}
use Rattle.ioa_tree.specs.Tree.{AutomatonTree, EntryTree, FieldTree, InstanceTree, PositionTree, SourceTree, Stmts, TransitionTree, only, stop, typed}
use Rattle.ioa_tree.specs.Types.{is_named}
use Rattle.ioa_tree.specs.WellFormed.{automaton_fine, context_of, effect_fine, entry_fine, global_names, local_names, matches, parameter_names, same_kind, scope, stmts_fine, variable_fields, well_formed}
use Rattle.ioa_tree.proofs.FineParts.{EntryParts, FineParts, entry_parts, fine_parts}
use Rattle.ioa_tree.proofs.SourceTypes.{types_are}
use Rattle.ioa_tree.proofs.Starts.{suits_of_fit}
use Rattle.ioa_crash.proofs.SpelledNames.{absent, or_none}
use Rattle.ioa_crash.specs.Rewriting.{signal_entry}
use Rattle.ioa_compose.proofs.ScopeLemmas.{suits-over}
use Rattle.ioa_compose.proofs.SourceLemmas.{named_fine}
use Rattle.ioa_compile.proofs.Fine.{transition_found}
use Rattle.ioa_compile.proofs.Fits.{variables_names}
use Rattle.ioa_compile.proofs.Looks.{or_else-assoc}
use Rattle.ioa_coverage.specs.Following.{MayFollowAll}
use Rattle.ioa_coverage.specs.Taken.{effect_for}

-- ---- parameters have values of their types, in an action that the entry has

named_type : (types : Table) (x : Name) (v : Val) → is_named types x v ≡ true → (ty : ℕ) × (type_named types x ≡ Some ty) × HasType types v ty
named_type types x v h = go (type_named types x) refl h
  where
    go : (o : Option ℕ) → type_named types x ≡ o → option_map_or (λ ty. is_of types v ty) o false ≡ true → (ty : ℕ) × (type_named types x ≡ Some ty) × HasType types v ty
    go (Some ty) e k = (ty, e, k)
    go None e k = absurd (cc)

parameters_fit : (i : Instance) (ps : List PositionTree) (vs : List Val) → positions_have i ps vs ≡ true → Fit i.types (position_fields ps) (parameter_values ps vs)
parameters_fit i [] vs h = tt
parameters_fit i (p ∷ ps) [] h = absurd (cc)
parameters_fit i (typed f ∷ ps) (v ∷ vs) h =
    let k = and_parts (is_named i.types f.ty v) (positions_have i ps vs) h in
    let t = named_type i.types f.ty v k.0 in
    (t.0, t.1, t.2, parameters_fit i ps vs k.1)
parameters_fit i (only c ∷ ps) (v ∷ vs) h = parameters_fit i ps vs (and_parts (position_has i (only c) v) (positions_have i ps vs) h).1

-- ---- the first of some values fit the first of some fields

fit_first : (types : Table) (fs gs : List FieldTree) (vs : List Val) → Fit types (fs ++ gs) vs → (us : List Val) × (ws : List Val) × (vs ≡ us ++ ws) × Fit types fs us
fit_first types [] gs vs h = ([], vs, refl, tt)
fit_first types (f ∷ fs) gs [] h = absurd h
fit_first types (f ∷ fs) gs (v ∷ vs) h =
    let k = fit_first types fs gs vs h.3 in
    (v ∷ k.0, k.1, ap (λ (xs : List Val). v ∷ xs) k.2, (h.0, h.1, h.2, k.3))

values_first : (types : Table) (fs : List FieldTree) (us ws : List Val) (x : Name) → Fit types fs us → values_of (field_names fs) (us ++ ws) x ≡ values_of (field_names fs) us x
values_first types [] us ws x h = refl
values_first types (f ∷ fs) [] ws x h = absurd h
values_first types (f ∷ fs) (u ∷ us) ws x h = ap (cond (bytes_eq f.name x) (Some u)) (values_first types fs us ws x h.3)

state_first : (types : Table) (a : AutomatonTree) (us ws : List Val) → Fit types (variable_fields a) us → state_of a (us ++ ws) ≡ state_of a us
state_first types a us ws h =
    fun_ext (λ x. ap (λ (ns : List Name). values_of ns (us ++ ws) x) (sym (variables_names a)) ∙ values_first types (variable_fields a) us ws x h
    ∙ ap (λ (ns : List Name). values_of ns us x) (variables_names a))

-- ---- what names stand for where an effect begins

swapped : (f p v : Option Val) → (v ≡ None) ⊎ ((f ≡ None) × (p ≡ None)) → or_else f (or_else p v) ≡ or_else v (or_else f p)
swapped f p v (inl e) = ap (λ o. or_else f (or_else p o)) e ∙ ap (or_else f) (or_none p) ∙ sym (ap (λ o. or_else o (or_else f p)) e)
swapped f p v (inr e) =
    ap (λ o. or_else o (or_else p v)) e.0 ∙ ap (λ o. or_else o v) e.1 ∙ sym (ap (λ o. or_else v (or_else o p)) e.0 ∙ ap (or_else v) e.1 ∙ or_none v)

module _ (types : Table) (globals : List Name) (a : AutomatonTree) (parts : FineParts types types globals a) (e : EntryTree) (entry : EntryParts types types globals a e) where
  separate : (x : Name) → (contains (variable_names a) x ≡ false) ⊎ ((contains (field_names a.formals) x ≡ false) × (contains (parameter_names e) x ≡ false))
  separate x = go (contains (variable_names a) x) refl (contains (field_names a.formals) x) refl (contains (parameter_names e) x) refl
    where
      go : (v : Bool) → contains (variable_names a) x ≡ v → (f : Bool) → contains (field_names a.formals) x ≡ f → (p : Bool) → contains (parameter_names e) x ≡ p
          → (contains (variable_names a) x ≡ false) ⊎ ((contains (field_names a.formals) x ≡ false) × (contains (parameter_names e) x ≡ false))
      go false v-is f f-is p p-is = inl v-is
      go true v-is false f-is false p-is = inr (f-is, p-is)
      go true v-is true f-is p p-is = absurd (true≢false (sym v-is ∙ distinct_apart (field_names a.formals) (variable_names a) x parts.distinct_names f-is))
      go true v-is false f-is true p-is =
          let out = apart_outside (parameter_names e) (globals ++ local_names types types globals a) x entry.apart_names p-is in
          let local = (outside_both globals (local_names types types globals a) x out).1 in
          absurd (true≢false (sym v-is ∙ (outside_both (field_names a.formals) (variable_names a) x local).1))

  module _ (args ps us : List Val) (fit : Fit types a.formals args) (given : Fit types (position_fields e.positions) ps) (held : Fit types (variable_fields a) us) where
    abbrev F : Env
    F = values_of (field_names a.formals) args

    abbrev P : Env
    P = values_of (parameter_names e) ps

    abbrev V : Env
    V = state_of a us

    in_order : over F (over P V) ≡ over (over V F) P
    in_order = fun_ext (λ x. swapped (F x) (P x) (V x) (go x (separate x)) ∙ sym (or_else-assoc (V x) (F x) (P x)))
      where
        go : (x : Name) → (contains (variable_names a) x ≡ false) ⊎ ((contains (field_names a.formals) x ≡ false) × (contains (parameter_names e) x ≡ false))
            → (V x ≡ None) ⊎ ((F x ≡ None) × (P x ≡ None))
        go x (inl k) = inl (absent (variable_names a) us x k)
        go x (inr k) = inr (absent (field_names a.formals) args x k.0, absent (parameter_names e) ps x k.1)

    suited : Suits types (scope types types globals a e) (over F (over P V))
    suited =
        let variables : Suits types (context_of types (variable_fields a)) V = subst (λ (ns : List Name). Suits types (context_of types (variable_fields a)) (values_of ns us)) (variables_names a) (suits_of_fit types (variable_fields a) us held) in
        let formals : Suits types (context_of types a.formals) F = suits_of_fit types a.formals args fit in
        let parameters : Suits types (context_of types (position_fields e.positions)) P = suits_of_fit types (position_fields e.positions) ps given in
        subst (Suits types (scope types types globals a e)) (sym in_order)
        (suits-over types (context_of types (variable_fields a) ++ context_of types a.formals) (context_of types (position_fields e.positions)) (over V F) P
        (suits-over types (context_of types (variable_fields a)) (context_of types a.formals) V F variables formals) parameters)

    pub followed : (ss : Stmts) → stmts_fine types types globals a e [] ss ≡ true → MayFollowAll types (over F (over P V)) ss
    followed ss fine = record { globals = globals; automaton = a; entry = e; loops = []; apart = λ x ty k. refl; fine = fine; suits = suited }

-- ---- the entries of hosts, and those by which they crash and recover

module _ (types : Table) (globals : List Name) (a : AutomatonTree) (parts : FineParts types types globals a) where
  entry_at : (k : ℕ) (e : EntryTree) → slice_get a.entries k ≡ Some e → EntryParts types types globals a e
  entry_at k e at = entry_parts types types globals a e (all_at (entry_fine types types globals a) a.entries k e parts.entries at)

  abbrev statements : EntryTree → Stmts
  statements e = option_map_or (λ (t : TransitionTree). t.effect) (transition_for a e) stop

  effect_at : (k : ℕ) (e : EntryTree) → slice_get a.entries k ≡ Some e → stmts_fine types types globals a e [] (statements e) ≡ true
  effect_at k e at =
      let f = transition_found types globals a parts e k at in
      let P : Option TransitionTree → Type 0 = λ o. stmts_fine types types globals a e [] (option_map_or (λ (t : TransitionTree). t.effect) o stop) ≡ true in
      subst P (sym f.found) (and_parts (effect_fine types types globals a e f.transition) _ f.fine).0

  signal_parts : (x : Name) → EntryParts types types globals a (signal_entry x)
  signal_parts x = record { distinct_names = refl; apart_names = refl; positions = refl; position_types = refl }

  -- each transition has an entry of its name
  owner_of : (x : Name) (t : TransitionTree) → transition_for a (signal_entry x) ≡ Some t → contains (map (λ (e : EntryTree). e.name) a.entries) x ≡ true
  owner_of x t found =
      let f = find_at (λ (r : TransitionTree). bytes_eq r.name x) a.transitions t found in
      let owned = (and_parts _ (list_all (λ r. list_any (λ e. matches types types globals a e r) a.entries) a.transitions) parts.one_each).1 in
      let owner = some_at (λ e. matches types types globals a e t) a.entries (all_at (λ r. list_any (λ e. matches types types globals a e r) a.entries) a.transitions f.0 t owned f.1) in
      let its_name = (and_parts (same_kind owner.0.kind t.kind) (bytes_eq owner.0.name t.name) owner.3).1 in
      named_among a.entries owner.1 owner.0 x owner.2 (subst (λ (n : Name). bytes_eq owner.0.name n ≡ true) (same_name t.name x f.2) its_name)
    where
      or_true : (b : Bool) → (b || true) ≡ true
      or_true true = refl
      or_true false = refl

      named_among : (es : List EntryTree) (i : ℕ) (e : EntryTree) (n : Name) → slice_get es i ≡ Some e → bytes_eq e.name n ≡ true → contains (map (λ (d : EntryTree). d.name) es) n ≡ true
      named_among [] i e n at is = absurd (cc)
      named_among (d ∷ ds) zero e n at is = let same : d ≡ e = cc in rw (ap (λ (y : EntryTree). bytes_eq y.name n) same ∙ is) refl
      named_among (d ∷ ds) (suc i) e n at is = rw (named_among ds i e n at is) (or_true (bytes_eq d.name n))

  signal_effect : (x : Name) → contains (map (λ (e : EntryTree). e.name) a.entries) x ≡ false → stmts_fine types types globals a (signal_entry x) [] (statements (signal_entry x)) ≡ true
  signal_effect x other = go (transition_for a (signal_entry x)) refl
    where
      go : (o : Option TransitionTree) → transition_for a (signal_entry x) ≡ o
          → stmts_fine types types globals a (signal_entry x) [] (option_map_or (λ (t : TransitionTree). t.effect) (transition_for a (signal_entry x)) stop) ≡ true
      go None is = ap (λ o. stmts_fine types types globals a (signal_entry x) [] (option_map_or (λ (t : TransitionTree). t.effect) o stop)) is
      go (Some t) is = absurd (true≢false (sym (owner_of x t is) ∙ other))

-- ---- of a host that a well formed source declares

module _ (s : SourceTree) (fine : well_formed s ≡ true) (legal : LegalNames s) (i : InstanceTree) (p : Host) (h : IsHost s i p) where
  abbrev types : Table
  types = p.instance.types

  abbrev own : AutomatonTree
  own = p.instance.automaton

  pub host_types : AreTypes p.instance.types
  host_types = subst AreTypes (sym h.types) (types_are s legal fine)

  parts : FineParts types types (global_names s) own
  parts = fine_parts types types (global_names s) own (subst (λ (t : Table). automaton_fine t t (global_names s) own ≡ true) (sym h.types) (named_fine s i.automaton own fine h.automaton))

  arguments : Fit types own.formals p.instance.arguments
  arguments = subst (λ (t : Table). Fit t own.formals p.instance.arguments) (sym h.types) h.fit

  -- in slots of the variables' types, by an action that the entry has
  by : (e : EntryTree) → EntryParts types types (global_names s) own e → stmts_fine types types (global_names s) own e [] (effect_for p e) ≡ true
      → (a : Act) (slots : List Val) (more : List FieldTree) → Fit types (variable_fields own ++ more) slots → entry_has p.instance a e ≡ true
      → MayFollowAll types (environment p.instance e a.vals (state_of own slots)) (effect_for p e)
  by e entry rules a slots more fits has =
      let f = fit_first types (variable_fields own) more slots fits in
      let held : state_of own slots ≡ state_of own f.0 = ap (state_of own) f.2 ∙ state_first types own f.0 f.1 f.3 in
      let given = parameters_fit p.instance e.positions a.vals (and_parts (bytes_eq e.name a.name) (positions_have p.instance e.positions a.vals) has).1 in
      subst (λ (st : Env). MayFollowAll types (environment p.instance e a.vals st) (effect_for p e)) (sym held)
      (followed types (global_names s) own parts e entry p.instance.arguments (parameter_values e.positions a.vals) f.0 arguments given f.3 (effect_for p e) rules)

  pub own_follows : (k : ℕ) (e : EntryTree) → slice_get p.instance.automaton.entries k ≡ Some e → (a : Act) (slots : List Val) (more : List FieldTree)
      → Fit p.instance.types (variable_fields p.instance.automaton ++ more) slots → entry_has p.instance a e ≡ true
      → MayFollowAll p.instance.types (environment p.instance e a.vals (state_of p.instance.automaton slots)) (effect_for p e)
  own_follows k e at = by e (entry_at types (global_names s) own parts k e at) (effect_at types (global_names s) own parts k e at)

  pub signal_follows : (x : Name) → contains (map (λ (e : EntryTree). e.name) p.instance.automaton.entries) x ≡ false → (a : Act) (slots : List Val) (more : List FieldTree)
      → Fit p.instance.types (variable_fields p.instance.automaton ++ more) slots → entry_has p.instance a (signal_entry x) ≡ true
      → MayFollowAll p.instance.types (environment p.instance (signal_entry x) a.vals (state_of p.instance.automaton slots)) (effect_for p (signal_entry x))
  signal_follows x other = by (signal_entry x) (signal_parts types (global_names s) own parts x) (signal_effect types (global_names s) own parts x other)
