-- What the proposals of a well-formed transition keep: each has the type of its parameter, over variables and formals.
use Rattle.std.proofs.Common.{◌≡◌, ℕ, zero, suc, ◌==◌, Bool, true, false, cond, not, ◌&&◌, ◌||◌, IsTrue, List, [], ◌∷◌, ◌++◌, length, map, Option, Some, None, IsSome, refl, sym, ap, ◌∙◌, subst, arith, append-nil, if◌then◌else◌}
use Rattle.std.specs.Prelude.{slice_get}
use Rattle.std.specs.List.{list_all, list_any, find}
use Rattle.std.specs.Option.{option_map_or}
use Rattle.std.specs.Str.{bytes_eq}
use Rattle.std.proofs.lemmas.Bool.{and_parts}
use Rattle.std.proofs.lemmas.Bool.Decides.{nat_tests}
use Rattle.ioa_value.specs.Actions.{Name}
use Rattle.ioa_value.specs.Table.{Table, shape_at, type_named}
use Rattle.ioa_value.proofs.ItemLemmas.{all_at, find_at}
use Rattle.ioa_value.proofs.NameLemmas.{same_name}
use Rattle.ioa_tree.specs.Tree.{FieldTree, PositionTree, typed, only, EntryTree, ChoiceTree, exactly, any_below, expr_in, ProposalTree, TransitionTree, AutomatonTree}
use Rattle.ioa_tree.specs.Compositions.{Member}
use Rattle.ioa_tree.specs.Instances.{field_names, position_fields}
use Rattle.ioa_tree.specs.WellFormed.{Context, type_in, type_of, is_some_of, has_ty, contains, distinct, is_type, context_of, is_input, is_numbered, is_tried, held, scope, pre_fine, choice_fine, proposal_fine, proposals_fine, all_proposed, input_fine, effect_fine, transition_fine}
use Rattle.ioa_tree.proofs.FineParts.{EntryParts}
use Rattle.ioa_emit.specs.Scopes.{scope_of_proposals, proposal_for, IsKnown, IsKnownProposal, AreKnownProposals}
use Rattle.ioa_compile.proofs.Fine.{Setting, bare_setting, bare, known}
use Rattle.ioa_compile.proofs.Finds.{contains_at}
use Rattle.ioa_compile.proofs.Looks.{name_same, not_true}
use Rattle.ioa_compile.proofs.Paired.{any_seen}

abbrev pub ChoiceTyped : Table → Context → ChoiceTree → ℕ → Type 0
ChoiceTyped types c (exactly e) ty = type_of types types c e ≡ Some ty
ChoiceTyped types c (any_below e) ty = (ty ≡ 1) × (type_of types types c e ≡ Some 1)

-- where nothing is proposed, the values of the type are numbered
abbrev pub ProposalTyped : Table → Context → Option ProposalTree → ℕ → Type 0
ProposalTyped types c (Some r) ty = ChoiceTyped types c r.choice ty
ProposalTyped types c None ty = IsTrue (is_numbered (shape_at types ty))

abbrev pub ProposalsTyped : Table → Context → List ProposalTree → List PositionTree → Type 0
ProposalsTyped types c rs [] = Unit {0}
ProposalsTyped types c rs (typed f ∷ ps) = ((ty : ℕ) × (type_named types f.ty ≡ Some ty) × ProposalTyped types c (proposal_for rs f) ty) × ProposalsTyped types c rs ps
ProposalsTyped types c rs (only k ∷ ps) = ProposalsTyped types c rs ps

find_none : {X : Type 0} (p : X → Bool) (xs : List X) → find p xs ≡ None → list_any p xs ≡ false
find_none p [] e = refl
find_none {X} p (x ∷ xs) e = go (p x) e (find_none p xs)
  where
    go : (b : Bool) → cond b (Some x) (find p xs) ≡ None → (find p xs ≡ None → list_any p xs ≡ false) → (b || list_any p xs) ≡ false
    go true e r = absurd (cc)
    go false e r = r e

pub some_of : (o : Option ℕ) (ty : ℕ) → IsTrue (is_some_of o ty) → o ≡ Some ty
some_of (Some t) ty h = let same : t ≡ ty = grind (arith, nat_tests) in ap Some same
some_of None ty h = absurd (cc)

module _ (types : Table) where
  -- the context of fields of different names has each one's type
  own_type : (fs : List FieldTree) (k : ℕ) (f : FieldTree) → IsTrue (distinct (field_names fs)) → IsTrue (list_all (is_type types) fs) → slice_get fs k ≡ Some f → (ty : ℕ) × (type_named types f.ty ≡ Some ty) × (type_in (context_of types fs) f.name ≡ Some ty)
  own_type [] k f d t e = absurd (cc)
  own_type (g ∷ fs) k f d t e =
      let names = and_parts (not (contains (field_names fs) g.name)) (distinct (field_names fs)) d in
      let tests = and_parts (is_type types g) (list_all (is_type types) fs) t in
      go k e (type_named types g.ty) refl tests.0 (not_true (contains (field_names fs) g.name) names.0) (λ j x. own_type fs j f names.1 tests.1 x)
    where
      first : (n : ℕ) (o : Option ℕ) (b : Bool) → bytes_eq g.name f.name ≡ b → o ≡ Some n → type_in (option_map_or (λ n. (g.name, n) ∷ []) o [] ++ context_of types fs) f.name ≡ cond b (Some n) (type_in (context_of types fs) f.name)
      first n o b is e = rw e (rw is refl)

      go : (k : ℕ) → slice_get (g ∷ fs) k ≡ Some f → (o : Option ℕ) → type_named types g.ty ≡ o → IsTrue (option_map_or (λ n. true) o false) → contains (field_names fs) g.name ≡ false → ((j : ℕ) → slice_get fs j ≡ Some f → (ty : ℕ) × (type_named types f.ty ≡ Some ty) × (type_in (context_of types fs) f.name ≡ Some ty)) → (ty : ℕ) × (type_named types f.ty ≡ Some ty) × (type_in (context_of types (g ∷ fs)) f.name ≡ Some ty)
      go k e None is t out rest = absurd (cc)
      go zero e (Some n) is t out rest =
          let same : g ≡ f = cc in
          (n, ap (λ (h : FieldTree). type_named types h.ty) (sym same) ∙ is, first n (type_named types g.ty) true (name_same g.name f.name (ap (λ (h : FieldTree). h.name) same)) is)
      go (suc j) e (Some n) is t out rest = other (bytes_eq g.name f.name) refl
        where
          other : (b : Bool) → bytes_eq g.name f.name ≡ b → (ty : ℕ) × (type_named types f.ty ≡ Some ty) × (type_in (context_of types (g ∷ fs)) f.name ≡ Some ty)
          other true b =
              let there = contains_at (λ (h : FieldTree). h.name) fs j f e in
              let here = subst (λ (x : Name). contains (field_names fs) x ≡ true) (sym (same_name g.name f.name b)) there in
              absurd (cc)
          other false b = let r = rest j e in (r.0, r.1, first n (type_named types g.ty) false b is ∙ r.2)

module _ (types : Table) (g : List Name) (a : AutomatonTree) (e : EntryTree) (r : TransitionTree) where
  choice_typed : (k : ChoiceTree) (ty : ℕ) → IsTrue (choice_fine types types g a k ty) → ChoiceTyped types (held types types g a) k ty
  choice_typed (exactly x) ty h = some_of (type_of types types (held types types g a) x) ty h
  choice_typed (any_below x) ty h =
      let parts = and_parts (ty == 1) (has_ty types types (held types types g a) x 1) h in
      let one : ty ≡ 1 = grind (arith, nat_tests, parts.0) in
      (one, some_of (type_of types types (held types types g a) x) 1 parts.1)

  -- what is known of a parameter
  abbrev Known : FieldTree → Type 0
  Known f = (ty : ℕ) × (type_named types f.ty ≡ Some ty) × (type_in (context_of types (position_fields e.positions)) f.name ≡ Some ty) × IsTrue (is_tried types f || contains (map (λ p. p.name) r.proposals) f.name)

  module _ (each : IsTrue (list_all (proposal_fine types types g a e) r.proposals)) where
    proposal_typed : (f : FieldTree) (o : Option ProposalTree) → proposal_for r.proposals f ≡ o → (ty : ℕ) → type_named types f.ty ≡ Some ty → type_in (context_of types (position_fields e.positions)) f.name ≡ Some ty → IsTrue (is_tried types f || contains (map (λ p. p.name) r.proposals) f.name) → ProposalTyped types (held types types g a) o ty
    proposal_typed f (Some p) is ty named there tried =
        let at = find_at (λ p. bytes_eq p.name f.name) r.proposals p is in
        let fine = all_at (proposal_fine types types g a e) r.proposals at.0 p each at.1 in
        let own : type_in (context_of types (position_fields e.positions)) p.name ≡ Some ty = ap (λ (x : Name). type_in (context_of types (position_fields e.positions)) x) (same_name p.name f.name at.2) ∙ there in
        choice_typed p.choice ty (subst (λ o. IsTrue (option_map_or (choice_fine types types g a p.choice) o false)) own fine)
    proposal_typed f None is ty named there tried =
        let none : contains (map (λ p. p.name) r.proposals) f.name ≡ false = any_seen (λ (p : ProposalTree). p.name) (λ n. bytes_eq n f.name) r.proposals ∙ find_none (λ p. bytes_eq p.name f.name) r.proposals is in
        let numbered : IsTrue (is_tried types f || false) = subst (λ b. IsTrue (is_tried types f || b)) none tried in
        let by_type : IsTrue (option_map_or (λ ty. is_numbered (shape_at types ty)) (Some ty) false || false) = subst (λ o. IsTrue (option_map_or (λ ty. is_numbered (shape_at types ty)) o false || false)) named numbered in
        go (is_numbered (shape_at types ty)) by_type
      where
        go : (b : Bool) → IsTrue (b || false) → IsTrue b
        go true h = refl
        go false h = absurd (cc)

    typed_all : (ps : List PositionTree) → ((k : ℕ) (f : FieldTree) → slice_get (position_fields ps) k ≡ Some f → Known f) → ProposalsTyped types (held types types g a) r.proposals ps
    typed_all [] known = tt
    typed_all (typed f ∷ ps) known =
        let it = known 0 f refl in
        ((it.0, it.1, proposal_typed f (proposal_for r.proposals f) refl it.0 it.1 it.2 it.3), typed_all ps (λ k x h. known (suc k) x h))
    typed_all (only c ∷ ps) known = typed_all ps known

  module _ (parts : EntryParts types types g a e) where
    typed_by : IsTrue (pre_fine types types g a e r && proposals_fine types types g a e r && all_proposed types types g a e r) → ProposalsTyped types (held types types g a) r.proposals e.positions
    typed_by h =
        let p2 = and_parts (pre_fine types types g a e r && proposals_fine types types g a e r) (all_proposed types types g a e r) h in
        let p1 = and_parts (pre_fine types types g a e r) (proposals_fine types types g a e r) p2.0 in
        let each = (and_parts (list_all (proposal_fine types types g a e) r.proposals) (distinct (map (λ p. p.name) r.proposals)) p1.1).0 in
        let fs = position_fields e.positions in
        typed_all each e.positions (λ k f here.
        let own = own_type types fs k f parts.distinct_names parts.position_types here in
        (own.0, own.1, own.2, all_at (λ f. is_tried types f || contains (map (λ p. p.name) r.proposals) f.name) fs k f p2.1 here))

    -- those of a local transition
    pub proposals_typed : is_input r.kind ≡ false → IsTrue (transition_fine types types g a e r) → ProposalsTyped types (held types types g a) r.proposals e.positions
    proposals_typed local h =
        let rest = (and_parts (effect_fine types types g a e r) _ h).1 in
        typed_by (subst (λ b. IsTrue (if b then input_fine types types g a r else pre_fine types types g a e r && proposals_fine types types g a e r && all_proposed types types g a e r)) local rest)

-- ---- what proposals name is known

module _ (m : Member) (e : EntryTree) (vs ps : List ℕ) (h : Setting m e vs ps) where
  -- over the names of an entry without positions
  pub bare_typed : (rs : List ProposalTree) (qs : List PositionTree) → ProposalsTyped m.instance.types (held m.instance.types m.instance.types h.globals m.instance.automaton) rs qs → ProposalsTyped m.instance.types (scope m.instance.types m.instance.types h.globals m.instance.automaton bare) rs qs
  bare_typed rs qs t = subst (λ c. ProposalsTyped m.instance.types c rs qs) (sym (append-nil (held m.instance.types m.instance.types h.globals m.instance.automaton))) t

  proposal_known : (f : FieldTree) (o : Option ProposalTree) (ty : ℕ) → type_named m.instance.types f.ty ≡ Some ty → ProposalTyped m.instance.types (scope m.instance.types m.instance.types h.globals m.instance.automaton bare) o ty → IsKnownProposal (scope_of_proposals m) f o
  proposal_known f None ty named t = rw named refl
  proposal_known f (Some r) ty named t = go r.choice t
    where
      go : (k : ChoiceTree) → ChoiceTyped m.instance.types (scope m.instance.types m.instance.types h.globals m.instance.automaton bare) k ty → IsKnown (scope_of_proposals m) (expr_in k)
      go (exactly x) t = known m bare vs [] (bare_setting m e vs ps h) x ty t
      go (any_below x) t = known m bare vs [] (bare_setting m e vs ps h) x 1 t.1

  typed_known : (rs : List ProposalTree) (qs : List PositionTree) → ProposalsTyped m.instance.types (scope m.instance.types m.instance.types h.globals m.instance.automaton bare) rs qs → AreKnownProposals (scope_of_proposals m) rs qs
  typed_known rs [] t = tt
  typed_known rs (typed f ∷ qs) t = (proposal_known f (proposal_for rs f) t.0.0 t.0.1 t.0.2, typed_known rs qs t.1)
  typed_known rs (only c ∷ qs) t = typed_known rs qs t

  -- without proposals only the parameters' types are named
  declared_known : (qs : List PositionTree) → IsTrue (list_all (is_type m.instance.types) (position_fields qs)) → AreKnownProposals (scope_of_proposals m) [] qs
  declared_known [] t = tt
  declared_known (only c ∷ qs) t = declared_known qs t
  declared_known (typed f ∷ qs) t =
      let parts = and_parts (is_type m.instance.types f) (list_all (is_type m.instance.types) (position_fields qs)) t in
      (go (type_named m.instance.types f.ty) parts.0, declared_known qs parts.1)
    where
      go : (o : Option ℕ) → IsTrue (option_map_or (λ n. true) o false) → IsSome o
      go (Some n) t = refl
      go None t = absurd (cc)

  no_proposals : (rs : List ProposalTree) → IsTrue (length rs == 0) → rs ≡ []
  no_proposals [] t = refl
  no_proposals (r ∷ rs) t = let none : length (r ∷ rs) ≡ 0 = grind (arith, nat_tests) in absurd (omega (arith, none))

  pub known_proposals : (r : TransitionTree) → IsTrue (transition_fine m.instance.types m.instance.types h.globals m.instance.automaton e r) → AreKnownProposals (scope_of_proposals m) r.proposals e.positions
  known_proposals r fine = go (is_input r.kind) refl
    where
      go : (b : Bool) → is_input r.kind ≡ b → AreKnownProposals (scope_of_proposals m) r.proposals e.positions
      go false is =
          typed_known r.proposals e.positions (bare_typed r.proposals e.positions (proposals_typed m.instance.types h.globals m.instance.automaton e r h.entry is fine))
      go true is =
          let t = m.instance.types in
          let a = m.instance.automaton in
          let rest = (and_parts (effect_fine t t h.globals a e r) _ fine).1 in
          let none = subst (λ b. IsTrue (if b then input_fine t t h.globals a r else pre_fine t t h.globals a e r && proposals_fine t t h.globals a e r && all_proposed t t h.globals a e r)) is rest in
          let empty = (and_parts (option_map_or (λ p. false) r.pre true) (length r.proposals == 0) none).1 in
          subst (λ rs. AreKnownProposals (scope_of_proposals m) rs e.positions) (sym (no_proposals r.proposals empty)) (declared_known e.positions h.entry.position_types)
