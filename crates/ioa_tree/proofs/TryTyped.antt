-- What well typed proposals give fits their parameters.
use Rattle.std.proofs.Common.{◌≡◌, ℕ, zero, suc, ◌<◌, ◌^◌, ◌%◌, Bool, true, false, cond, not, ◌==◌, ◌||◌, nat_lt, pos, negsuc, List, [], ◌∷◌, ◌++◌, find, Option, Some, None, refl, sym, ap, subst, ◌∙◌, arith, length}
use Rattle.std.specs.List.{list_all}
use Rattle.std.specs.Option.{option_map_or}
use Rattle.std.specs.Str.{bytes_eq}
use Rattle.std.proofs.lemmas.Bool.{and_parts, and_from, eqb-true, eq-eqb}
use Rattle.std.proofs.lemmas.Bool.Decides.{nat_tests}
use Rattle.ioa_value.specs.Actions.{Name}
use Rattle.ioa_value.specs.Plain.{Val, truth, num, name, tuple, items}
use Rattle.ioa_value.specs.Operators.{Answer, gives, faults, nothing, IsTypedAnswer}
use Rattle.ioa_value.specs.Table.{Table, AreTypes, Shape, truths, numbers, names, fields, sequence, shape_at, type_named, contains, distinct}
use Rattle.ioa_value.specs.Typing.{HasType, is_name_of}
use Rattle.ioa_value.proofs.NameLemmas.{bytes_eq-sym, same_name, own_name, not_true}
use Rattle.ioa_value.proofs.TableLemmas.{stands}
use Rattle.ioa_tree.specs.Tree.{FieldTree, PositionTree, typed, only, EntryTree, ChoiceTree, exactly, any_below, ProposalTree, AutomatonTree}
use Rattle.ioa_tree.specs.Meaning.{Env, val}
use Rattle.ioa_tree.specs.Instances.{field_names, position_fields}
use Rattle.ioa_tree.specs.Proposing.{Words, Tried, tries, idle, then_try, exact, below, numbered, choice, parameter, parameters}
use Rattle.ioa_tree.specs.WellFormed.{Context, type_in, type_of, context_of, is_type, has_ty, held, choice_fine, proposal_fine}
use Rattle.ioa_tree.specs.Answers.{Suits, TryFits, ProposalsAnswer}
use Rattle.ioa_tree.proofs.ValTyped.{val_typed}
use Rattle.ioa_tree.proofs.EffectTyped.{some_type}
use Rattle.ioa_tree.proofs.Starts.{some_there}
use Rattle.ioa_tree.proofs.FineParts.{entry_parts}

less_too : (m k b : ℕ) → m < k → nat_lt k b ≡ true → nat_lt m b ≡ true
less_too m k b h l = grind (arith, nat_tests)

is_less : (m k : ℕ) → m < k → nat_lt m k ≡ true
is_less m k h = grind (arith, nat_tests)

-- ---- fields in their context

module _ (types : Table) where
  -- the field's name has the field's type
  abbrev Placed : Context → FieldTree → Type 0
  Placed c f = (ty : ℕ) × (type_named types f.ty ≡ Some ty) × (type_in c f.name ≡ Some ty)

  abbrev pub AllPlaced : Context → List FieldTree → Type 0
  AllPlaced c [] = Unit {0}
  AllPlaced c (f ∷ fs) = Placed c f × AllPlaced c fs

  -- also behind another name
  behind : (n : Name) (ty : ℕ) (c : Context) (fs : List FieldTree) → contains (field_names fs) n ≡ false → AllPlaced c fs → AllPlaced ((n, ty) ∷ c) fs
  behind n ty c [] h p = tt
  behind n ty c (f ∷ fs) h p =
      let q = both (bytes_eq f.name n) (contains (field_names fs) n) h in
      let away : bytes_eq n f.name ≡ false = bytes_eq-sym n f.name ∙ q.0 in
      ((p.0.0, p.0.1, ap (λ b. cond b (Some ty) (type_in c f.name)) away ∙ p.0.2), behind n ty c fs q.1 p.1)
    where
      both : (a b : Bool) → (a || b) ≡ false → (a ≡ false) × (b ≡ false)
      both true b h = absurd (cc)
      both false b h = (refl, h)

  with_type : (f : FieldTree) (o : Option ℕ) (n : ℕ) → o ≡ Some n → option_map_or {U = List (Name × ℕ)} (λ m. (f.name, m) ∷ []) o [] ≡ (f.name, n) ∷ []
  with_type f (Some m) n e = let q : m ≡ n = cc in rw q refl
  with_type f None n e = absurd (cc)

  pub fields_placed : (fs : List FieldTree) → distinct (field_names fs) ≡ true → list_all (is_type types) fs ≡ true → AllPlaced (context_of types fs) fs
  fields_placed [] d k = tt
  fields_placed (f ∷ fs) d k =
      let p = and_parts (not (contains (field_names fs) f.name)) (distinct (field_names fs)) d in
      let q = and_parts (is_type types f) (list_all (is_type types) fs) k in
      let t = some_there (type_named types f.ty) q.0 in
      let whole : context_of types (f ∷ fs) ≡ (f.name, t.0) ∷ context_of types fs = ap (λ c. c ++ context_of types fs) (with_type f (type_named types f.ty) t.0 t.1) in
      let first : type_in ((f.name, t.0) ∷ context_of types fs) f.name ≡ Some t.0 = ap (λ b. cond b (Some t.0) (type_in (context_of types fs) f.name)) (own_name f.name) in
      subst (λ c. AllPlaced c (f ∷ fs)) (sym whole)
      ((t.0, t.1, first), behind f.name t.0 (context_of types fs) fs (not_true (contains (field_names fs) f.name) p.0) (fields_placed fs p.1 q.1))

-- ---- one parameter

module _ (types : Table) (declared : AreTypes types) where
  -- a value of the type, or nothing to try
  abbrev pub OneTyped : ℕ → Tried Val → Type 0
  OneTyped ty (tries v taken) = HasType types v ty
  OneTyped ty (idle taken) = Unit {0}

  exact_typed : (ty : ℕ) (x : Answer) (n : ℕ) → IsTypedAnswer types ty x → OneTyped ty (exact x n)
  exact_typed ty (gives v) n h = h
  exact_typed ty (faults f) n h = tt
  exact_typed ty nothing n h = tt

  module _ (words : Words) where
    below_typed : (v : Val) (n : ℕ) → HasType types v 1 → OneTyped 1 (below words v n)
    below_typed (num (pos zero)) n h = tt
    below_typed (num (pos (suc k))) n h = less_too (words n % suc k) (suc k) (2 ^ 63) (omega arith) h
    below_typed (num (negsuc k)) n h = tt
    below_typed (truth b) n h = tt
    below_typed (name ty k) n h = tt
    below_typed (tuple ty vs) n h = tt
    below_typed (items ty vs) n h = tt

    any_typed : (x : Answer) (n : ℕ) → IsTypedAnswer types 1 x → OneTyped 1 (then_try (exact x n) (below words))
    any_typed (gives v) n h = below_typed v n h
    any_typed (faults f) n h = tt
    any_typed nothing n h = tt

    numbered_typed : (ty : ℕ) (o : Option Shape) (n : ℕ) → shape_at types ty ≡ o → OneTyped ty (numbered words ty o n)
    numbered_typed ty (Some truths) n at = eq-eqb ty 0 (stands types ty truths declared at)
    numbered_typed ty (Some numbers) n at = tt
    numbered_typed ty (Some (names ns)) n at =
        let some : 0 < length ns = (stands types ty (names ns) declared at).0 in
        let less : nat_lt (words n % length ns) (length ns) ≡ true = is_less (words n % length ns) (length ns) (omega (arith, some)) in
        and_from (ty == ty) (is_name_of (shape_at types ty) (words n % length ns)) (eq-eqb ty ty refl)
        (ap (λ o. is_name_of o (words n % length ns)) at ∙ less)
    numbered_typed ty (Some (fields fs)) n at = tt
    numbered_typed ty (Some (sequence most of)) n at = tt
    numbered_typed ty None n at = tt

    module _ (globals : List Name) (a : AutomatonTree) (env : Env) (suits : Suits types (held types types globals a) env) where
      choice_typed : (c : ChoiceTree) (ty n : ℕ) → choice_fine types types globals a c ty ≡ true → OneTyped ty (choice words types env c n)
      choice_typed (exactly v) ty n h =
          exact_typed ty (val types v env) n
          (val_typed types declared (held types types globals a) env v ty suits (some_type (type_of types types (held types types globals a) v) ty h))
      choice_typed (any_below v) ty n h =
          let p = and_parts (ty == 1) (has_ty types types (held types types globals a) v 1) h in
          let int : ty ≡ 1 = eqb-true ty 1 p.0 in
          subst (λ t. OneTyped t (choice words types env (any_below v) n)) (sym int)
          (any_typed (val types v env) n
          (val_typed types declared (held types types globals a) env v 1 suits (some_type (type_of types types (held types types globals a) v) 1 p.1)))

      module _ (e : EntryTree) where
        abbrev places : Context
        places = context_of types (position_fields e.positions)

        abbrev GivenTyped : ℕ → ℕ → Tried Val → Option ProposalTree → Type 0
        GivenTyped ty n other found = OneTyped ty (option_map_or (λ p. choice words types env p.choice n) found other)

        -- what the first proposal of the name gives, or else the other
        given_typed : (ps : List ProposalTree) (f : FieldTree) (ty n : ℕ) (other : Tried Val) → list_all (proposal_fine types types globals a e) ps ≡ true
            → type_in places f.name ≡ Some ty → OneTyped ty other → GivenTyped ty n other (find (λ p. bytes_eq p.name f.name) ps)
        given_typed [] f ty n other h at o = o
        given_typed (p ∷ ps) f ty n other h at o =
            let k = and_parts (proposal_fine types types globals a e p) (list_all (proposal_fine types types globals a e) ps) h in
            go (bytes_eq p.name f.name) refl k.0 (given_typed ps f ty n other k.1 at o)
          where
            go : (b : Bool) → bytes_eq p.name f.name ≡ b → proposal_fine types types globals a e p ≡ true → GivenTyped ty n other (find (λ p. bytes_eq p.name f.name) ps)
                → GivenTyped ty n other (cond b (Some p) (find (λ p. bytes_eq p.name f.name) ps))
            go true q fine rest =
                let there : type_in places p.name ≡ Some ty = ap (type_in places) (same_name p.name f.name q) ∙ at in
                choice_typed p.choice ty n (sym (ap (λ o. option_map_or (choice_fine types types globals a p.choice) o false) there) ∙ fine)
            go false q fine rest = rest

        parameter_typed : (ps : List ProposalTree) (f : FieldTree) (ty n : ℕ) → list_all (proposal_fine types types globals a e) ps ≡ true
            → type_named types f.ty ≡ Some ty → type_in places f.name ≡ Some ty → OneTyped ty (parameter words types env ps f n)
        parameter_typed ps f ty n fine named at =
            let other : Option ℕ → Tried Val = λ o. option_map_or (λ t. numbered words t (shape_at types t) n) o (idle n) in
            given_typed ps f ty n (other (type_named types f.ty)) fine at
            (subst (λ o. OneTyped ty (other o)) (sym named) (numbered_typed ty (shape_at types ty) n refl))

        positions_typed : (ps : List ProposalTree) → list_all (proposal_fine types types globals a e) ps ≡ true
            → (qs : List PositionTree) (n : ℕ) → AllPlaced types places (position_fields qs) → TryFits types (position_fields qs) (parameters words types env ps qs n)
        positions_typed ps fine [] n h = tt
        positions_typed ps fine (typed f ∷ qs) n h =
            go (parameter words types env ps f n) (parameter_typed ps f h.0.0 n fine h.0.1 h.0.2) (λ after. positions_typed ps fine qs after h.1)
          where
            inner : (v : Val) (y : Tried (List Val)) → HasType types v h.0.0 → TryFits types (position_fields qs) y
                → TryFits types (f ∷ position_fields qs) (then_try y (λ vs. tries (v ∷ vs)))
            inner v (tries vs taken) has more = (h.0.0, h.0.1, has, more)
            inner v (idle taken) has more = tt

            go : (x : Tried Val) → OneTyped h.0.0 x → ((after : ℕ) → TryFits types (position_fields qs) (parameters words types env ps qs after))
                → TryFits types (f ∷ position_fields qs) (then_try x (λ v after. then_try (parameters words types env ps qs after) (λ vs. tries (v ∷ vs))))
            go (tries v after) has more = inner v (parameters words types env ps qs after) has (more after)
            go (idle taken) has more = tt
        positions_typed ps fine (only c ∷ qs) n h = positions_typed ps fine qs n h

pub proposals_fit : ProposalsAnswer
proposals_fit types globals a e r env words taken declared fine proposals suits =
    let parts = entry_parts types types globals a e fine in
    let each = and_parts (list_all (proposal_fine types types globals a e) r.proposals) _ proposals in
    positions_typed types declared words globals a env suits e r.proposals each.0 e.positions taken
    (fields_placed types (position_fields e.positions) parts.distinct_names parts.position_types)
