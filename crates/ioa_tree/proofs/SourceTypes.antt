-- The types of a well formed source are types.
use Rattle.std.proofs.Common.{◌≡◌, ℕ, suc, ◌+◌, ◌<◌, ◌≤◌, Bool, true, false, cond, not, ◌&&◌, nat_le, List, [], ◌∷◌, ◌++◌, filter, length, Some, All, refl, sym, ap, subst, ◌∙◌, arith, append_assoc}
use Rattle.std.specs.List.{list_all, flat_map}
use Rattle.std.specs.Option.{option_map, option_map_or}
use Rattle.std.proofs.lemmas.Bool.{and_parts, and_from}
use Rattle.std.proofs.lemmas.Bool.Decides.{nat_tests}
use Rattle.std.proofs.lemmas.List.{length-append}
use Rattle.std.proofs.lemmas.List.Elements.{All-head, All-tail, All-cons, All-nil}
use Rattle.ioa_value.specs.Actions.{Name}
use Rattle.ioa_value.specs.Names.{IsName}
use Rattle.ioa_value.specs.Table.{Table, Declaration, TupleField, Shape, names, fields, names_in, given_names, all_names, contains, distinct, apart, basic, type_named}
use Rattle.ioa_value.specs.Table.{sequence as sequence_shape, field_names as fields_named, types_of as types_in}
use Rattle.ioa_value.specs.Table.{MayStand, MayFollow, AreTypes}
use Rattle.ioa_value.specs.Widths.{shape_width, widths}
use Rattle.ioa_value.specs.declared.limits.TheConstants.{LIMITS}
use Rattle.ioa_value.proofs.NameLemmas.{distinct-append, append-apart}
use Rattle.ioa_value.proofs.PlaceLemmas.{type_below}
use Rattle.ioa_value.proofs.TableLemmas.{pushed, basic_types, names_pushed}
use Rattle.ioa_tree.specs.Tree.{FieldTree, FormTree, enumeration, tuple, sequence, TypeTree, InvariantTree, DeclarationTree, declared_type, automaton, composition, invariant, SourceTree}
use Rattle.ioa_tree.specs.Names.{names_of_field, names_of_form, names_of_declaration, LegalNames}
use Rattle.ioa_tree.specs.Types.{with_field, numbered, shape_of, declared, with_type, declared_from, types_of}
use Rattle.ioa_tree.specs.Instances.{field_names}
use Rattle.ioa_tree.specs.WellFormed.{is_type, constants_of, declared_names, global_names, is_type_declaration, is_counted, is_invariant, some_within, form_within, declaration_within, source_within, form_fine, type_fine, declarations_fine, types_narrow, well_formed}
use Rattle.ioa_tree.proofs.Declared.{declared_begins, declared-append, first_fine}
use Rattle.ioa_tree.proofs.FineParts.{at_most, source_parts}
use Rattle.ioa_tree.proofs.PartNames.{all_left, all_right}
use Rattle.ioa_tree.proofs.Starts.{some_there}
use Rattle.ioa_tree.proofs.WidthLemmas.{narrow_there}

-- ---- one declaration

-- the fields with their types' numbers
record Fields (types : Table) (fs : List FieldTree) (gs : List TupleField) : Type 0 where
  found : numbered types fs ≡ Some gs
  long : length gs ≡ length fs
  same : fields_named gs ≡ field_names fs
  below : All (λ t. t < length types) (types_in gs)

fields_found : (types : Table) (fs : List FieldTree) → list_all (is_type types) fs ≡ true → (gs : List TupleField) × Fields types fs gs
fields_found types [] h = ([], record { found = refl; long = refl; same = refl; below = All-nil (λ t. t < length types) })
fields_found types (f ∷ fs) h =
    let p = and_parts (is_type types f) (list_all (is_type types) fs) h in
    let first = some_there (type_named types f.ty) p.0 in
    let rest = fields_found types fs p.1 in
    let gs = rest.0 in
    let g : TupleField = record { name = f.name; ty = first.0 } in (
      g ∷ gs,
      record {
        found = ap (λ o. with_field f o (numbered types fs)) first.1 ∙ ap (with_field f (Some first.0)) rest.1.found;
        long = ap suc rest.1.long;
        same = ap (λ ns. f.name ∷ ns) rest.1.same;
        below = All-cons (λ t. t < length types) first.0 (types_in gs) (type_below types f.ty first.0 first.1) rest.1.below;
      },
    )

-- from one up to a limit
within : (limit n : ℕ) → some_within limit n ≡ true → (0 < n) × (n ≤ limit)
within limit n h = let p = and_parts (nat_le 1 n) (nat_le n limit) h in (grind (arith, nat_tests), grind (arith, nat_tests))

-- the names of fields are legal
fields_legal : (fs : List FieldTree) → All IsName (flat_map names_of_field fs) → All IsName (field_names fs)
fields_legal [] h = All-nil IsName
fields_legal (f ∷ fs) h =
    All-cons IsName f.name (field_names fs) (All-head IsName f.name (f.ty ∷ flat_map names_of_field fs) h)
    (fields_legal fs (all_right IsName (names_of_field f) (flat_map names_of_field fs) h))

-- what a fine declaration of a type adds
pub record Adds (types : Table) (form : FormTree) (shape : Shape) : Type 0 where
  pub found : shape_of types form ≡ Some shape
  pub stands : MayStand (length types) shape
  pub constants : names_in shape ≡ constants_of form

pub adds : (types : Table) (form : FormTree) → form_fine types form ≡ true → form_within LIMITS form ≡ true → All IsName (names_of_form form)
    → (shape : Shape) × Adds types form shape
adds types (enumeration ns) h w legal = (names ns, record { found = refl; stands = within LIMITS.names (length ns) w; constants = refl })
adds types (tuple fs) h w legal =
    let p = and_parts (distinct (field_names fs)) (list_all (is_type types) fs) h in
    let there = fields_found types fs p.1 in
    let gs = there.0 in
    let few = within LIMITS.fields (length fs) w in (
      fields gs,
      record {
        found = ap (option_map fields) there.1.found;
        stands = (
          omega (arith, few.0, there.1.long),
          omega (arith, few.1, there.1.long),
          there.1.below,
          subst (All IsName) (sym there.1.same) (fields_legal fs legal),
          ap distinct there.1.same ∙ p.0,
        );
        constants = refl;
      },
    )
adds types (sequence most of) h w legal =
    let t = some_there (type_named types of) h in
    let room = within LIMITS.capacity most w in (
      sequence_shape most t.0,
      record {
        found = ap (option_map (sequence_shape most)) t.1;
        stands = (room.0, room.1, type_below types of t.0 t.1);
        constants = refl;
      },
    )

-- the names that it gives are legal
given_legal : (d : TypeTree) → All IsName (d.name ∷ names_of_form d.form) → All IsName (d.name ∷ constants_of d.form)
given_legal d h =
    All-cons IsName d.name (constants_of d.form) (All-head IsName d.name (names_of_form d.form) h)
    (go d.form (All-tail IsName d.name (names_of_form d.form) h))
  where
    go : (form : FormTree) → All IsName (names_of_form form) → All IsName (constants_of form)
    go (enumeration ns) h = h
    go (tuple fs) h = All-nil IsName
    go (sequence most of) h = All-nil IsName

-- ---- widths

narrow : ℕ → Bool
narrow w = nat_le w LIMITS.words

-- ---- names

-- a name that is left out
less : (xs : List Name) (n : Name) (ys : List Name) → distinct (xs ++ n ∷ ys) ≡ true → distinct (xs ++ ys) ≡ true
less xs n ys h =
    let p = and_parts (distinct xs) (distinct (n ∷ ys) && apart (n ∷ ys) xs) (sym (distinct-append xs (n ∷ ys)) ∙ h) in
    let q = and_parts (distinct (n ∷ ys)) (apart (n ∷ ys) xs) p.1 in
    let own = and_parts (not (contains ys n)) (distinct ys) q.0 in
    let out = and_parts (not (contains xs n)) (apart ys xs) q.1 in
    distinct-append xs ys ∙ and_from (distinct xs) (distinct ys && apart ys xs) p.0 (and_from (distinct ys) (apart ys xs) own.1 out.1)

-- names in the middle are new
middle : (xs ms ys : List Name) → distinct (xs ++ (ms ++ ys)) ≡ true → (distinct ms && apart ms xs) ≡ true
middle xs ms ys h =
    let p = and_parts (distinct xs) (distinct (ms ++ ys) && apart (ms ++ ys) xs) (sym (distinct-append xs (ms ++ ys)) ∙ h) in
    let q = and_parts (distinct (ms ++ ys)) (apart (ms ++ ys) xs) p.1 in
    let own = and_parts (distinct ms) (distinct ys && apart ys ms) (sym (distinct-append ms ys) ∙ q.0) in
    let out = and_parts (apart ms xs) (apart ys xs) (sym (append-apart ms ys xs) ∙ q.1) in
    and_from (distinct ms) (apart ms xs) own.0 out.0

-- ---- all declarations

-- each type's declaration is fine over the types before it
types_fine : Table → SourceTree → Bool
types_fine types [] = true
types_fine types (declared_type d ∷ ds) = type_fine types d && types_fine (with_type types d) ds
types_fine types (automaton a ∷ ds) = types_fine types ds
types_fine types (composition c ∷ ds) = types_fine types ds
types_fine types (invariant i ∷ ds) = types_fine types ds

each_type : (types : Table) (globals : List Name) (before ds : SourceTree) → declarations_fine types globals before ds ≡ true
    → types_fine (types_of before) ds ≡ true
unfolding types_fine
each_type types globals before [] h = refl
each_type types globals before (declared_type d ∷ ds) h =
    let p = first_fine types globals before (declared_type d) ds h in
    let rest = each_type types globals (before ++ declared_type d ∷ []) ds p.1 in
    and_from (type_fine (types_of before) d) (types_fine (with_type (types_of before) d) ds) p.0
    (subst (λ t. types_fine t ds ≡ true) (declared-append basic before (declared_type d ∷ [])) rest)
each_type types globals before (automaton a ∷ ds) h =
    let p = first_fine types globals before (automaton a) ds h in
    subst (λ t. types_fine t ds ≡ true) (declared-append basic before (automaton a ∷ [])) (each_type types globals (before ++ automaton a ∷ []) ds p.1)
each_type types globals before (composition c ∷ ds) h =
    let p = first_fine types globals before (composition c) ds h in
    subst (λ t. types_fine t ds ≡ true) (declared-append basic before (composition c ∷ [])) (each_type types globals (before ++ composition c ∷ []) ds p.1)
each_type types globals before (invariant i ∷ ds) h =
    let p = first_fine types globals before (invariant i) ds h in
    subst (λ t. types_fine t ds ≡ true) (declared-append basic before (invariant i ∷ [])) (each_type types globals (before ++ invariant i ∷ []) ds p.1)

-- what declarations keep, of which none is read yet, over the types of those before them: they are not too many, and their names are new
pub record Ready (types : Table) (ds : SourceTree) : Type 0 where
  pub room : length types + length (filter is_type_declaration ds) ≤ 2 + LIMITS.types
  pub within_limits : list_all (declaration_within LIMITS) ds ≡ true
  pub legal : All IsName (flat_map names_of_declaration ds)
  pub new : distinct (all_names types ++ flat_map declared_names ds) ≡ true

pub ready : (s : SourceTree) → LegalNames s → distinct (global_names s) ≡ true → source_within LIMITS s ≡ true → Ready basic s
ready s legal new h =
    let types_few = nat_le (length (filter is_type_declaration s)) LIMITS.types in
    let others_few = nat_le (length (filter is_counted s)) LIMITS.automata in
    let invariants_few = nat_le (length (filter is_invariant s)) LIMITS.invariants in
    let parts = and_parts (types_few && others_few && invariants_few) (list_all (declaration_within LIMITS) s) h in
    let counts = and_parts (types_few && others_few) invariants_few parts.0 in
    let few = at_most (length (filter is_type_declaration s)) LIMITS.types (and_parts types_few others_few counts.0).0 in
    record { room = omega (arith, few); within_limits = parts.1; legal = legal; new = new }

module _ (types : Table) (d : TypeTree) (ds : SourceTree) (r : Ready types (declared_type d ∷ ds)) where
  own_names : All IsName (d.name ∷ names_of_form d.form)
  own_names = all_left IsName (d.name ∷ names_of_form d.form) (flat_map names_of_declaration ds) r.legal

  -- the shape that a fine declaration of a type adds
  pub added : type_fine types d ≡ true → (shape : Shape) × Adds types d.form shape
  added h =
      adds types d.form h (and_parts (declaration_within LIMITS (declared_type d)) (list_all (declaration_within LIMITS) ds) r.within_limits).0
      (All-tail IsName d.name (names_of_form d.form) own_names)

  module _ (shape : Shape) (a : Adds types d.form shape) where
    given : given_names (declared d shape) ≡ d.name ∷ constants_of d.form
    given = ap (λ ns. d.name ∷ ns) a.constants

    pub whole : with_type types d ≡ types ++ declared d shape ∷ []
    whole = ap (λ o. option_map_or (λ x. types ++ declared d x ∷ []) o types) a.found

    -- the type may follow, if its values are not too wide
    pub may_follow : shape_width (widths types) shape ≤ LIMITS.words → MayFollow types (declared d shape)
    may_follow h =
        let room = r.room in
        record {
          room = omega (arith, room);
          stands = a.stands;
          legal = subst (All IsName) (sym given) (given_legal d own_names);
          new =
              subst (λ ns. (distinct ns && apart ns (all_names types)) ≡ true) (sym given)
              (middle (all_names types) (d.name ∷ constants_of d.form) (flat_map declared_names ds) r.new);
          narrow = h;
        }

    pub ready_type : Ready (with_type types d) ds
    ready_type =
        let made : Declaration = declared d shape in
        let later = flat_map declared_names ds in
        let all : all_names (types ++ made ∷ []) ≡ all_names types ++ (d.name ∷ constants_of d.form) =
        names_pushed types made ∙ ap (λ ns. all_names types ++ ns) given in
        let room = r.room in
        let count = length-append types (made ∷ []) in
        record {
          room = subst (λ t. length t + length (filter is_type_declaration ds) ≤ 2 + LIMITS.types) (sym whole) (omega (arith, room, count));
          within_limits = (and_parts (declaration_within LIMITS (declared_type d)) (list_all (declaration_within LIMITS) ds) r.within_limits).1;
          legal = all_right IsName (d.name ∷ names_of_form d.form) (flat_map names_of_declaration ds) r.legal;
          new =
              ap (λ t. distinct (all_names t ++ later)) whole ∙ ap (λ ns. distinct (ns ++ later)) all
              ∙ ap distinct (append_assoc (all_names types) (d.name ∷ constants_of d.form) later) ∙ r.new;
        }

-- an automaton or a composition adds a name, and no type
pub ready_other : (types : Table) (d : DeclarationTree) (n : Name) (ds : SourceTree) → declared_names d ≡ n ∷ [] → is_type_declaration d ≡ false
    → Ready types (d ∷ ds) → Ready types ds
ready_other types d n ds one none r = record {
  room = subst (λ b. length types + length (cond b (d ∷ filter is_type_declaration ds) (filter is_type_declaration ds)) ≤ 2 + LIMITS.types) none r.room;
  within_limits = (and_parts (declaration_within LIMITS d) (list_all (declaration_within LIMITS) ds) r.within_limits).1;
  legal = all_right IsName (names_of_declaration d) (flat_map names_of_declaration ds) r.legal;
  new = less (all_names types) n (flat_map declared_names ds) (subst (λ ns. distinct (all_names types ++ (ns ++ flat_map declared_names ds)) ≡ true) one r.new);
}

-- an invariant adds neither a name nor a type
pub ready_invariant : (types : Table) (i : InvariantTree) (ds : SourceTree) → Ready types (invariant i ∷ ds) → Ready types ds
ready_invariant types i ds r = record {
  room = r.room;
  within_limits = r.within_limits;
  legal = all_right IsName (names_of_declaration (invariant i)) (flat_map names_of_declaration ds) r.legal;
  new = r.new;
}

grown : (types : Table) (ds : SourceTree) → AreTypes types → Ready types ds → types_fine types ds ≡ true
    → list_all narrow (widths (declared_from types ds)) ≡ true → AreTypes (declared_from types ds)
unfolding types_fine narrow
grown types [] t r h k = t
grown types (declared_type d ∷ ds) t r h k =
    let fine = and_parts (type_fine types d) (types_fine (with_type types d) ds) h in
    let a = added types d ds r fine.0 in
    let made : Declaration = declared d a.0 in
    let more : with_type types d ≡ types ++ made ∷ [] = whole types d ds r a.0 a.1 in
    let begins = declared_begins (types ++ made ∷ []) ds in
    let reached : declared_from (with_type types d) ds ≡ (types ++ made ∷ []) ++ begins.more = ap (λ t. declared_from t ds) more ∙ begins.whole in
    let test = narrow_there narrow types made begins.more (sym (ap (λ t. list_all narrow (widths t)) reached) ∙ k) in
    let width : shape_width (widths types) a.0 ≤ LIMITS.words = at_most (shape_width (widths types) a.0) LIMITS.words test in
    let now = pushed types made t (may_follow types d ds r a.0 a.1 width) in
    grown (with_type types d) ds (subst AreTypes (sym more) now) (ready_type types d ds r a.0 a.1) fine.1 k
grown types (automaton a ∷ ds) t r h k = grown types ds t (ready_other types (automaton a) a.name ds refl refl r) h k
grown types (composition c ∷ ds) t r h k = grown types ds t (ready_other types (composition c) c.name ds refl refl r) h k
grown types (invariant i ∷ ds) t r h k = grown types ds t (ready_invariant types i ds r) h k

-- the types of a well formed source, whose names are legal, are types
pub types_are : (s : SourceTree) → LegalNames s → well_formed s ≡ true → AreTypes (types_of s)
unfolding narrow
types_are s legal h =
    let p = source_parts s h in
    grown basic s basic_types (ready s legal p.distinct_names p.limits) (each_type (types_of s) (global_names s) [] s p.declarations) p.narrow

-- types that are types are narrow
pub types_narrow_of : (s : SourceTree) → AreTypes (types_of s) → types_narrow LIMITS s ≡ true
types_narrow_of s t = go (widths (types_of s)) t.narrow
  where
    go : (ws : List ℕ) → All (λ w. w ≤ LIMITS.words) ws → list_all (λ w. nat_le w LIMITS.words) ws ≡ true
    go [] h = refl
    go (w ∷ ws) h =
        let low = All-head (λ v. v ≤ LIMITS.words) w ws h in
        and_from (nat_le w LIMITS.words) (list_all (λ v. nat_le v LIMITS.words) ws) (grind (arith, nat_tests)) (go ws (All-tail (λ v. v ≤ LIMITS.words) w ws h))
