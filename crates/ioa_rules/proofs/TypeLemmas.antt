-- The table of types, as it is made from the declarations.
use Rattle.std.proofs.Common.{◌≡◌, inl, inr, map, drop, get_or, Vec, Global, ℕ, ◌+◌, ◌<◌, ◌≤◌, Bool, true, false, ◌&&◌, not, nat_le, List, [], ◌∷◌, ◌++◌, length, Option, Some, None, All, Result, Err, refl, sym, ap, subst, arith, append_assoc, append-nil, ◌∙◌}
use Rattle.std.specs.List.{list_all, flat_map}
use Rattle.std.specs.Option.{option_map, option_map_or}
use Rattle.std.specs.Result.{IsErrAnd}
use Rattle.std.proofs.lemmas.Bool.{and_parts, and_from, and_left, and_right, or_left, or_right, or_cases, not_from_false, false≢true}
use Rattle.std.proofs.lemmas.List.Elements.{All-tail}
use Rattle.std.proofs.lemmas.List.Folds.{list_all-append}
use Rattle.ioa_value.specs.Actions.{Name}
use Rattle.ioa_value.specs.Names.{IsName}
use Rattle.ioa_value.specs.Table.{Table, Declaration, TupleField, Shape, fields, basic, all_names, distinct, type_named, MayStand, MayFollow}
use Rattle.ioa_value.specs.Table.{sequence as sequence_shape}
use Rattle.ioa_value.specs.Widths.{shape_width, widths}
use Rattle.ioa_value.specs.declared.limits.TheConstants.{LIMITS}
use Rattle.std.proofs.lemmas.List.{drop_all}
use Rattle.ioa_value.proofs.ItemLemmas.{drop_item}
use Rattle.ioa_value.proofs.NameLemmas.{distinct-append}
use Rattle.ioa_value.proofs.TableLemmas.{widths_pushed}
use Rattle.ioa_lex.specs.declared.refusal.Refusal.{Refusal}
use Rattle.ioa_tree.specs.declared.tree.Declaration.{Declaration as Node}
use Rattle.ioa_tree.specs.declared.tree.Declaration.TheVariants as nodes
use Rattle.ioa_tree.specs.declared.tree.TypeDeclaration.{TypeDeclaration}
use Rattle.ioa_tree.specs.declared.tree.Field.{Field}
use Rattle.ioa_tree.specs.declared.tree.TypeForm.{TypeForm}
use Rattle.ioa_tree.specs.declared.tree.TypeForm.TheVariants.{Tuple}
use Rattle.ioa_tree.specs.Instances.{field_names}
use Rattle.ioa_tree.specs.View.{name_of, field_of, type_form_of, type_declaration_of, declaration_of, tree_of}
use Rattle.ioa_tree.specs.Names.{names_of_type, names_of_form, names_of_declaration, LegalNames}
use Rattle.ioa_tree.specs.Tree.{FieldTree, FormTree, enumeration, tuple, sequence, TypeTree, DeclarationTree, declared_type, automaton, composition, invariant, SourceTree}
use Rattle.ioa_tree.specs.Types.{with_field, numbered, shape_of, declared, with_type, declared_from, types_of}
use Rattle.ioa_tree.specs.WellFormed.{is_type, declared_names, global_names, is_type_declaration, declaration_within, source_within, form_fine, type_fine, types_narrow}
use Rattle.ioa_tree.proofs.Declared.{declared_begins}
use Rattle.ioa_tree.proofs.PartNames.{all_left}
use Rattle.ioa_tree.proofs.SourceTypes.{Ready, ready, adds, ready_type, ready_other, ready_invariant, may_follow}
use Rattle.ioa_tree.proofs.Starts.{some_there}
use Rattle.ioa_tree.proofs.WidthLemmas.{narrow_there}
use Rattle.ioa_rules.specs.Codes.{duplicate_name, too_wide, tells}
use Rattle.ioa_rules.specs.Reasons.{broken, ◌or◌, in_form, in_types}
use Rattle.ioa_rules.specs.Types.{types_fine, is_narrow, ComesNext}
use Rattle.ioa_rules.specs.Verdicts.{Says, SaysOrMemory}
use Rattle.ioa_rules.proofs.SayLemmas.{says-memory, memory-passed}
use Rattle.ioa_rules.proofs.ViewLemmas.{names-of_fields}

abbrev narrow : ℕ → Bool
narrow w = nat_le w LIMITS.words

-- ---- one declaration

-- what a fine declaration says that the type is
numbered_there : (types : Table) (fs : List FieldTree) → list_all (is_type types) fs ≡ true → (gs : List TupleField) × (numbered types fs ≡ Some gs)
numbered_there types [] h = ([], refl)
numbered_there types (f ∷ fs) h =
    let p = and_parts (is_type types f) (list_all (is_type types) fs) h in
    let first = some_there (type_named types f.ty) p.0 in
    let rest = numbered_there types fs p.1 in
    (record { name = f.name; ty = first.0 } ∷ rest.0, ap (λ o. with_field f o (numbered types fs)) first.1 ∙ ap (with_field f (Some first.0)) rest.1)

pub shape_there : (types : Table) (form : FormTree) → form_fine types form ≡ true → (shape : Shape) × (shape_of types form ≡ Some shape)
shape_there types (enumeration ns) h = (_, refl)
shape_there types (tuple fs) h =
    let there = numbered_there types fs (and_parts _ (list_all (is_type types) fs) h).1 in
    (fields there.0, ap (option_map fields) there.1)
shape_there types (sequence most of) h =
    let t = some_there (type_named types of) h in
    (sequence_shape most t.0, ap (option_map (sequence_shape most)) t.1)

pub added_shape : (types : Table) (d : TypeTree) (shape : Shape) → shape_of types d.form ≡ Some shape → with_type types d ≡ types ++ declared d shape ∷ []
added_shape types d shape found = ap (λ o. option_map_or (λ x. types ++ declared d x ∷ []) o types) found

comes_ready : (types : Table) (d : TypeTree) → ComesNext types d → Ready types (declared_type d ∷ [])
comes_ready types d c =
    let room = c.room in
    record {
      room = omega (arith, room);
      within_limits = and_from _ _ c.within refl;
      legal = subst (All IsName) (right (names_of_type d)) c.legal;
      new = ap (λ ns. distinct (all_names types ++ ns)) (sym (right (declared_names (declared_type d)))) ∙ c.new;
    }
  where
    right : (ns : List Name) → ns ≡ ns ++ []
    right [] = refl
    right (n ∷ ns) = ap (λ ms. n ∷ ms) (right ns)

-- what a declaration that comes next adds
pub record Next (types : Table) (d : TypeTree) (shape : Shape) : Type 0 where
  pub stands : MayStand (length types) shape
  pub follows : shape_width (widths types) shape ≤ LIMITS.words → MayFollow types (declared d shape)

pub next : (types : Table) (d : TypeTree) (shape : Shape) → ComesNext types d → form_fine types d.form ≡ true → shape_of types d.form ≡ Some shape
    → Next types d shape
next types d shape c fine found =
    let r = comes_ready types d c in
    let a = adds types d.form fine c.within (tail d c.legal) in
    let same : a.0 ≡ shape = some_same (sym a.1.found ∙ found) in
    let P : Shape → Type 0 = λ s. Next types d s in
    subst P same (record { stands = a.1.stands; follows = may_follow types d [] r a.0 a.1 })
  where
    some_same : {X : Type 0} {x y : X} → Some x ≡ Some y → x ≡ y
    some_same e = cc

    tail : (d : TypeTree) → All IsName (names_of_type d) → All IsName (names_of_form d.form)
    tail d h = All-tail IsName d.name (names_of_form d.form) h

-- the same under a name that was copied
pub next_named : (types : Table) (d : TypeTree) (shape : Shape) (name : Name) (w : ℕ) → name ≡ d.name → Next types d shape
    → w ≡ shape_width (widths types) shape → w ≤ LIMITS.words → MayFollow types (record { name = name; shape = shape })
next_named types d shape name w same n e h =
    let P : Name → Type 0 = λ x. MayFollow types (record { name = x; shape = shape }) in
    subst P (sym same) (n.follows (omega (arith, e, h)))

pub narrow_is : (types : Table) (d : TypeTree) (shape : Shape) (b : Bool) → shape_of types d.form ≡ Some shape
    → narrow (shape_width (widths types) shape) ≡ b → is_narrow types d ≡ b
narrow_is types d shape b found h = ap (λ o. option_map_or (λ s. narrow (shape_width (widths types) s)) o true) found ∙ h

-- ---- the fields of a tuple

-- the fields with their types' numbers: those that are made, and then the rest
abbrev pub made_fields : Table → List TupleField → List FieldTree → Option (List TupleField)
made_fields types gs rest = option_map (λ more. gs ++ more) (numbered types rest)

pub fields_start : (types : Table) (fs : List FieldTree) → made_fields types [] fs ≡ numbered types fs
fields_start types fs = go (numbered types fs)
  where
    go : (o : Option (List TupleField)) → option_map (λ more. [] ++ more) o ≡ o
    go (Some gs) = refl
    go None = refl

pub fields_more : (types : Table) (gs : List TupleField) (f : FieldTree) (rest : List FieldTree) (ty : ℕ) → Some ty ≡ type_named types f.ty
    → made_fields types (gs ++ record { name = f.name; ty = ty } ∷ []) rest ≡ made_fields types gs (f ∷ rest)
fields_more types gs f rest ty e = go (numbered types rest) ∙ ap (λ o. option_map (λ more. gs ++ more) (with_field f o (numbered types rest))) e
  where
    go : (o : Option (List TupleField))
        → option_map (λ more. (gs ++ record { name = f.name; ty = ty } ∷ []) ++ more) o ≡ option_map (λ more. gs ++ more) (with_field f (Some ty) o)
    go (Some more) = ap Some (append_assoc gs (record { name = f.name; ty = ty } ∷ []) more)
    go None = refl

pub fields_all : (types : Table) (gs : List TupleField) → made_fields types gs [] ≡ Some gs
fields_all types gs = ap Some (append-nil gs)

-- its names stand twice
pub tuple-fails : {T U : Type 0} (q : Result T Refusal) (r : Result U Refusal) (e : Refusal) (types : Table) (form : TypeForm) (fs : Vec Field Global)
    (xs : List Field) → form ≡ Tuple fs → xs ≡ fs.items
    → q ≡ Err e → IsErrAnd r (λ y. y ≡ e) → Says q (distinct (map (λ f. name_of f.name) xs)) (tells duplicate_name)
    → SaysOrMemory r (form_fine types (type_form_of form)) (in_form types (type_form_of form))
tuple-fails {U = U} q r e types form fs xs is p was bad h =
    let P : FormTree → Type 0 = λ tree. SaysOrMemory r (form_fine types tree) (in_form types tree) in
    let same : distinct (map (λ f. name_of f.name) xs) ≡ distinct (field_names (map field_of fs.items)) =
    ap (λ ys. distinct (map (λ f. name_of f.name) ys)) p ∙ ap distinct (sym (names-of_fields fs.items)) in
    subst P (sym (ap type_form_of is))
    (memory-passed q r e _ _ _ (in_form types (tuple (map field_of fs.items))) was bad (says-memory q _ _ h)
    (λ y k m. (or_left _ _ (and_from _ _ k (not_from_false _ (sym same ∙ m))), and_left _ _ (sym same ∙ m))))

pub tuple-fine : (types : Table) (form : TypeForm) (fs : Vec Field Global) (xs ys : List Field) → form ≡ Tuple fs → xs ≡ fs.items → ys ≡ fs.items
    → distinct (map (λ f. name_of f.name) xs) ≡ true
    → list_all (is_type types) (map field_of ys) ≡ true → form_fine types (type_form_of form) ≡ true
tuple-fine types form fs xs ys is p q d h =
    ap (λ x. form_fine types (type_form_of x)) is
    ∙ and_from _ _ (ap distinct (names-of_fields fs.items) ∙ ap (λ us. distinct (map (λ f. name_of f.name) us)) (sym p) ∙ d)
    (ap (λ us. list_all (is_type types) (map field_of us)) (sym q) ∙ h)

-- ---- all declarations

-- what has been made of the declarations before the rest
pub record Making (s : SourceTree) (types : Table) (rest : SourceTree) : Type 0 where
  pub ready : Ready types rest
  pub reached : declared_from types rest ≡ types_of s
  pub fine : types_fine types rest ≡ types_fine basic s
  pub told : (r : Refusal) → in_types types rest r ≡ true → in_types basic s r ≡ true
  pub small : list_all narrow (widths types) ≡ true

pub making : (s : SourceTree) → LegalNames s → distinct (global_names s) ≡ true → source_within LIMITS s ≡ true → Making s basic s
making s legal new within = record { ready = ready s legal new within; reached = refl; fine = refl; told = λ r h. h; small = refl }

-- the next type comes next
pub made_next : (s : SourceTree) (types : Table) (d : TypeTree) (rest : SourceTree) → Making s types (declared_type d ∷ rest) → ComesNext types d
made_next s types d rest m =
    let r = m.ready in
    let room = r.room in
    let own = declared_names (declared_type d) in
    let later = flat_map declared_names rest in
    record {
      room = omega (arith, room);
      within = (and_parts (declaration_within LIMITS (declared_type d)) (list_all (declaration_within LIMITS) rest) r.within_limits).0;
      legal = all_left IsName (names_of_type d) (flat_map names_of_declaration rest) r.legal;
      new = (and_parts (distinct (all_names types ++ own)) _ (sym (distinct-append (all_names types ++ own) later) ∙ ap distinct
          (append_assoc (all_names types) own later) ∙ r.new)).0;
    }

-- it was added
pub made_type : (s : SourceTree) (types more : Table) (d : TypeTree) (rest : SourceTree) → Making s types (declared_type d ∷ rest)
    → (type_fine types d && is_narrow types d) ≡ true → more ≡ with_type types d → Making s more rest
made_type s types more d rest m h e =
    let p = and_parts (type_fine types d) (is_narrow types d) h in
    let a = adds types d.form p.0 (made_next s types d rest m).within (All-tail IsName d.name (names_of_form d.form) (made_next s types d rest m).legal) in
    let made : Declaration = declared d a.0 in
    let whole : with_type types d ≡ types ++ made ∷ [] = added_shape types d a.0 a.1.found in
    let width : narrow (shape_width (widths types) a.0) ≡ true = sym (narrow_is types d a.0 _ a.1.found refl) ∙ p.1 in
    let all : widths (with_type types d) ≡ widths types ++ shape_width (widths types) a.0 ∷ [] = ap widths whole ∙ widths_pushed types made in
    subst (λ t. Making s t rest) (sym e)
    (record {
      ready = ready_type types d rest m.ready a.0 a.1;
      reached = m.reached;
      fine = sym (ap (λ b. b && types_fine (with_type types d) rest) p.0) ∙ m.fine;
      told = λ r k. m.told r (or_right _ _ k);
      small = ap (list_all narrow) all ∙ list_all-append narrow (widths types) (shape_width (widths types) a.0 ∷ []) ∙ and_from _ _ m.small
          (and_from _ _ width refl);
    })

-- no type was declared
pub made_other : (s : SourceTree) (types : Table) (d : DeclarationTree) (rest : SourceTree) → is_type_declaration d ≡ false → Making s types (d ∷ rest)
    → Making s types rest
made_other s types (declared_type d) rest e m = absurd (false≢true (sym e))
made_other s types (automaton a) rest e m = record {
  ready = ready_other types (automaton a) a.name rest refl refl m.ready;
  reached = m.reached;
  fine =
      m.fine;
  told = m.told;
  small = m.small;
}
made_other s types (composition c) rest e m = record {
  ready = ready_other types (composition c) c.name rest refl refl m.ready;
  reached = m.reached;
  fine
      = m.fine;
  told = m.told;
  small = m.small;
}
made_other s types (invariant i) rest e m = record {
  ready = ready_invariant types i rest m.ready;
  reached = m.reached;
  fine = m.fine;
  told = m.told;
  small = m.small;
}

-- all were added
pub made_all : (s : SourceTree) (types : Table) → Making s types [] → ((types_fine basic s && types_narrow LIMITS s) ≡ true) × (types ≡ types_of s)
made_all s types m = (and_from _ _ (sym m.fine) (ap (λ t. list_all narrow (widths t)) (sym m.reached) ∙ m.small), m.reached)

-- one was too wide
wide_there : (s : SourceTree) (types : Table) (d : TypeTree) (rest : SourceTree) → declared_from types (declared_type d ∷ rest) ≡ types_of s
    → is_narrow types d ≡ false → types_narrow LIMITS s ≡ false
wide_there s types d rest e h = go (shape_of types d.form) refl h
  where
    test : (shape : Shape) → shape_of types d.form ≡ Some shape → narrow (shape_width (widths types) shape) ≡ false → (b : Bool)
        → types_narrow LIMITS s ≡ b → b ≡ false
    test shape found h false k = refl
    test shape found h true k =
        let made : Declaration = declared d shape in
        let begins = declared_begins (types ++ made ∷ []) rest in
        let reached : types_of s ≡ (types ++ made ∷ []) ++ begins.more = sym e ∙ ap (λ t. declared_from t rest) (added_shape types d shape found) ∙
        begins.whole in
        let fits = narrow_there narrow types made begins.more (sym (ap (λ t. list_all narrow (widths t)) reached) ∙ k) in
        absurd (false≢true (sym h ∙ fits))

    go : (o : Option Shape) → shape_of types d.form ≡ o → option_map_or (λ shape. narrow (shape_width (widths types) shape)) o true ≡ false
        → types_narrow LIMITS s ≡ false
    go None found h = absurd (cc)
    go (Some shape) found h = test shape found h (types_narrow LIMITS s) refl

-- one was refused
pub made_none : (s : SourceTree) (types : Table) (d : TypeTree) (rest : SourceTree) (r : Refusal) → Making s types (declared_type d ∷ rest)
    → (in_form types d.form or broken too_wide (is_narrow types d)) r ≡ true → (type_fine types d && is_narrow types d) ≡ false
    → ((in_types basic s or broken too_wide (types_narrow LIMITS s)) r ≡ true) × ((types_fine basic s && types_narrow LIMITS s) ≡ false)
made_none s types d rest r m why test = (reason, failed)
  where
    failed : (types_fine basic s && types_narrow LIMITS s) ≡ false
    failed = go (type_fine types d) refl test
      where
        go : (b : Bool) → type_fine types d ≡ b → (b && is_narrow types d) ≡ false → (types_fine basic s && types_narrow LIMITS s) ≡ false
        go false e k = and_left _ _ (sym m.fine ∙ and_left _ _ e)
        go true e k = and_right _ _ (wide_there s types d rest m.reached k)

    reason : (in_types basic s or broken too_wide (types_narrow LIMITS s)) r ≡ true
    reason = elim (or_cases (in_form types d.form r) (tells too_wide r && not (is_narrow types d)) why) [
      | inl k ↦ or_left _ _ (m.told r (or_left _ _ k))
      | inr k ↦
          let p = and_parts (tells too_wide r) (not (is_narrow types d)) k in
          or_right _ _ (and_from _ _ p.0 (ap not (wide_there s types d rest m.reached (not_true (is_narrow types d) p.1))))
    ]
      where
        not_true : (b : Bool) → not b ≡ true → b ≡ false
        not_true true h = absurd (cc)
        not_true false h = refl

-- ---- at a turn of the loop

pub no_type : (d : Node) → ((t : TypeDeclaration) → d ≡ nodes.Type t → ⊥) → is_type_declaration (declaration_of d) ≡ false
no_type (nodes.Type t) h = absurd (h t refl)
no_type (nodes.Automaton a) h = refl
no_type (nodes.Composition c) h = refl
no_type (nodes.Invariant i) h = refl

module _ (s : SourceTree) (types : Table) (ds : List Node) (i : ℕ) (d : Node) (l : i < length ds) (is : d ≡ get_or ds i d)
    (m : Making s types (tree_of (drop i ds))) where
  rest_is : tree_of (drop i ds) ≡ declaration_of d ∷ tree_of (drop (i + 1) ds)
  rest_is = ap tree_of (drop_item ds i d l is)

  making_at : (e : DeclarationTree) → declaration_of d ≡ e → Making s types (e ∷ tree_of (drop (i + 1) ds))
  making_at e shown = let P : SourceTree → Type 0 = λ xs. Making s types xs in subst P (rest_is ∙ ap (λ x. x ∷ tree_of (drop (i + 1) ds)) shown) m

  module _ (t : TypeDeclaration) (shown : d ≡ nodes.Type t) where
    pub at_next : ComesNext types (type_declaration_of t)
    at_next = made_next s types (type_declaration_of t) (tree_of (drop (i + 1) ds))
        (making_at (declared_type (type_declaration_of t)) (ap declaration_of shown))

    pub at_type : (more : Table) → (type_fine types (type_declaration_of t) && is_narrow types (type_declaration_of t)) ≡ true
        → more ≡ with_type types (type_declaration_of t) → Making s more (tree_of (drop (i + 1) ds))
    at_type more h e = made_type s types more (type_declaration_of t) (tree_of (drop (i + 1) ds))
        (making_at (declared_type (type_declaration_of t)) (ap declaration_of shown)) h e

    pub at_none : (r : Refusal) → (in_form types (type_declaration_of t).form or broken too_wide (is_narrow types (type_declaration_of t))) r ≡ true
        → (type_fine types (type_declaration_of t) && is_narrow types (type_declaration_of t)) ≡ false
        → ((in_types basic s or broken too_wide (types_narrow LIMITS s)) r ≡ true) × ((types_fine basic s && types_narrow LIMITS s) ≡ false)
    at_none r why test = made_none s types (type_declaration_of t) (tree_of (drop (i + 1) ds)) r
        (making_at (declared_type (type_declaration_of t)) (ap declaration_of shown)) why test

  pub at_other : is_type_declaration (declaration_of d) ≡ false → Making s types (tree_of (drop (i + 1) ds))
  at_other other = made_other s types (declaration_of d) (tree_of (drop (i + 1) ds)) other (making_at (declaration_of d) refl)

pub at_end : (s : SourceTree) (types : Table) (ds : List Node) (i : ℕ) → length ds ≤ i → Making s types (tree_of (drop i ds))
    → ((types_fine basic s && types_narrow LIMITS s) ≡ true) × (types ≡ types_of s)
at_end s types ds i l m = let P : List Node → Type 0 = λ xs. Making s types (tree_of xs) in made_all s types (subst P (drop_all i ds l) m)
