-- Declarations one after another: what is known before each, and what a fault of one is for the source.
use Rattle.std.proofs.Common.{◌≡◌, inl, inr, ℕ, ◌+◌, ◌<◌, ◌≤◌, Bool, true, false, cond, ◌&&◌, ◌||◌, List, [], ◌∷◌, ◌++◌, take, drop, length, get_or, Option, Some, None, is_some, option_map, Result, Ok, Err, refl, sym, ap, subst, arith, ◌∙◌, append-nil, append_assoc, take-append-drop}
use Rattle.std.specs.List.{list_any}
use Rattle.std.specs.Result.{IsErrAnd}
use Rattle.std.specs.Str.{bytes_eq}
use Rattle.std.proofs.lemmas.Bool.{and_left, and_right, and_parts, or_left, or_right, or_cases}
use Rattle.std.proofs.lemmas.List.{map-append, length-append, drop_all}
use Rattle.ioa_value.specs.Actions.{Name}
use Rattle.ioa_value.specs.Table.{Table, basic}
use Rattle.ioa_value.proofs.ItemLemmas.{drop_item, take_item}
use Rattle.ioa_lex.specs.declared.refusal.Refusal.{Refusal}
use Rattle.ioa_tree.specs.declared.tree.Automaton.{Automaton}
use Rattle.ioa_tree.specs.declared.tree.Assembly.{Assembly}
use Rattle.ioa_tree.specs.declared.tree.Invariant.{Invariant}
use Rattle.ioa_tree.specs.declared.tree.Declaration.{Declaration}
use Rattle.ioa_tree.specs.declared.tree.Declaration.TheVariants as declarations
use Rattle.ioa_tree.specs.Tree.{TypeTree, AutomatonTree, DeclarationTree, declared_type, automaton, composition, invariant, SourceTree}
use Rattle.ioa_tree.specs.Types.{with_type, types_of}
use Rattle.ioa_tree.specs.Compositions.{automaton_named}
use Rattle.ioa_tree.specs.View.{automaton_of, assembly_of, invariant_of, declaration_of, tree_of}
use Rattle.ioa_tree.specs.WellFormed.{type_fine, automaton_fine, composition_fine, invariant_fine, declaration_fine, declarations_fine, is_type_declaration, is_automaton_of}
use Rattle.ioa_tree.proofs.Declared.{declared-append, types_begin}
use Rattle.ioa_rules.specs.declared.known_types.KnownTypes.{KnownTypes}
use Rattle.ioa_rules.specs.KnownTypes.{whole, early}
use Rattle.ioa_rules.specs.Reasons.{Reasons, in_form, in_types, in_automaton, in_composition, in_invariant, in_declaration, in_declarations}
use Rattle.ioa_rules.specs.Types.{types_fine}
use Rattle.ioa_rules.specs.Verdicts.{Says}
use Rattle.ioa_rules.proofs.SayLemmas.{says-passed, split-at}
use Rattle.ioa_rules.proofs.TypeLemmas.{shape_there, added_shape}

-- ---- types

-- a declaration of a type adds it
more_types : (before : SourceTree) (d : TypeTree) → types_of (before ++ declared_type d ∷ []) ≡ with_type (types_of before) d
more_types before d = declared-append basic before (declared_type d ∷ [])

same_types : (before : SourceTree) (d : DeclarationTree) → is_type_declaration d ≡ false → types_of (before ++ d ∷ []) ≡ types_of before
same_types before (declared_type d) e = absurd (cc)
same_types before (automaton a) e = declared-append basic before (automaton a ∷ [])
same_types before (composition c) e = declared-append basic before (composition c ∷ [])
same_types before (invariant i) e = declared-append basic before (invariant i ∷ [])

module _ (t : Table) (g : List Name) where
  -- a type that is not fine makes the declarations so
  pub types_fail : (before ds : SourceTree) → types_fine (types_of before) ds ≡ false → declarations_fine t g before ds ≡ false
  types_fail before [] h = absurd (cc)
  types_fail before (declared_type d ∷ ds) h = go (type_fine (types_of before) d) refl h (types_fail (before ++ declared_type d ∷ []) ds)
    where
      go : (b : Bool) → type_fine (types_of before) d ≡ b → (b && types_fine (with_type (types_of before) d) ds) ≡ false
          → (types_fine (types_of (before ++ declared_type d ∷ [])) ds ≡ false → declarations_fine t g (before ++ declared_type d ∷ []) ds ≡ false)
          → declarations_fine t g before (declared_type d ∷ ds) ≡ false
      go false e k later = and_left _ _ e
      go true e k later = and_right _ _ (later (ap (λ s. types_fine s ds) (more_types before d) ∙ k))
  types_fail before (automaton a ∷ ds) h =
      and_right _ _ (types_fail (before ++ automaton a ∷ []) ds (ap (λ s. types_fine s ds) (same_types before (automaton a) refl) ∙ h))
  types_fail before (composition c ∷ ds) h =
      and_right _ _ (types_fail (before ++ composition c ∷ []) ds (ap (λ s. types_fine s ds) (same_types before (composition c) refl) ∙ h))
  types_fail before (invariant i ∷ ds) h =
      and_right _ _ (types_fail (before ++ invariant i ∷ []) ds (ap (λ s. types_fine s ds) (same_types before (invariant i) refl) ∙ h))

  -- a reason in a type is one in the declarations
  pub types_tell : (before ds : SourceTree) (r : Refusal) → in_types (types_of before) ds r ≡ true → in_declarations t g before ds r ≡ true
  types_tell before [] r h = absurd (cc)
  types_tell before (declared_type d ∷ ds) r h = elim (or_cases (in_form (types_of before) d.form r) (in_types (with_type (types_of before) d) ds r) h) [
    | inl k ↦ or_left _ _ k
    | inr k ↦ or_right _ _ (types_tell (before ++ declared_type d ∷ []) ds r (ap (λ s. in_types s ds r) (more_types before d) ∙ k))
  ]
  types_tell before (automaton a ∷ ds) r h =
      or_right _ _ (types_tell (before ++ automaton a ∷ []) ds r (ap (λ s. in_types s ds r) (same_types before (automaton a) refl) ∙ h))
  types_tell before (composition c ∷ ds) r h =
      or_right _ _ (types_tell (before ++ composition c ∷ []) ds r (ap (λ s. in_types s ds r) (same_types before (composition c) refl) ∙ h))
  types_tell before (invariant i ∷ ds) r h =
      or_right _ _ (types_tell (before ++ invariant i ∷ []) ds r (ap (λ s. in_types s ds r) (same_types before (invariant i) refl) ∙ h))

  in_declarations-at : (before xs ys : SourceTree) (d : DeclarationTree) (r : Refusal) → in_declaration t g (before ++ xs) d r ≡ true
      → in_declarations t g before (xs ++ d ∷ ys) r ≡ true
  in_declarations-at before [] ys d r h = or_left _ _ (ap (λ b. in_declaration t g b d r) (sym (append-nil before)) ∙ h)
  in_declarations-at before (x ∷ xs) ys d r h =
      or_right _ _ (in_declarations-at (before ++ x ∷ []) xs ys d r (ap (λ b. in_declaration t g b d r) (append_assoc before (x ∷ []) xs) ∙ h))

-- ---- automata

automaton_there : (s : SourceTree) (x : Name) → is_some (automaton_named s x) ≡ list_any (is_automaton_of x) s
automaton_there [] x = refl
automaton_there (declared_type t ∷ ds) x = automaton_there ds x
automaton_there (automaton a ∷ ds) x = first (bytes_eq a.name x) (automaton_there ds x)
  where
    first : (b : Bool) → is_some (automaton_named ds x) ≡ list_any (is_automaton_of x) ds
        → is_some (cond b (Some a) (automaton_named ds x)) ≡ (b || list_any (is_automaton_of x) ds)
    first true h = refl
    first false h = h
automaton_there (composition c ∷ ds) x = automaton_there ds x
automaton_there (invariant i ∷ ds) x = automaton_there ds x

-- an automaton is found where one of the name is declared
pub automaton_found : {A : Type 0} (f : A → AutomatonTree) (o : Option A) (s : SourceTree) (x : Name) → option_map f o ≡ automaton_named s x
    → is_some o ≡ list_any (is_automaton_of x) s
automaton_found {A} f o s x h = same o ∙ ap is_some h ∙ automaton_there s x
  where
    same : (o : Option A) → is_some o ≡ is_some (option_map f o)
    same (Some a) = refl
    same None = refl

-- ---- one declaration after another

-- what is known of the declarations before number i, where those of types are fine
pub record Reached (t : Table) (g : List Name) (ds : List Declaration) (i : ℕ) (k : KnownTypes) : Type 0 where
  pub table : whole k ≡ t
  pub count : k.count ≡ length (types_of (tree_of (take i ds)))
  pub few : k.count ≤ i + 2
  pub fine : types_fine (types_of (tree_of (take i ds))) (tree_of (drop i ds)) ≡ true
  pub same : declarations_fine t g (tree_of (take i ds)) (tree_of (drop i ds)) ≡ declarations_fine t g [] (tree_of ds)

take_length : {A : Type 0} (xs ys : List A) → take (length xs) (xs ++ ys) ≡ xs
take_length [] ys = refl
take_length (x ∷ xs) ys = ap (λ zs. x ∷ zs) (take_length xs ys)

module _ (t : Table) (g : List Name) (ds : List Declaration) (i : ℕ) (k : KnownTypes) (r : Reached t g ds i k) (of : t ≡ types_of (tree_of ds)) where
  -- the types that are known are those that are declared before
  pub early_is : early k ≡ types_of (tree_of (take i ds))
  early_is =
      let before = tree_of (take i ds) in
      let split : before ++ tree_of (drop i ds) ≡ tree_of ds = sym (map-append declaration_of (take i ds) (drop i ds)) ∙ ap tree_of (take-append-drop i ds) in
      let begins = types_begin before (tree_of (drop i ds)) in
      let all : whole k ≡ types_of before ++ begins.more = r.table ∙ of ∙ ap types_of (sym split) ∙ begins.whole in
      ap (λ n. take n (whole k)) r.count ∙ ap (take (length (types_of before))) all ∙ take_length (types_of before) begins.more

  -- what is said over the types that are known is said over those that are declared before
  tables-say : {T : Type 0} (q : Result T Refusal) (fine : Table → Table → Bool) (why : Table → Table → Reasons)
      → Says q (fine (whole k) (early k)) (why (whole k) (early k))
      → Says q (fine t (types_of (tree_of (take i ds)))) (why t (types_of (tree_of (take i ds))))
  tables-say q fine why h =
      let Whole : Table → Type 0 = λ x. Says q (fine x (early k)) (why x (early k)) in
      let Early : Table → Type 0 = λ x. Says q (fine t x) (why t x) in
      subst Early early_is (subst Whole r.table h)

  module _ (d : Declaration) (l : i < length ds) (is : d ≡ get_or ds i d) where
    rest_is : tree_of (drop i ds) ≡ declaration_of d ∷ tree_of (drop (i + 1) ds)
    rest_is = ap tree_of (drop_item ds i d l is)

    taken_is : tree_of (take (i + 1) ds) ≡ tree_of (take i ds) ++ declaration_of d ∷ []
    taken_is = ap tree_of (take_item ds i d l is) ∙ map-append declaration_of (take i ds) (d ∷ [])

    here : declarations_fine t g (tree_of (take i ds)) (declaration_of d ∷ tree_of (drop (i + 1) ds)) ≡ declarations_fine t g [] (tree_of ds)
    here = ap (declarations_fine t g (tree_of (take i ds))) (sym rest_is) ∙ r.same

    types_here : types_fine (types_of (tree_of (take i ds))) (declaration_of d ∷ tree_of (drop (i + 1) ds)) ≡ true
    types_here = ap (types_fine (types_of (tree_of (take i ds)))) (sym rest_is) ∙ r.fine

    same_next : declaration_fine t g (tree_of (take i ds)) (declaration_of d) ≡ true
        → declarations_fine t g (tree_of (take (i + 1) ds)) (tree_of (drop (i + 1) ds)) ≡ declarations_fine t g [] (tree_of ds)
    same_next h =
        ap (λ b. declarations_fine t g b (tree_of (drop (i + 1) ds))) taken_is
        ∙ sym (ap (λ b. b && declarations_fine t g (tree_of (take i ds) ++ declaration_of d ∷ []) (tree_of (drop (i + 1) ds))) h) ∙ here

    -- after a type
    pub reached_type : (e : TypeTree) → declaration_of d ≡ declared_type e → (m : KnownTypes) → whole m ≡ whole k → m.count ≡ k.count + 1 → Reached t g ds (i + 1) m
    reached_type e shown m table count =
        let before = tree_of (take i ds) in
        let p = and_parts (type_fine (types_of before) e) _ (ap (λ x. types_fine (types_of before) (x ∷ tree_of (drop (i + 1) ds))) (sym shown) ∙ types_here) in
        let s = shape_there (types_of before) e.form p.0 in
        let more : types_of (tree_of (take (i + 1) ds)) ≡ with_type (types_of before) e = ap types_of taken_is ∙ ap (λ x. types_of (before ++ x ∷ []))
        shown ∙ more_types before e in
        let long : length (types_of (tree_of (take (i + 1) ds))) ≡ length (types_of before) + 1 =
        ap length (more ∙ added_shape (types_of before) e s.0 s.1) ∙ length-append (types_of before) _ in
        let few = r.few in
        record {
          table = table ∙ r.table;
          count = count ∙ ap (λ n. n + 1) r.count ∙ sym long;
          few = omega (arith, few, count);
          fine = ap (λ s. types_fine s (tree_of (drop (i + 1) ds))) more ∙ p.1;
          same = same_next (ap (declaration_fine t g before) shown ∙ p.0);
        }

    -- after another declaration
    pub reached_other : is_type_declaration (declaration_of d) ≡ false → declaration_fine t g (tree_of (take i ds)) (declaration_of d) ≡ true
        → Reached t g ds (i + 1) k
    reached_other other h =
        let before = tree_of (take i ds) in
        let more : types_of (tree_of (take (i + 1) ds)) ≡ types_of before = ap types_of taken_is ∙ same_types before (declaration_of d) other in
        let few = r.few in
        record {
          table = r.table;
          count = r.count ∙ sym (ap length more);
          few = omega (arith, few);
          fine = ap (λ s. types_fine s (tree_of (drop (i + 1) ds))) more ∙ skipped _ _ (declaration_of d) other types_here;
          same = same_next h;
        }
      where
        skipped : (types : Table) (rest : SourceTree) (x : DeclarationTree) → is_type_declaration x ≡ false → types_fine types (x ∷ rest) ≡ true
            → types_fine types rest ≡ true
        skipped types rest (declared_type x) e h = absurd (cc)
        skipped types rest (automaton x) e h = h
        skipped types rest (composition x) e h = h
        skipped types rest (invariant x) e h = h

    -- a fault of the declaration is one of the source
    pub says-of_declarations : {T U : Type 0} (q : Result T Refusal) (o : Result U Refusal) (e : Refusal) → q ≡ Err e → IsErrAnd o (λ y. y ≡ e)
        → Says q (declaration_fine t g (tree_of (take i ds)) (declaration_of d)) (in_declaration t g (tree_of (take i ds)) (declaration_of d))
        → Says o (declarations_fine t g [] (tree_of ds)) (in_declarations t g [] (tree_of ds))
    says-of_declarations q o e was bad h = fails o bad (says-passed q o e _ _ was bad h)
      where
        fails : {U : Type 0} (o : Result U Refusal) → IsErrAnd o (λ y. y ≡ e)
            → Says o (declaration_fine t g (tree_of (take i ds)) (declaration_of d)) (in_declaration t g (tree_of (take i ds)) (declaration_of d))
            → Says o (declarations_fine t g [] (tree_of ds)) (in_declarations t g [] (tree_of ds))
        fails (Ok y) bad h = absurd bad
        fails (Err y) bad h = (
          ap (λ ts. in_declarations t g [] ts y) (sym (ap tree_of (split-at ds i d l is)) ∙ map-append declaration_of (take i ds) (d ∷ drop (i + 1) ds))
              ∙ in_declarations-at t g [] (tree_of (take i ds)) (tree_of (drop (i + 1) ds)) (declaration_of d) y h.0,
          sym here ∙ and_left _ _ h.1,
        )

    -- what is said of an automaton, of a composition or of an invariant
    shown-says : {T : Type 0} (q : Result T Refusal) (x : DeclarationTree) → declaration_of d ≡ x
        → Says q (declaration_fine t g (tree_of (take i ds)) x) (in_declaration t g (tree_of (take i ds)) x)
        → Says q (declaration_fine t g (tree_of (take i ds)) (declaration_of d)) (in_declaration t g (tree_of (take i ds)) (declaration_of d))
    shown-says q x shown h =
        let Shown : DeclarationTree → Type 0 = λ y. Says q (declaration_fine t g (tree_of (take i ds)) y) (in_declaration t g (tree_of (take i ds)) y) in
        subst Shown (sym shown) h

    pub automaton-says : {T : Type 0} (q : Result T Refusal) (a : Automaton) → d ≡ declarations.Automaton a
        → Says q (automaton_fine (whole k) (early k) g (automaton_of a)) (in_automaton (whole k) (early k) g (automaton_of a))
        → Says q (declaration_fine t g (tree_of (take i ds)) (declaration_of d)) (in_declaration t g (tree_of (take i ds)) (declaration_of d))
    automaton-says q a shown h =
        shown-says q (automaton (automaton_of a)) (ap declaration_of shown)
        (tables-say q (λ x y. automaton_fine x y g (automaton_of a)) (λ x y. in_automaton x y g (automaton_of a)) h)

    pub composition-says : {T : Type 0} (q : Result T Refusal) (c : Assembly) → d ≡ declarations.Composition c
        → Says q (composition_fine (whole k) (early k) (tree_of (take i ds)) (assembly_of c))
        (in_composition (whole k) (early k) (tree_of (take i ds)) (assembly_of c))
        → Says q (declaration_fine t g (tree_of (take i ds)) (declaration_of d)) (in_declaration t g (tree_of (take i ds)) (declaration_of d))
    composition-says q c shown h =
        shown-says q (composition (assembly_of c)) (ap declaration_of shown)
        (tables-say q (λ x y. composition_fine x y (tree_of (take i ds)) (assembly_of c)) (λ x y. in_composition x y (tree_of (take i ds)) (assembly_of c)) h)

    pub invariant-says : {T : Type 0} (q : Result T Refusal) (v : Invariant) → d ≡ declarations.Invariant v
        → Says q (invariant_fine (whole k) (early k) (tree_of (take i ds)) (invariant_of v))
        (in_invariant (whole k) (early k) (tree_of (take i ds)) (invariant_of v))
        → Says q (declaration_fine t g (tree_of (take i ds)) (declaration_of d)) (in_declaration t g (tree_of (take i ds)) (declaration_of d))
    invariant-says q v shown h =
        shown-says q (invariant (invariant_of v)) (ap declaration_of shown)
        (tables-say q (λ x y. invariant_fine x y (tree_of (take i ds)) (invariant_of v)) (λ x y. in_invariant x y (tree_of (take i ds)) (invariant_of v)) h)

pub reached_start : (t : Table) (g : List Name) (ds : List Declaration) (k : KnownTypes) → whole k ≡ t → k.count ≡ 2 → types_fine basic (tree_of ds) ≡ true
    → Reached t g ds 0 k
reached_start t g ds k table count fine = record { table = table; count = count; few = omega (arith, count); fine = fine; same = refl }

pub reached_end : (t : Table) (g : List Name) (ds : List Declaration) (i : ℕ) (k : KnownTypes) → Reached t g ds i k → length ds ≤ i
    → declarations_fine t g [] (tree_of ds) ≡ true
reached_end t g ds i k r l = sym r.same ∙ ap (λ xs. declarations_fine t g (tree_of (take i ds)) (tree_of xs)) (drop_all i ds l)
