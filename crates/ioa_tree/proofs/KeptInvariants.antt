-- The invariants of a well formed source are fine over all its declarations.
use Rattle.std.proofs.Common.{◌≡◌, Bool, true, false, ◌&&◌, ◌++◌, List, [], ◌∷◌, Option, Some, None, refl, sym, ap, subst, ◌∙◌}
use Rattle.std.specs.List.{list_all, find}
use Rattle.std.specs.Str.{bytes_eq}
use Rattle.std.specs.Option.{option_map_or, option_or}
use Rattle.std.proofs.lemmas.Bool.{and_parts, and_from}
use Rattle.std.proofs.lemmas.List.Folds.{list_all-append, find-append}
use Rattle.ioa_value.specs.Actions.{Name}
use Rattle.ioa_value.specs.Table.{Table}
use Rattle.ioa_value.proofs.ItemLemmas.{find_both}
use Rattle.ioa_tree.specs.Tree.{Expr, AutomatonTree, InvariantTree, DeclarationTree, declared_type, automaton, composition, invariant, SourceTree}
use Rattle.ioa_tree.specs.Types.{types_of}
use Rattle.ioa_tree.specs.Compositions.{automata, invariants, automaton_named}
use Rattle.ioa_tree.specs.WellFormed.{is_type, context_of, variable_fields, held, has_ty, invariant_fine, declaration_fine, declarations_fine, global_names, well_formed}
use Rattle.ioa_tree.proofs.Early.{Begins, Implies, and_implies, each_implies, known_stays, context_stays, has_ty_there}
use Rattle.ioa_tree.proofs.FineParts.{fine_parts, source_parts}
use Rattle.ioa_tree.proofs.Declared.{types_begin, first_fine, one_more}

automata-append : (ds es : SourceTree) → automata (ds ++ es) ≡ automata ds ++ automata es
automata-append [] es = refl
automata-append (declared_type t ∷ ds) es = automata-append ds es
automata-append (automaton a ∷ ds) es = ap (λ rest. a ∷ rest) (automata-append ds es)
automata-append (composition c ∷ ds) es = automata-append ds es
automata-append (invariant i ∷ ds) es = automata-append ds es

-- an automaton that is declared before is the one of its name
pub named_stays : (before ds : SourceTree) (x : Name) (a : AutomatonTree) → automaton_named before x ≡ Some a → automaton_named (before ++ ds) x ≡ Some a
named_stays before ds x a e =
    let test : AutomatonTree → Bool = λ a. bytes_eq a.name x in
    ap (find test) (automata-append before ds) ∙ find-append test (automata before) (automata ds) ∙ ap (λ o. option_or o (find test (automata ds))) e

-- the automaton's formals and variables have known types
known : Table → AutomatonTree → Bool
known t a = list_all (is_type t) a.formals && list_all (is_type t) (variable_fields a)

module _ (types early : Table) (begins : Begins early types) where
  automaton_known : (a : AutomatonTree) → Implies (known early a) (known types a)
  unfolding known
  automaton_known a =
      and_implies (list_all (is_type early) a.formals) (list_all (is_type early) (variable_fields a))
      (list_all (is_type types) a.formals) (list_all (is_type types) (variable_fields a))
      (each_implies (is_type early) (is_type types) a.formals (known_stays types early begins))
      (each_implies (is_type early) (is_type types) (variable_fields a) (known_stays types early begins))

  -- a condition on the automaton's variables and formals
  condition_stays : (a : AutomatonTree) (e : Expr) → known early a ≡ true
      → Implies (has_ty types early (held types early [] a) e 0) (has_ty types types (held types types [] a) e 0)
  unfolding known
  condition_stays a e k =
      let p = and_parts (list_all (is_type early) a.formals) (list_all (is_type early) (variable_fields a)) k in
      let variables = context_stays types early begins (variable_fields a) p.1 in
      let formals = context_stays types early begins a.formals p.0 in
      let same : held types types [] a ≡ held types early [] a =
      ap (λ c. c ++ context_of types a.formals) variables ∙ ap (λ c. context_of early (variable_fields a) ++ c) formals in
      has_ty_there types early begins (held types early [] a) (held types types [] a) same e 0

-- the automata that are declared so far have known types
AreKnown : SourceTree → Type 0
AreKnown before = list_all (known (types_of before)) (automata before) ≡ true

module _ (types : Table) (globals : List Name) (before : SourceTree) where
  -- those of one declaration more
  one_known : (now : Table) → Begins (types_of before) now → (d : DeclarationTree) → declaration_fine types globals before d ≡ true
      → list_all (known now) (automata (d ∷ [])) ≡ true
  unfolding known
  one_known now begins (declared_type t) h = refl
  one_known now begins (automaton a) h =
      let p = fine_parts types (types_of before) globals a h in
      let test = is_type (types_of before) in
      let fields = and_from (list_all test a.formals) (list_all test (variable_fields a)) p.formal_types p.variable_types in
      and_from (known now a) true (automaton_known now (types_of before) begins a fields) refl
  one_known now begins (composition c) h = refl
  one_known now begins (invariant i) h = refl

  more_known : (d : DeclarationTree) → declaration_fine types globals before d ≡ true → AreKnown before → AreKnown (before ++ d ∷ [])
  unfolding AreKnown
  more_known d h k =
      let now = types_of (before ++ d ∷ []) in
      let begins = types_begin before (d ∷ []) in
      let old = each_implies (known (types_of before)) (known now) (automata before) (automaton_known now (types_of before) begins) k in
      ap (list_all (known now)) (automata-append before (d ∷ [])) ∙ list_all-append (known now) (automata before) (automata (d ∷ []))
      ∙ and_from (list_all (known now) (automata before)) (list_all (known now) (automata (d ∷ []))) old (one_known now begins d h)

module _ (s : SourceTree) (globals : List Name) where
  -- an invariant that is fine where it stands
  invariant_among : (before ds : SourceTree) (i : InvariantTree) → before ++ ds ≡ s → AreKnown before → Begins (types_of before) (types_of s)
      → Implies (invariant_fine (types_of s) (types_of before) before i) (invariant_fine (types_of s) (types_of s) s i)
  unfolding AreKnown
  invariant_among before ds i e k begins h = go (automaton_named before i.automaton) refl h
    where
      fine : Table → AutomatonTree → Bool
      fine early a = has_ty (types_of s) early (held (types_of s) early [] a) i.condition 0

      go : (o : Option AutomatonTree) → automaton_named before i.automaton ≡ o → option_map_or (fine (types_of before)) o false ≡ true
          → invariant_fine (types_of s) (types_of s) s i ≡ true
      go (Some a) at h =
          let there : automaton_named s i.automaton ≡ Some a =
          ap (λ t. automaton_named t i.automaton) (sym e) ∙ named_stays before ds i.automaton a at in
          let own = (find_both (λ a. bytes_eq a.name i.automaton) (known (types_of before)) (automata before) a at k).1 in
          ap (λ o. option_map_or (fine (types_of s)) o false) there ∙ condition_stays (types_of s) (types_of before) begins a i.condition own h
      go None at h = absurd (cc)

  each_invariant : (before ds : SourceTree) → before ++ ds ≡ s → AreKnown before → declarations_fine (types_of s) globals before ds ≡ true
      → list_all (invariant_fine (types_of s) (types_of s) s) (invariants ds) ≡ true
  each_invariant before [] e k h = refl
  each_invariant before (declared_type d ∷ ds) e k h =
      let p = first_fine (types_of s) globals before (declared_type d) ds h in
      each_invariant (before ++ declared_type d ∷ []) ds (one_more before (declared_type d) ds ∙ e)
      (more_known (types_of s) globals before (declared_type d) p.0 k) p.1
  each_invariant before (automaton a ∷ ds) e k h =
      let p = first_fine (types_of s) globals before (automaton a) ds h in
      each_invariant (before ++ automaton a ∷ []) ds (one_more before (automaton a) ds ∙ e)
      (more_known (types_of s) globals before (automaton a) p.0 k) p.1
  each_invariant before (composition c ∷ ds) e k h =
      let p = first_fine (types_of s) globals before (composition c) ds h in
      each_invariant (before ++ composition c ∷ []) ds (one_more before (composition c) ds ∙ e)
      (more_known (types_of s) globals before (composition c) p.0 k) p.1
  each_invariant before (invariant i ∷ ds) e k h =
      let p = first_fine (types_of s) globals before (invariant i) ds h in
      let begins = subst (λ t. Begins (types_of before) (types_of t)) e (types_begin before (invariant i ∷ ds)) in
      and_from (invariant_fine (types_of s) (types_of s) s i) (list_all (invariant_fine (types_of s) (types_of s) s) (invariants ds))
      (invariant_among before (invariant i ∷ ds) i e k begins p.0)
      (each_invariant (before ++ invariant i ∷ []) ds (one_more before (invariant i) ds ∙ e) (more_known (types_of s) globals before (invariant i) p.0 k) p.1)

-- each invariant of a well formed source is of one of its automata, and a Bool over all its types
pub invariants_fine : (s : SourceTree) → well_formed s ≡ true → list_all (invariant_fine (types_of s) (types_of s) s) (invariants s) ≡ true
unfolding AreKnown
invariants_fine s h = each_invariant s (global_names s) [] s refl refl (source_parts s h).declarations
