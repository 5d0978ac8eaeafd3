-- What the declarations of a well formed source keep over all its types.
use Rattle.std.proofs.Common.{◌≡◌, true, ◌&&◌, ◌++◌, List, [], ◌∷◌, map, Option, Some, None, refl, sym, ap, subst, ◌∙◌, append-nil, append_assoc}
use Rattle.std.specs.List.{list_any, list_all}
use Rattle.std.specs.Option.{option_map_or}
use Rattle.std.proofs.lemmas.Bool.{and_parts, and_from, or_left}
use Rattle.std.proofs.lemmas.List.Folds.{list_any-append}
use Rattle.ioa_value.specs.Actions.{Name}
use Rattle.ioa_value.specs.Table.{Table, Shape, basic}
use Rattle.ioa_tree.specs.Tree.{InstanceTree, CompositionTree, TypeTree, DeclarationTree, declared_type, automaton, composition, invariant, SourceTree}
use Rattle.ioa_tree.specs.Types.{shape_of, declared, with_type, declared_from, types_of}
use Rattle.ioa_tree.specs.Compositions.{automata, compositions}
use Rattle.ioa_tree.specs.WellFormed.{distinct, automaton_fine, is_automaton_of, instance_fine, composition_fine, declaration_fine, declarations_fine, global_names, well_formed}
use Rattle.ioa_tree.proofs.Early.{Begins, each_implies, and_implies, automaton_stays, composition_stays}
use Rattle.ioa_tree.proofs.FineParts.{source_parts}

-- ---- types

begins_itself : (types : Table) → Begins types types
begins_itself types = record { more = []; whole = sym (append-nil types) }

begins_through : (first second third : Table) → Begins first second → Begins second third → Begins first third
begins_through first second third f g = record {
  more = f.more ++ g.more;
  whole = g.whole ∙ ap (λ t. t ++ g.more) f.whole ∙ append_assoc first f.more g.more;
}

type_begins : (types : Table) (d : TypeTree) → Begins types (with_type types d)
type_begins types d = go (shape_of types d.form)
  where
    go : (o : Option Shape) → Begins types (option_map_or (λ shape. types ++ declared d shape ∷ []) o types)
    go (Some shape) = record { more = declared d shape ∷ []; whole = refl }
    go None = begins_itself types

-- declarations only add types
pub declared_begins : (types : Table) (ds : SourceTree) → Begins types (declared_from types ds)
declared_begins types [] = begins_itself types
declared_begins types (declared_type d ∷ ds) =
    begins_through types (with_type types d) (declared_from (with_type types d) ds) (type_begins types d) (declared_begins (with_type types d) ds)
declared_begins types (automaton a ∷ ds) = declared_begins types ds
declared_begins types (composition c ∷ ds) = declared_begins types ds
declared_begins types (invariant i ∷ ds) = declared_begins types ds

pub declared-append : (types : Table) (before ds : SourceTree) → declared_from types (before ++ ds) ≡ declared_from (declared_from types before) ds
declared-append types [] ds = refl
declared-append types (declared_type d ∷ before) ds = declared-append (with_type types d) before ds
declared-append types (automaton a ∷ before) ds = declared-append types before ds
declared-append types (composition c ∷ before) ds = declared-append types before ds
declared-append types (invariant i ∷ before) ds = declared-append types before ds

-- the types of the first declarations are the first of all
pub types_begin : (before ds : SourceTree) → Begins (types_of before) (types_of (before ++ ds))
types_begin before ds = subst (Begins (types_of before)) (sym (declared-append basic before ds)) (declared_begins (types_of before) ds)

-- ---- automata, compositions and invariants

-- a declaration is fine, and so are those after it
pub first_fine : (types : Table) (globals : List Name) (before : SourceTree) (d : DeclarationTree) (ds : SourceTree)
    → declarations_fine types globals before (d ∷ ds) ≡ true
    → (declaration_fine types globals before d ≡ true) × (declarations_fine types globals (before ++ d ∷ []) ds ≡ true)
first_fine types globals before d ds h = and_parts (declaration_fine types globals before d) (declarations_fine types globals (before ++ d ∷ []) ds) h

pub one_more : (before : SourceTree) (d : DeclarationTree) (ds : SourceTree) → (before ++ d ∷ []) ++ ds ≡ before ++ d ∷ ds
one_more before d ds = append_assoc before (d ∷ []) ds

-- an automaton that is declared before is one of the source's
instance_among : (types early : Table) (before ds : SourceTree) (i : InstanceTree) → instance_fine types early before i ≡ true
    → instance_fine types early (before ++ ds) i ≡ true
instance_among types early before ds i h =
    let declared = is_automaton_of i.automaton in
    let p = and_parts (list_any declared before) _ h in
    and_from (list_any declared (before ++ ds)) _ (list_any-append declared before ds ∙ or_left (list_any declared before) (list_any declared ds) p.0) p.1

composition_among : (types early : Table) (before ds : SourceTree) (c : CompositionTree) → composition_fine types early before c ≡ true
    → composition_fine types early (before ++ ds) c ≡ true
composition_among types early before ds c =
    let names = distinct (map (λ i. i.name) c.instances) && distinct c.hidden in
    and_implies names (list_all (instance_fine types early before) c.instances) names (list_all (instance_fine types early (before ++ ds)) c.instances) (λ h. h)
    (each_implies (instance_fine types early before) (instance_fine types early (before ++ ds)) c.instances (instance_among types early before ds))

module _ (s : SourceTree) (globals : List Name) where
  each_automaton : (before ds : SourceTree) → before ++ ds ≡ s → declarations_fine (types_of s) globals before ds ≡ true
      → list_all (automaton_fine (types_of s) (types_of s) globals) (automata ds) ≡ true
  each_automaton before [] e h = refl
  each_automaton before (declared_type d ∷ ds) e h =
      let p = first_fine (types_of s) globals before (declared_type d) ds h in
      each_automaton (before ++ declared_type d ∷ []) ds (one_more before (declared_type d) ds ∙ e) p.1
  each_automaton before (automaton a ∷ ds) e h =
      let p = first_fine (types_of s) globals before (automaton a) ds h in
      let early = subst (λ t. Begins (types_of before) (types_of t)) e (types_begin before (automaton a ∷ ds)) in
      and_from (automaton_fine (types_of s) (types_of s) globals a) (list_all (automaton_fine (types_of s) (types_of s) globals) (automata ds))
      (automaton_stays (types_of s) (types_of before) early globals a p.0)
      (each_automaton (before ++ automaton a ∷ []) ds (one_more before (automaton a) ds ∙ e) p.1)
  each_automaton before (composition c ∷ ds) e h =
      let p = first_fine (types_of s) globals before (composition c) ds h in
      each_automaton (before ++ composition c ∷ []) ds (one_more before (composition c) ds ∙ e) p.1
  each_automaton before (invariant i ∷ ds) e h =
      let p = first_fine (types_of s) globals before (invariant i) ds h in
      each_automaton (before ++ invariant i ∷ []) ds (one_more before (invariant i) ds ∙ e) p.1

  each_composition : (before ds : SourceTree) → before ++ ds ≡ s → declarations_fine (types_of s) globals before ds ≡ true
      → list_all (composition_fine (types_of s) (types_of s) s) (compositions ds) ≡ true
  each_composition before [] e h = refl
  each_composition before (declared_type d ∷ ds) e h =
      let p = first_fine (types_of s) globals before (declared_type d) ds h in
      each_composition (before ++ declared_type d ∷ []) ds (one_more before (declared_type d) ds ∙ e) p.1
  each_composition before (automaton a ∷ ds) e h =
      let p = first_fine (types_of s) globals before (automaton a) ds h in
      each_composition (before ++ automaton a ∷ []) ds (one_more before (automaton a) ds ∙ e) p.1
  each_composition before (composition c ∷ ds) e h =
      let p = first_fine (types_of s) globals before (composition c) ds h in
      let early = subst (λ t. Begins (types_of before) (types_of t)) e (types_begin before (composition c ∷ ds)) in
      let whole = composition_stays (types_of s) (types_of before) early before c p.0 in
      and_from (composition_fine (types_of s) (types_of s) s c) (list_all (composition_fine (types_of s) (types_of s) s) (compositions ds))
      (subst (λ t. composition_fine (types_of s) (types_of s) t c ≡ true) e (composition_among (types_of s) (types_of s) before (composition c ∷ ds) c whole))
      (each_composition (before ++ composition c ∷ []) ds (one_more before (composition c) ds ∙ e) p.1)
  each_composition before (invariant i ∷ ds) e h =
      let p = first_fine (types_of s) globals before (invariant i) ds h in
      each_composition (before ++ invariant i ∷ []) ds (one_more before (invariant i) ds ∙ e) p.1

-- each automaton of a well formed source is fine over all its types
pub automata_fine : (s : SourceTree) → well_formed s ≡ true → list_all (automaton_fine (types_of s) (types_of s) (global_names s)) (automata s) ≡ true
automata_fine s h = each_automaton s (global_names s) [] s refl (source_parts s h).declarations

-- so is each composition, over all declarations
pub compositions_fine : (s : SourceTree) → well_formed s ≡ true → list_all (composition_fine (types_of s) (types_of s) s) (compositions s) ≡ true
compositions_fine s h = each_composition s (global_names s) [] s refl (source_parts s h).declarations
