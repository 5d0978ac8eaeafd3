-- The names of compositions are none that types give: all names of a source differ.
use Rattle.std.proofs.Common.{◌≡◌, ℕ, Bool, true, false, not, ◌&&◌, List, [], ◌∷◌, ◌++◌, Option, Some, None, refl, sym, ap, ◌∙◌, true≢false, append_assoc}
use Rattle.std.specs.List.{list_all, flat_map}
use Rattle.std.specs.Option.{option_map, option_map_or}
use Rattle.std.proofs.lemmas.Bool.{and_parts, and_from, not_from_false}
use Rattle.ioa_value.specs.Actions.{Name}
use Rattle.ioa_value.specs.Table.{Table, TupleField, Shape, names, fields, names_in, all_names, contains, distinct, apart, type_named}
use Rattle.ioa_value.specs.Table.{sequence as sequence_shape}
use Rattle.ioa_value.proofs.NameLemmas.{not_true, outside_both, distinct-append, distinct-again}
use Rattle.ioa_value.proofs.TableLemmas.{names_pushed}
use Rattle.ioa_tree.specs.Tree.{FormTree, enumeration, tuple, sequence, TypeTree, CompositionTree, declared_type, automaton, composition, invariant, SourceTree}
use Rattle.ioa_tree.specs.Types.{numbered, shape_of, declared, with_type, declared_from}
use Rattle.ioa_tree.specs.Compositions.{compositions}
use Rattle.ioa_tree.specs.WellFormed.{constants_of, declared_names}
use Rattle.ioa_crash.proofs.RewrittenFine.{outside}

-- ---- lists of names

-- a name that is left out
less : (xs : List Name) (n : Name) (ys : List Name) → distinct (xs ++ n ∷ ys) ≡ true → distinct (xs ++ ys) ≡ true
less xs n ys h =
    let p = and_parts (distinct xs) (distinct (n ∷ ys) && apart (n ∷ ys) xs) (sym (distinct-append xs (n ∷ ys)) ∙ h) in
    let q = and_parts (distinct (n ∷ ys)) (apart (n ∷ ys) xs) p.1 in
    let own = and_parts (not (contains ys n)) (distinct ys) q.0 in
    let out = and_parts (not (contains xs n)) (apart ys xs) q.1 in
    distinct-append xs ys ∙ and_from (distinct xs) (distinct ys && apart ys xs) p.0 (and_from (distinct ys) (apart ys xs) own.1 out.1)

-- names that are left out
fewer : (xs ms ys : List Name) → distinct (xs ++ (ms ++ ys)) ≡ true → distinct (xs ++ ys) ≡ true
fewer xs [] ys h = h
fewer xs (m ∷ ms) ys h = fewer xs ms ys (less xs m (ms ++ ys) h)

-- a name is none of those before it
new_before : (xs : List Name) (n : Name) (ys : List Name) → distinct (xs ++ n ∷ ys) ≡ true → contains xs n ≡ false
new_before xs n ys h = go (contains xs n) refl
  where
    go : (b : Bool) → contains xs n ≡ b → contains xs n ≡ false
    go true e = absurd (true≢false (sym h ∙ distinct-again xs n ys e))
    go false e = e

-- and none of those behind it
new_behind : (xs : List Name) (n : Name) (ys : List Name) → distinct (xs ++ n ∷ ys) ≡ true → contains ys n ≡ false
new_behind xs n ys h =
    let p = and_parts (distinct xs) (distinct (n ∷ ys) && apart (n ∷ ys) xs) (sym (distinct-append xs (n ∷ ys)) ∙ h) in
    let q = and_parts (distinct (n ∷ ys)) (apart (n ∷ ys) xs) p.1 in
    not_true (contains ys n) (and_parts (not (contains ys n)) (distinct ys) q.0).0

-- ---- types

-- a type gives the enumeration names of its declaration
same_constants : (types : Table) (form : FormTree) (shape : Shape) → shape_of types form ≡ Some shape → names_in shape ≡ constants_of form
same_constants types (enumeration ns) shape e = let same : names ns ≡ shape = cc in ap names_in (sym same)
same_constants types (tuple fs) shape e = go (numbered types fs) e
  where
    go : (o : Option (List TupleField)) → option_map fields o ≡ Some shape → names_in shape ≡ []
    go None k = absurd (cc)
    go (Some gs) k = let same : fields gs ≡ shape = cc in ap names_in (sym same)
same_constants types (sequence most of) shape e = go (type_named types of) e
  where
    go : (o : Option ℕ) → option_map (sequence_shape most) o ≡ Some shape → names_in shape ≡ []
    go None k = absurd (cc)
    go (Some ty) k = let same : sequence_shape most ty ≡ shape = cc in ap names_in (sym same)

module _ (types : Table) (d : TypeTree) where
  abbrev with_shape : Option Shape → Table
  with_shape o = option_map_or (λ shape. types ++ declared d shape ∷ []) o types

  -- one type more gives the names of its declaration
  more_names : (shape : Shape) → shape_of types d.form ≡ Some shape → all_names (types ++ declared d shape ∷ []) ≡ all_names types ++ (d.name ∷ constants_of d.form)
  more_names shape e =
      names_pushed types (declared d shape) ∙ ap (λ ns. all_names types ++ (d.name ∷ ns)) (same_constants types d.form shape e)

  outside_with : (x : Name) → contains (all_names types) x ≡ false → contains (d.name ∷ constants_of d.form) x ≡ false → contains (all_names (with_type types d)) x ≡ false
  outside_with x h k = go (shape_of types d.form) refl
    where
      go : (o : Option Shape) → shape_of types d.form ≡ o → contains (all_names (with_shape o)) x ≡ false
      go None e = h
      go (Some shape) e = ap (λ ns. contains ns x) (more_names shape e) ∙ outside (all_names types) (d.name ∷ constants_of d.form) x h k

  distinct_with : (later : List Name) → distinct (all_names types ++ ((d.name ∷ constants_of d.form) ++ later)) ≡ true → distinct (all_names (with_type types d) ++ later) ≡ true
  distinct_with later h = go (shape_of types d.form) refl
    where
      go : (o : Option Shape) → shape_of types d.form ≡ o → distinct (all_names (with_shape o) ++ later) ≡ true
      go None e = fewer (all_names types) (d.name ∷ constants_of d.form) later h
      go (Some shape) e =
          ap (λ ns. distinct (ns ++ later)) (more_names shape e) ∙ ap distinct (append_assoc (all_names types) (d.name ∷ constants_of d.form) later) ∙ h

-- a name that neither the types give nor the declarations is none that all types give
outside_from : (types : Table) (ds : SourceTree) (x : Name) → contains (all_names types) x ≡ false → contains (flat_map declared_names ds) x ≡ false
    → contains (all_names (declared_from types ds)) x ≡ false
outside_from types [] x h k = h
outside_from types (declared_type d ∷ ds) x h k =
    let p = outside_both (d.name ∷ constants_of d.form) (flat_map declared_names ds) x k in
    outside_from (with_type types d) ds x (outside_with types d x h p.0) p.1
outside_from types (automaton a ∷ ds) x h k = outside_from types ds x h (outside_both (a.name ∷ []) (flat_map declared_names ds) x k).1
outside_from types (composition c ∷ ds) x h k = outside_from types ds x h (outside_both (c.name ∷ []) (flat_map declared_names ds) x k).1
outside_from types (invariant v ∷ ds) x h k = outside_from types ds x h k

-- ---- compositions

abbrev pub is_apart : Table → CompositionTree → Bool
is_apart types c = not (contains (all_names types) c.name)

-- no composition has a name that a type gives
pub compositions_apart : (types : Table) (ds : SourceTree) → distinct (all_names types ++ flat_map declared_names ds) ≡ true
    → list_all (is_apart (declared_from types ds)) (compositions ds) ≡ true
compositions_apart types [] h = refl
compositions_apart types (declared_type d ∷ ds) h = compositions_apart (with_type types d) ds (distinct_with types d (flat_map declared_names ds) h)
compositions_apart types (automaton a ∷ ds) h = compositions_apart types ds (less (all_names types) a.name (flat_map declared_names ds) h)
compositions_apart types (composition c ∷ ds) h =
    let later = flat_map declared_names ds in
    let new = outside_from types ds c.name (new_before (all_names types) c.name later h) (new_behind (all_names types) c.name later h) in
    and_from (is_apart (declared_from types ds) c) (list_all (is_apart (declared_from types ds)) (compositions ds))
    (not_from_false (contains (all_names (declared_from types ds)) c.name) new) (compositions_apart types ds (less (all_names types) c.name later h))
compositions_apart types (invariant v ∷ ds) h = compositions_apart types ds h
