-- Automata whose names a text can spell, part by part.
use Rattle.std.proofs.Common.{◌≡◌, true, ◌&&◌, List, [], ◌∷◌, ◌++◌, map, All, refl}
use Rattle.std.specs.List.{list_all, flat_map}
use Rattle.std.proofs.lemmas.Bool.{and_parts, and_from}
use Rattle.ioa_value.specs.Actions.{Name}
use Rattle.ioa_value.specs.Names.{IsName}
use Rattle.ioa_tree.specs.Tree.{FieldTree, PositionTree, typed, only, EntryTree, VariableTree, TransitionTree, AutomatonTree}
use Rattle.ioa_tree.specs.Names.{names_of_field, names_of_constant, names_of_position, names_of_entry, names_of_option, names_of_variable, names_of_proposal, names_of_stmts, names_of_transition, names_of_automaton}
use Rattle.ioa_tree.specs.Instances.{field_names, variable_names, position_fields}
use Rattle.ioa_tree.proofs.Agreement.{all_both}
use Rattle.ioa_crash.specs.Rewriting.{spelled}
use Rattle.ioa_crash.proofs.SpelledNames.{all_spelled}

-- what a tree of spelled names has
pub record IsSpelled (a : AutomatonTree) : Type 0 where
  pub formals : list_all spelled (field_names a.formals) ≡ true
  pub variables : list_all spelled (variable_names a) ≡ true
  pub starts : list_all (λ v. list_all spelled (names_of_option v.start)) a.variables ≡ true
  pub entries : list_all (λ e. list_all spelled (names_of_entry e)) a.entries ≡ true
  pub transitions : list_all (λ t. list_all spelled (names_of_transition t)) a.transitions ≡ true

all_flat : {X : Type 0} (f : X → List Name) (xs : List X) → list_all spelled (flat_map f xs) ≡ true → list_all (λ x. list_all spelled (f x)) xs ≡ true
all_flat f [] h = refl
all_flat f (x ∷ xs) h =
    let k = all_both spelled (f x) (flat_map f xs) h in
    and_from (list_all spelled (f x)) (list_all (λ y. list_all spelled (f y)) xs) k.0 (all_flat f xs k.1)

fields_spelled : (fs : List FieldTree) → list_all (λ f. list_all spelled (names_of_field f)) fs ≡ true → list_all spelled (field_names fs) ≡ true
fields_spelled [] h = refl
fields_spelled (f ∷ fs) h =
    let k = and_parts (list_all spelled (names_of_field f)) (list_all (λ g. list_all spelled (names_of_field g)) fs) h in
    and_from (spelled f.name) (list_all spelled (field_names fs)) (and_parts (spelled f.name) (spelled f.ty && true) k.0).0 (fields_spelled fs k.1)

variables_spelled : (vs : List VariableTree) → list_all (λ v. list_all spelled (names_of_variable v)) vs ≡ true
    → (list_all spelled (map (λ (v : VariableTree). v.field.name) vs) ≡ true) × (list_all (λ (v : VariableTree). list_all spelled (names_of_option v.start)) vs ≡ true)
variables_spelled [] h = (refl, refl)
variables_spelled (v ∷ vs) h =
    let k = and_parts (list_all spelled (names_of_variable v)) (list_all (λ u. list_all spelled (names_of_variable u)) vs) h in
    let j = and_parts (spelled v.field.name) (spelled v.field.ty && list_all spelled (names_of_option v.start)) k.0 in
    let l = and_parts (spelled v.field.ty) (list_all spelled (names_of_option v.start)) j.1 in
    let rest = variables_spelled vs k.1 in (
      and_from (spelled v.field.name) (list_all spelled (map (λ (u : VariableTree). u.field.name) vs)) j.0 rest.0,
      and_from (list_all spelled (names_of_option v.start)) (list_all (λ (u : VariableTree). list_all spelled (names_of_option u.start)) vs) l.1 rest.1,
    )

positions_spelled : (ps : List PositionTree) → list_all spelled (flat_map names_of_position ps) ≡ true → list_all spelled (field_names (position_fields ps)) ≡ true
positions_spelled [] h = refl
positions_spelled (typed f ∷ ps) h =
    let k = and_parts (spelled f.name) (spelled f.ty && list_all spelled (flat_map names_of_position ps)) h in
    let j = and_parts (spelled f.ty) (list_all spelled (flat_map names_of_position ps)) k.1 in
    and_from (spelled f.name) (list_all spelled (field_names (position_fields ps))) k.0 (positions_spelled ps j.1)
positions_spelled (only c ∷ ps) h = positions_spelled ps (all_both spelled (names_of_constant c) (flat_map names_of_position ps) h).1

-- the names of an entry's parameters
pub parameters_spelled : (e : EntryTree) → list_all spelled (names_of_entry e) ≡ true → list_all spelled (field_names (position_fields e.positions)) ≡ true
parameters_spelled e h = positions_spelled e.positions (and_parts (spelled e.name) (list_all spelled (flat_map names_of_position e.positions)) h).1

-- the parts of a transition
pub record Parts (t : TransitionTree) : Type 0 where
  pub name : spelled t.name ≡ true
  pub pre : list_all spelled (names_of_option t.pre) ≡ true
  pub proposals : list_all spelled (flat_map names_of_proposal t.proposals) ≡ true
  pub effect : list_all spelled (names_of_stmts t.effect) ≡ true

pub parts_spelled : (t : TransitionTree) → list_all spelled (names_of_transition t) ≡ true → Parts t
parts_spelled t h =
    let pre = names_of_option t.pre in
    let proposals = flat_map names_of_proposal t.proposals in
    let effect = names_of_stmts t.effect in
    let k = and_parts (spelled t.name) (list_all spelled (pre ++ (proposals ++ effect))) h in
    let j = all_both spelled pre (proposals ++ effect) k.1 in
    let l = all_both spelled proposals effect j.1 in
    record { name = k.0; pre = j.0; proposals = l.0; effect = l.1 }

pub automaton_spelled : (a : AutomatonTree) → All IsName (names_of_automaton a) → IsSpelled a
automaton_spelled a h =
    let formals = flat_map names_of_field a.formals in
    let entries = flat_map names_of_entry a.entries in
    let variables = flat_map names_of_variable a.variables in
    let transitions = flat_map names_of_transition a.transitions in
    let whole = all_spelled (names_of_automaton a) h in
    let inside = and_parts (spelled a.name) (list_all spelled (formals ++ (entries ++ (variables ++ transitions)))) whole in
    let k = all_both spelled formals (entries ++ (variables ++ transitions)) inside.1 in
    let j = all_both spelled entries (variables ++ transitions) k.1 in
    let l = all_both spelled variables transitions j.1 in
    let of_variables = variables_spelled a.variables (all_flat names_of_variable a.variables l.0) in
    record {
      formals = fields_spelled a.formals (all_flat names_of_field a.formals k.0);
      variables = of_variables.0;
      starts = of_variables.1;
      entries = all_flat names_of_entry a.entries j.0;
      transitions = all_flat names_of_transition a.transitions l.1;
    }
