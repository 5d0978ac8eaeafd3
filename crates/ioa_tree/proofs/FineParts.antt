-- What fine automata and sources keep, part by part.
use Rattle.std.proofs.Common.{ℕ, ◌≤◌, not, ◌&&◌, ◌||◌, ◌++◌, nat_le, IsTrue, List, [], ◌∷◌, map, filter, length, refl, arith}
use Rattle.std.specs.List.{list_all}
use Rattle.std.proofs.lemmas.Bool.{and_parts, and_from}
use Rattle.std.proofs.lemmas.Bool.Decides.{nat_tests}
use Rattle.ioa_value.specs.Actions.{Name}
use Rattle.ioa_value.specs.Table.{Table}
use Rattle.ioa_tree.specs.Tree.{PositionTree, typed, only, AutomatonTree, EntryTree, SourceTree}
use Rattle.ioa_tree.specs.Types.{types_of}
use Rattle.ioa_value.specs.declared.limits.Limits.{Limits}
use Rattle.ioa_value.specs.declared.limits.TheConstants.{LIMITS}
use Rattle.ioa_tree.specs.WellFormed.{distinct, apart, Context, is_type, position_fields, position_fine, parameter_names, variable_fields, formals, local_names, fields_fine, start_fine, entry_fine, matches, one_to_one, transition_fine, automaton_fine, transition_within, entry_within, automaton_within, declarations_fine, declaration_within, source_within, global_names, is_type_declaration, is_counted, is_invariant, types_narrow, well_formed}

pub at_most : (n m : ℕ) → IsTrue (nat_le n m) → n ≤ m
at_most n m h = grind (arith, nat_tests)

-- the types of parameters are known, where all positions are fine
pub parameters_known : (early : Table) (c : Context) (ps : List PositionTree) → IsTrue (list_all (position_fine early c) ps)
    → IsTrue (list_all (is_type early) (position_fields ps))
parameters_known early c [] h = refl
parameters_known early c (typed f ∷ ps) h =
    let p = and_parts (is_type early f) (list_all (position_fine early c) ps) h in
    and_from (is_type early f) (list_all (is_type early) (position_fields ps)) p.0 (parameters_known early c ps p.1)
parameters_known early c (only k ∷ ps) h = parameters_known early c ps (and_parts (position_fine early c (only k)) (list_all (position_fine early c) ps) h).1

module _ (types early : Table) (globals : List Name) (a : AutomatonTree) where
  -- what a fine automaton keeps
  pub record FineParts : Type 0 where
    pub distinct_names : IsTrue (distinct (local_names types early globals a))
    pub apart_names : IsTrue (apart (local_names types early globals a) globals)
    pub formal_types : IsTrue (list_all (is_type early) a.formals)
    pub variable_types : IsTrue (list_all (is_type early) (variable_fields a))
    pub starts : IsTrue (list_all (start_fine types early globals a) a.variables)
    pub entry_names : IsTrue (distinct (map (λ e. e.name) a.entries))
    pub entries : IsTrue (list_all (entry_fine types early globals a) a.entries)
    pub one_each : IsTrue (one_to_one types early globals a)
    pub transitions : IsTrue (list_all (λ e. list_all (λ r. not (matches types early globals a e r) || transition_fine types early globals a e r) a.transitions) a.entries)

  pub fine_parts : IsTrue (automaton_fine types early globals a) → FineParts
  fine_parts h =
      let p5 = and_parts _ _ h in
      let p4 = and_parts _ _ p5.0 in
      let p3 = and_parts _ _ p4.0 in
      let p2 = and_parts _ _ p3.0 in
      let p1 = and_parts (fields_fine types early globals a) (list_all (start_fine types early globals a) a.variables) p2.0 in
      let names = local_names types early globals a in
      let f3 = and_parts (distinct names && apart names globals && list_all (is_type early) a.formals) (list_all (is_type early) (variable_fields a)) p1.0 in
      let f2 = and_parts (distinct names && apart names globals) (list_all (is_type early) a.formals) f3.0 in
      let f1 = and_parts (distinct names) (apart names globals) f2.0 in
      record {
        distinct_names = f1.0;
        apart_names = f1.1;
        formal_types = f2.1;
        variable_types = f3.1;
        starts = p1.1;
        entry_names = p2.1;
        entries = p3.1;
        one_each = p4.1;
        transitions = p5.1;
      }

  -- what a fine entry keeps
  pub record EntryParts (e : EntryTree) : Type 0 where
    pub distinct_names : IsTrue (distinct (parameter_names e))
    pub apart_names : IsTrue (apart (parameter_names e) (globals ++ local_names types early globals a))
    pub positions : IsTrue (list_all (position_fine early (formals types early globals a)) e.positions)
    pub position_types : IsTrue (list_all (is_type early) (position_fields e.positions))

  pub entry_parts : (e : EntryTree) → IsTrue (entry_fine types early globals a e) → EntryParts e
  entry_parts e h =
      let names = parameter_names e in
      let others = globals ++ local_names types early globals a in
      let c = formals types early globals a in
      let p2 = and_parts (distinct names && apart names others) (list_all (position_fine early c) e.positions) h in
      let p1 = and_parts (distinct names) (apart names others) p2.0 in
      record { distinct_names = p1.0; apart_names = p1.1; positions = p2.1; position_types = parameters_known early c e.positions p2.1 }

-- ---- limits

-- what an automaton within limits keeps
pub record WithinParts (most : Limits) (a : AutomatonTree) : Type 0 where
  pub formals : length a.formals ≤ most.parameters
  pub variables : length a.variables ≤ most.variables
  pub entries : length a.entries ≤ most.entries
  pub each_entry : IsTrue (list_all (entry_within most) a.entries)
  pub each_transition : IsTrue (list_all (transition_within most) a.transitions)

pub within_parts : (most : Limits) (a : AutomatonTree) → IsTrue (automaton_within most a) → WithinParts most a
within_parts most a h =
    let p4 = and_parts _ _ h in
    let p3 = and_parts _ _ p4.0 in
    let p2 = and_parts (nat_le (length a.formals) most.parameters && nat_le (length a.variables) most.variables) (nat_le (length a.entries) most.entries) p3.0 in
    let p1 = and_parts (nat_le (length a.formals) most.parameters) (nat_le (length a.variables) most.variables) p2.0 in
    record {
      formals = at_most (length a.formals) most.parameters p1.0;
      variables = at_most (length a.variables) most.variables p1.1;
      entries = at_most (length a.entries) most.entries p2.1;
      each_entry = p3.1;
      each_transition = p4.1;
    }

-- ---- sources

pub record SourceParts (s : SourceTree) : Type 0 where
  pub distinct_names : IsTrue (distinct (global_names s))
  pub declarations : IsTrue (declarations_fine (types_of s) (global_names s) [] s)
  pub limits : IsTrue (source_within LIMITS s)
  pub few : length (filter is_counted s) ≤ LIMITS.automata
  pub few_invariants : length (filter is_invariant s) ≤ LIMITS.invariants
  pub within : IsTrue (list_all (declaration_within LIMITS) s)
  pub narrow : IsTrue (types_narrow LIMITS s)

pub source_parts : (s : SourceTree) → IsTrue (well_formed s) → SourceParts s
source_parts s h =
    let p3 = and_parts (distinct (global_names s) && declarations_fine (types_of s) (global_names s) [] s && source_within LIMITS s) (types_narrow LIMITS s) h in
    let p2 = and_parts (distinct (global_names s) && declarations_fine (types_of s) (global_names s) [] s) (source_within LIMITS s) p3.0 in
    let p1 = and_parts (distinct (global_names s)) (declarations_fine (types_of s) (global_names s) [] s) p2.0 in
    let few = nat_le (length (filter is_type_declaration s)) LIMITS.types && nat_le (length (filter is_counted s)) LIMITS.automata in
    let few_invariants = nat_le (length (filter is_invariant s)) LIMITS.invariants in
    let w3 = and_parts (few && few_invariants) (list_all (declaration_within LIMITS) s) p2.1 in
    let w2 = and_parts few few_invariants w3.0 in
    let w1 = and_parts (nat_le (length (filter is_type_declaration s)) LIMITS.types) (nat_le (length (filter is_counted s)) LIMITS.automata) w2.0 in
    record {
      distinct_names = p1.0;
      declarations = p1.1;
      limits = p2.1;
      few = at_most (length (filter is_counted s)) LIMITS.automata w1.1;
      few_invariants = at_most (length (filter is_invariant s)) LIMITS.invariants w2.1;
      within = w3.1;
      narrow = p3.1;
    }
