-- What a well-formed automaton's entry keeps.
use Rattle.std.proofs.Common.{All, inl, inr, ◌≡◌, ℕ, ◌+◌, ◌<◌, ◌≤◌, Bool, true, false, cond, not, ◌&&◌, ◌||◌, ◌==◌, nat_le, nat_lt, if◌then◌else◌, IsTrue, List, [], ◌∷◌, ◌++◌, map, length, option_and_then, Option, Some, None, IsSome, pos, refl, sym, ap, ◌∙◌, subst, arith}
use Rattle.std.specs.Prelude.{slice_get, sum}
use Rattle.std.specs.List.{list_all, list_any, filter}
use Rattle.std.specs.Option.{option_map_or}
use Rattle.std.specs.Str.{bytes_eq}
use Rattle.std.proofs.lemmas.Bool.{and_parts, or_parts}
use Rattle.std.proofs.lemmas.Bool.Decides.{nat_tests}
use Rattle.std.proofs.lemmas.List.{length-map}
use Rattle.ioa_value.specs.Actions.{Name}
use Rattle.ioa_arithmetic.specs.Arithmetic.{fits}
use Rattle.ioa_value.specs.Operators.{op_type}
use Rattle.ioa_value.specs.Positions.{Domain, IsDomain}
use Rattle.ioa_value.specs.Table.{Table, AreTypes, place_from, type_named, item_type}
use Rattle.ioa_value.specs.Typing.{HaveTypes, own}
use Rattle.ioa_value.specs.declared.limits.TheConstants.{LIMITS}
use Rattle.ioa_value.proofs.ItemLemmas.{all_at, some_at}
use Rattle.ioa_value.proofs.TypingLemmas.{HaveTypes-length, HaveTypes-owns}
use Rattle.ioa_value.proofs.NameLemmas.{same_name, outside_both}
use Rattle.ioa_tree.specs.declared.tree.Kind.{Kind}
use Rattle.ioa_tree.specs.declared.tree.Kind.TheVariants.{Input, Output, Internal}
use Rattle.ioa_tree.specs.Tree.{Expr, number, truth, named, parens, prefix, binary, empty, make, select, Exprs, no_expr, also, Stmt, assign, choose, each, Stmts, stop, seq, Arms, no_arm, arm, expr_in, AutomatonTree, EntryTree, TransitionTree, VariableTree}
use Rattle.ioa_tree.specs.Types.{empty_of}
use Rattle.ioa_tree.specs.Instances.{field_names, variable_names, transition_for}
use Rattle.ioa_tree.specs.Domains.{AreDomainsOf}
use Rattle.ioa_tree.specs.Compositions.{Member}
use Rattle.ioa_tree.specs.WellFormed.{Context, type_in, type_of, types_of_all, infix_type, is_some_of, has_ty, nodes, stmts_nodes, is_type, contains, parameter_names, local_names, taken, item_in, context_of, variable_fields, same_kind, is_input, scope, entry_fine, matches, pre_fine, stmt_fine, stmts_fine, arms_fine, effect_fine, input_fine, proposals_fine, all_proposed, transition_fine, pre_within, proposals_within, effect_within, transition_within, entry_within}
use Rattle.ioa_tree.proofs.FineParts.{FineParts, fine_parts, EntryParts, entry_parts, within_parts}
use Rattle.ioa_tree.proofs.Domains.{domains_are}
use Rattle.ioa_tree.proofs.ValTyped.{type_of_one, types_of_both, types_of_row}
use Rattle.ioa_compose.specs.Fine.{IsFine}
use Rattle.ioa_crash.specs.Limits.{component_limits}
use Rattle.ioa_emit.specs.Scopes.{Scope, within, scope_of, Origin, on_stack, slot, formal, parameter, fixed, unknown, origin, IsOrigin, IsKnown, AreAllKnown, IsKnownStmt, AreKnown, AreKnownArms, IsKnownGuard, IsScope, place_of}
use Rattle.ioa_emit.specs.Emitting.{guard_nodes}
use Rattle.ioa_compile.specs.Matching.{AreTypesOf}
use Rattle.ioa_compile.specs.Tables.{position_types}
use Rattle.ioa_compile.specs.Translated.{IsEntryOf}
use Rattle.ioa_compile.proofs.Looks.{look, looks, look_inside, Looked, name_same, not_true}
use Rattle.ioa_compile.proofs.Parameters.{types_of_domains}
use Rattle.ioa_compile.proofs.Standing.{at, stands, in_turn, Names, named_at, names_within}
use Rattle.ioa_compile.proofs.Fits.{fit_types, types_long, scope_look, fields_look, variables_names}
use Rattle.ioa_emit.proofs.Fixed.{empty_known}
use Rattle.ioa_compile.proofs.Tuples.{of_make, of_select, place_is, item_is}
use Rattle.ioa_compile.proofs.Typed.{GuardTyped, StmtTyped, StmtsTyped, ArmsTyped}
use Rattle.ioa_compile.proofs.Finds.{IsFirst, finds, same_item}

-- ---- the transition of an entry

pub kinds_same : (k l : Kind) → IsTrue (same_kind k l) → k ≡ l
kinds_same Input Input h = refl
kinds_same Input Output h = absurd (cc)
kinds_same Input Internal h = absurd (cc)
kinds_same Output Input h = absurd (cc)
kinds_same Output Output h = refl
kinds_same Output Internal h = absurd (cc)
kinds_same Internal Input h = absurd (cc)
kinds_same Internal Output h = absurd (cc)
kinds_same Internal Internal h = refl

pub record Found (types : Table) (g : List Name) (a : AutomatonTree) (e : EntryTree) : Type 0 where
  pub transition : TransitionTree
  pub place : ℕ
  pub here : slice_get a.transitions place ≡ Some transition
  pub found : transition_for a e ≡ Some transition
  pub kind : e.kind ≡ transition.kind
  pub fine : IsTrue (transition_fine types types g a e transition)

or_right : (a b : Bool) → IsTrue (not a || b) → a ≡ true → IsTrue b
or_right true b h e = h
or_right false b h e = absurd (cc)

one_positive : (n : ℕ) → IsTrue (n == 1) → 0 < n
one_positive n h = grind (arith, nat_tests)

module _ (types : Table) (g : List Name) (a : AutomatonTree) (p : FineParts types types g a) (e : EntryTree) (i : ℕ) (here : slice_get a.entries i ≡ Some e) where
  each_one : IsTrue (list_all (λ e. length (filter (matches types types g a e) a.transitions) == 1) a.entries) × IsTrue (list_all (λ r. list_any (λ e. matches types types g a e r) a.entries) a.transitions)
  each_one = and_parts _ _ p.one_each

  first_named : IsFirst (λ t. bytes_eq t.name e.name) a.transitions (transition_for a e)
  first_named =
      let one = all_at (λ e. length (filter (matches types types g a e) a.transitions) == 1) a.entries i e each_one.0 here in
      finds (λ t. bytes_eq t.name e.name) (matches types types g a e) (λ r h. name_same r.name e.name (sym (same_name e.name r.name (and_parts (same_kind e.kind r.kind) (bytes_eq e.name r.name) h).1))) a.transitions (one_positive (length (filter (matches types types g a e) a.transitions)) one)

  pub transition_found : Found types g a e
  transition_found =
      let t = first_named.item in
      let owner = some_at (λ e. matches types types g a e t) a.entries (all_at (λ r. list_any (λ e. matches types types g a e r) a.entries) a.transitions first_named.place t each_one.1 first_named.here) in
      let its_name = (and_parts (same_kind owner.0.kind t.kind) (bytes_eq owner.0.name t.name) owner.3).1 in
      let names : owner.0.name ≡ e.name = same_name owner.0.name t.name its_name ∙ same_name t.name e.name first_named.passes in
      let same = same_item (λ e. e.name) a.entries owner.1 i owner.0 e p.entry_names owner.2 here names in
      let match : matches types types g a e t ≡ true = subst (λ (x : EntryTree). matches types types g a x t ≡ true) same owner.3 in
      let tests = all_at (λ e. list_all (λ r. not (matches types types g a e r) || transition_fine types types g a e r) a.transitions) a.entries i e p.transitions here in
      let test = all_at (λ r. not (matches types types g a e r) || transition_fine types types g a e r) a.transitions first_named.place t tests first_named.here in
      record {
        transition = t;
        place = first_named.place;
        here = first_named.here;
        found = first_named.found;
        kind = kinds_same e.kind t.kind (and_parts (same_kind e.kind t.kind) (bytes_eq e.name t.name) match).0;
        fine = or_right (matches types types g a e t) (transition_fine types types g a e t) test match;
      }

-- ---- typed preconditions and statements

-- no type is known of a name that is no variable's
unknown_variable : (types : Table) (vs : List VariableTree) (x : Name) → contains (map (λ v. v.field.name) vs) x ≡ false → type_in (context_of types (map (λ v. v.field) vs)) x ≡ None
unknown_variable types [] x h = refl
unknown_variable types (v ∷ vs) x h =
    let parts = or_parts (bytes_eq v.field.name x) (contains (map (λ v. v.field.name) vs) x) h in
    go (type_named types v.field.ty) parts.0 (unknown_variable types vs x parts.1)
  where
    rest : Context
    rest = context_of types (map (λ v. v.field) vs)

    go : (o : Option ℕ) → bytes_eq v.field.name x ≡ false → type_in rest x ≡ None → type_in (option_map_or (λ n. (v.field.name, n) ∷ []) o [] ++ rest) x ≡ None
    go (Some n) other none = ap (λ b. cond b (Some n) (type_in rest x)) other ∙ none
    go None other none = none

some_of : (o : Option ℕ) (ty : ℕ) → IsTrue (is_some_of o ty) → o ≡ Some ty
some_of (Some t) ty h = let same : t ≡ ty = grind (arith, nat_tests) in ap Some same
some_of None ty h = absurd (cc)

module _ (types : Table) (g : List Name) (a : AutomatonTree) (e : EntryTree) where
  guard_tests : (o : Option Expr) → IsTrue (option_map_or (λ p. is_some_of (type_of types types (scope types types g a e) p) 0) o true) → GuardTyped types (scope types types g a e) o
  guard_tests None h = tt
  guard_tests (Some p) h = some_of (type_of types types (scope types types g a e) p) 0 h

  none_typed : (o : Option Expr) → IsTrue (option_map_or (λ p. false) o true) → GuardTyped types (scope types types g a e) o
  none_typed None h = tt
  none_typed (Some p) h = absurd (cc)

  guard_cases : (b : Bool) (r : TransitionTree) → IsTrue (if b then input_fine types types g a r else pre_fine types types g a e r && proposals_fine types types g a e r && all_proposed types types g a e r) → GuardTyped types (scope types types g a e) r.pre
  guard_cases true r h = none_typed r.pre (and_parts (option_map_or (λ p. false) r.pre true) (length r.proposals == 0) h).0
  guard_cases false r h =
      let q = pre_fine types types g a e r in
      guard_tests r.pre (and_parts q (proposals_fine types types g a e r) (and_parts (q && proposals_fine types types g a e r) (all_proposed types types g a e r) h).0).0

  pub guard_typed : (r : TransitionTree) → IsTrue (transition_fine types types g a e r) → GuardTyped types (scope types types g a e) r.pre
  guard_typed r h = guard_cases (is_input r.kind) r (and_parts (effect_fine types types g a e r) _ h).1

  -- the types of what statements may name, and of the variables
  abbrev named_there : Context
  named_there = scope types types g a e

  abbrev written_there : Context
  written_there = context_of types (variable_fields a)

  assign_tests : (loops : Context) (x : Name) (v : Expr) → IsTrue (stmt_fine types types g a e loops (assign x v)) → StmtTyped types named_there written_there loops (assign x v)
  assign_tests loops x v h = go (type_in written_there x) refl h
    where
      go : (o : Option ℕ) → type_in written_there x ≡ o → IsTrue (option_map_or (λ ty. is_some_of (type_of types types (loops ++ named_there) v) ty) o false) → StmtTyped types named_there written_there loops (assign x v)
      go None t h = absurd (cc)
      go (Some ty) t h = (ty, t, some_of (type_of types types (loops ++ named_there) v) ty h)

  -- a name that is taken by nothing is no variable's
  no_variable : (loops : Context) (x : Name) → contains (taken types types g a e loops) x ≡ false → type_in written_there x ≡ None
  no_variable loops x h =
      let inner = (outside_both (map (λ p. p.0) loops) (parameter_names e ++ (g ++ local_names types types g a)) x h).1 in
      let local = (outside_both g (local_names types types g a) x (outside_both (parameter_names e) (g ++ local_names types types g a) x inner).1).1 in
      unknown_variable types a.variables x (outside_both (field_names a.formals) (variable_names a) x local).1

  abbrev body_fine : Context → Name → Stmts → ℕ → Bool
  body_fine loops x ss item = stmts_fine types types g a e ((x, item) ∷ loops) ss

  loop_tests : (loops : Context) (x : Name) (v : Expr) (ss : Stmts) → IsTrue (stmt_fine types types g a e loops (each x v ss)) → ((item : ℕ) → IsTrue (stmts_fine types types g a e ((x, item) ∷ loops) ss) → StmtsTyped types named_there written_there ((x, item) ∷ loops) ss) → StmtTyped types named_there written_there loops (each x v ss)
  loop_tests loops x v ss h body =
      let new = and_parts (not (contains (taken types types g a e loops) x)) (nat_lt (length loops) LIMITS.loops && option_map_or (body_fine loops x ss) (item_in types types g a e loops v) false) h in
      let few = and_parts (nat_lt (length loops) LIMITS.loops) (option_map_or (body_fine loops x ss) (item_in types types g a e loops v) false) new.1 in
      of_type (no_variable loops x (not_true (contains (taken types types g a e loops) x) new.0)) (grind (arith, nat_tests)) (type_of types types (loops ++ named_there) v) refl few.1
    where
      of_item : type_in written_there x ≡ None → length loops < LIMITS.loops → (ty : ℕ) → type_of types types (loops ++ named_there) v ≡ Some ty → (o : Option ℕ) → item_type types ty ≡ o → IsTrue (option_map_or (body_fine loops x ss) o false) → StmtTyped types named_there written_there loops (each x v ss)
      of_item fresh few ty t None is h = absurd (cc)
      of_item fresh few ty t (Some item) is h = (ty, item, t, is, fresh, few, body item h)

      of_type : type_in written_there x ≡ None → length loops < LIMITS.loops → (o : Option ℕ) → type_of types types (loops ++ named_there) v ≡ o → IsTrue (option_map_or (body_fine loops x ss) (option_and_then (item_type types) o) false) → StmtTyped types named_there written_there loops (each x v ss)
      of_type fresh few None t h = absurd (cc)
      of_type fresh few (Some ty) t h = of_item fresh few ty t (item_type types ty) refl h

  mutual
    stmt_tests : (loops : Context) (s : Stmt) → IsTrue (stmt_fine types types g a e loops s) → StmtTyped types named_there written_there loops s
    stmt_tests loops (assign x v) h = assign_tests loops x v h
    stmt_tests loops (choose arms others) h =
        let parts = and_parts (arms_fine types types g a e loops arms) (stmts_fine types types g a e loops others) h in
        (arms_tests loops arms parts.0, stmts_tests loops others parts.1)
    stmt_tests loops (each x v ss) h = loop_tests loops x v ss h (λ item k. stmts_tests ((x, item) ∷ loops) ss k)

    stmts_tests : (loops : Context) (ss : Stmts) → IsTrue (stmts_fine types types g a e loops ss) → StmtsTyped types named_there written_there loops ss
    stmts_tests loops stop h = tt
    stmts_tests loops (seq s ss) h =
        let parts = and_parts (stmt_fine types types g a e loops s) (stmts_fine types types g a e loops ss) h in
        (stmt_tests loops s parts.0, stmts_tests loops ss parts.1)

    arms_tests : (loops : Context) (arms : Arms) → IsTrue (arms_fine types types g a e loops arms) → ArmsTyped types named_there written_there loops arms
    arms_tests loops no_arm h = tt
    arms_tests loops (arm c ss more) h =
        let parts = and_parts (has_ty types types (loops ++ named_there) c 0) (stmts_fine types types g a e loops ss && arms_fine types types g a e loops more) h in
        let inner = and_parts (stmts_fine types types g a e loops ss) (arms_fine types types g a e loops more) parts.1 in
        (some_of (type_of types types (loops ++ named_there) c) 0 parts.0, stmts_tests loops ss inner.0, arms_tests loops more inner.1)

  pub effect_typed : (r : TransitionTree) → IsTrue (transition_fine types types g a e r) → StmtsTyped types (scope types types g a e) (context_of types (variable_fields a)) [] r.effect
  effect_typed r h = stmts_tests [] r.effect (and_parts (effect_fine types types g a e r) _ h).0

-- ---- the sizes of a transition's trees

at_most : (n : ℕ) → IsTrue (nat_le n component_limits.nodes) → n ≤ component_limits.nodes
at_most n h = grind (arith, nat_tests)

guard_few : (o : Option Expr) → IsTrue (option_map_or (λ p. nat_le (nodes p) component_limits.nodes) o true) → guard_nodes o ≤ component_limits.nodes
guard_few None h = omega arith
guard_few (Some p) h = at_most (nodes p) h

-- a transition's trees are small
pub record IsSmall (r : TransitionTree) : Type 0 where
  pub guard : guard_nodes r.pre ≤ component_limits.nodes
  pub proposals : sum (map (λ p. nodes (expr_in p.choice)) r.proposals) ≤ component_limits.nodes
  pub effect : stmts_nodes r.effect ≤ component_limits.nodes

small : (r : TransitionTree) → IsTrue (transition_within component_limits r) → IsSmall r
small r h =
    let p2 = and_parts (pre_within component_limits r && proposals_within component_limits r) (effect_within component_limits r) h in
    let p1 = and_parts (pre_within component_limits r) (proposals_within component_limits r) p2.0 in
    record { guard = guard_few r.pre p1.0; proposals = at_most (sum (map (λ p. nodes (expr_in p.choice)) r.proposals)) p1.1; effect = at_most (stmts_nodes r.effect) p2.1 }

-- ---- the types of what an entry's code may name

pub record Setting (m : Member) (e : EntryTree) (vs ps : List ℕ) : Type 0 where
  pub globals : List Name
  pub parts : FineParts m.instance.types m.instance.types globals m.instance.automaton
  pub entry : EntryParts m.instance.types m.instance.types globals m.instance.automaton e
  pub few_variables : length m.instance.automaton.variables ≤ component_limits.variables
  pub few_positions : length e.positions ≤ LIMITS.parameters
  pub variables : AreTypesOf m.instance.types (variable_fields m.instance.automaton) vs
  pub domains : List Domain
  pub parameters : AreDomainsOf m.instance e.positions domains
  pub types_are : ps ≡ position_types domains
  pub types : List ℕ
  pub formals : AreTypesOf m.instance.types m.instance.automaton.formals types
  pub given : HaveTypes m.instance.types m.instance.arguments types

module _ (m : Member) (e : EntryTree) (h : IsFine component_limits m) (own : IsEntryOf m e) where
  pub parts_of : FineParts m.instance.types m.instance.types h.automaton.0 m.instance.automaton
  parts_of = fine_parts m.instance.types m.instance.types h.automaton.0 m.instance.automaton h.automaton.1

  pub entry_of : EntryParts m.instance.types m.instance.types h.automaton.0 m.instance.automaton e
  entry_of =
      let t = m.instance.types in
      let g = h.automaton.0 in
      let a = m.instance.automaton in
      entry_parts t t g a e (all_at (entry_fine t t g a) a.entries own.place e parts_of.entries own.here)

  pub found_of : Found m.instance.types h.automaton.0 m.instance.automaton e
  found_of = transition_found m.instance.types h.automaton.0 m.instance.automaton parts_of e own.place own.here

  pub few_positions_of : length e.positions ≤ LIMITS.parameters
  few_positions_of =
      let a = m.instance.automaton in
      let test : nat_le (length e.positions) LIMITS.parameters ≡ true = all_at (entry_within LIMITS) a.entries own.place e h.narrow own.here in
      grind (arith, nat_tests)

  -- the transition that is found is a fine one
  pub fine_of : (t : TransitionTree) → transition_for m.instance.automaton e ≡ Some t → IsTrue (transition_fine m.instance.types m.instance.types h.automaton.0 m.instance.automaton e t)
  fine_of t is =
      let both : Some found_of.transition ≡ Some t = sym found_of.found ∙ is in
      let same : found_of.transition ≡ t = cc in
      subst (λ r. IsTrue (transition_fine m.instance.types m.instance.types h.automaton.0 m.instance.automaton e r)) same found_of.fine

  -- it is of the entry's kind
  pub kind_of : (t : TransitionTree) → transition_for m.instance.automaton e ≡ Some t → e.kind ≡ t.kind
  kind_of t is =
      let both : Some found_of.transition ≡ Some t = sym found_of.found ∙ is in
      let same : found_of.transition ≡ t = cc in
      subst (λ (r : TransitionTree). e.kind ≡ r.kind) same found_of.kind

  -- and its trees are small
  pub small_of : (t : TransitionTree) → transition_for m.instance.automaton e ≡ Some t → IsSmall t
  small_of t is =
      let both : Some found_of.transition ≡ Some t = sym found_of.found ∙ is in
      let same : found_of.transition ≡ t = cc in
      let a = m.instance.automaton in
      subst IsSmall same (small found_of.transition (all_at (transition_within component_limits) a.transitions found_of.place found_of.transition (within_parts component_limits a h.within).each_transition found_of.here))

  pub is_some_of_found : IsSome (transition_for m.instance.automaton e)
  is_some_of_found = rw found_of.found refl

  -- the values of its positions are of their types
  pub domains_of : (ds : List Domain) → AreTypes m.instance.types → AreDomainsOf m.instance e.positions ds → All (IsDomain m.instance.types) ds
  domains_of ds declared hp = domains_are m.instance declared h.arguments e.positions ds entry_of.positions hp

  abbrev pub setting : (vs ps : List ℕ) (ds : List Domain) → AreTypesOf m.instance.types (variable_fields m.instance.automaton) vs → AreDomainsOf m.instance e.positions ds → ps ≡ position_types ds → Setting m e vs ps
  setting vs ps ds hv hp types-are =
      let a = m.instance.automaton in
      let f = fit_types m.instance.types a.formals m.instance.arguments h.arguments in
      record {
        globals = h.automaton.0;
        parts = parts_of;
        entry = entry_of;
        few_variables = (within_parts component_limits a h.within).variables;
        few_positions = few_positions_of;
        variables = hv;
        domains = ds;
        parameters = hp;
        types_are = types-are;
        types = f.0;
        formals = f.1;
        given = f.2;
      }

-- an entry without positions, whose scope is that of proposals
abbrev pub bare : EntryTree
bare = record { kind = Internal; name = []; positions = [] }

-- it has its setting in the same automaton
abbrev pub bare_setting : (m : Member) (e : EntryTree) (vs ps : List ℕ) → Setting m e vs ps → Setting m bare vs []
bare_setting m e vs ps h = record {
  globals = h.globals;
  parts = h.parts;
  entry = record { distinct_names = refl; apart_names = refl; positions = refl; position_types = refl };
  few_variables = h.few_variables;
  few_positions = omega arith;
  variables = h.variables;
  domains = [];
  parameters = tt;
  types_are = refl;
  types = h.types;
  formals = h.formals;
  given = h.given;
}

module _ (m : Member) (e : EntryTree) (vs ps : List ℕ) (h : Setting m e vs ps) where
  pub is_scope : IsScope (scope_of m e)
  is_scope = record {
    loops = omega arith;
    variables = omega (arith, length-map m.instance.automaton.variables (λ v. v.field.name), h.few_variables);
    parameters = h.few_positions;
    given = types_long m.instance.types m.instance.automaton.formals h.types h.formals ∙ sym (HaveTypes-length m.instance.types m.instance.arguments h.types h.given);
    typed = (HaveTypes-owns m.instance.types m.instance.arguments h.types h.given).1;
  }

  pub variables_long : length (variable_names m.instance.automaton) ≡ length vs
  variables_long = ap length (sym (variables_names m.instance.automaton)) ∙ types_long m.instance.types (variable_fields m.instance.automaton) vs h.variables

  pub parameters_long : length e.positions ≡ length ps
  parameters_long = types_of_domains m.instance e.positions h.domains h.parameters ∙ ap length (sym h.types_are)

  -- the types of names, but for those of enumerations
  pub type_look : (x : Name) → type_in (scope m.instance.types m.instance.types h.globals m.instance.automaton e) x ≡ stands (scope_of m e) [] vs h.types ps x
  type_look x =
      scope_look h.globals m e vs h.types h.domains x h.variables h.formals h.parameters ∙ ap (λ l. stands (scope_of m e) [] vs h.types l x) (sym h.types_are)

  pub names_of : Names (scope_of m e) m.instance.types (scope m.instance.types m.instance.types h.globals m.instance.automaton e) [] vs h.types ps
  names_of = record {
    table = refl;
    context = refl;
    loops = refl;
    variables = variables_long;
    formals = types_long m.instance.types m.instance.automaton.formals h.types h.formals;
    parameters = parameters_long;
    names = type_look;
  }

  -- a variable's place, and its type there
  pub variable_at : (x : Name) (ty : ℕ) → type_in (context_of m.instance.types (variable_fields m.instance.automaton)) x ≡ Some ty → (i : ℕ) × (place_from 0 (variable_names m.instance.automaton) x ≡ Some i) × (slice_get vs i ≡ Some ty)
  variable_at x ty t =
      let names = variable_names m.instance.automaton in
      let is : look names vs x ≡ Some ty = ap (λ ns. look ns vs x) (sym (variables_names m.instance.automaton)) ∙ sym (fields_look m.instance.types (variable_fields m.instance.automaton) vs x h.variables) ∙ t in
      go (place_from 0 names x) (look names vs x) is (looks 0 names vs x variables_long)
    where
      go : (place : Option ℕ) (o : Option ℕ) → o ≡ Some ty → Looked 0 place vs o → (i : ℕ) × (place ≡ Some i) × (slice_get vs i ≡ Some ty)
      go place o e (inl r) = let n : 0 + r.at ≡ r.at = omega arith in (r.at, r.place_is ∙ ap Some n, r.item_is ∙ sym r.look_is ∙ e)
      go place o e (inr r) = let no = r.no_look in absurd (cc)

  -- no loop, and no name that is not declared, stands for a variable
  pub no_other : (x : Name) → type_in (context_of m.instance.types (variable_fields m.instance.automaton)) x ≡ None → contains (variable_names m.instance.automaton) x ≡ false
  no_other x t = go (contains (variable_names m.instance.automaton) x) refl
    where
      is : look (variable_names m.instance.automaton) vs x ≡ None
      is =
          ap (λ ns. look ns vs x) (sym (variables_names m.instance.automaton)) ∙ sym (fields_look m.instance.types (variable_fields m.instance.automaton) vs x h.variables) ∙ t

      go : (b : Bool) → contains (variable_names m.instance.automaton) x ≡ b → b ≡ false
      go false c = refl
      go true c = let there = look_inside (variable_names m.instance.automaton) vs x variables_long c in let both : Some there.0 ≡ None = sym there.1 ∙ is in absurd (cc)

-- ---- typed trees are known

is_some : (o : Option ℕ) (i : ℕ) → o ≡ Some i → IsSome o
is_some o i t = rw t refl

module _ (s : Scope) (types : Table) (c : Context) (bs vs fs ps : List ℕ) (h : Names s types c bs vs fs ps) where
  origin_there : (o : Origin) (ty : ℕ) → at own o bs vs fs ps ≡ Some ty → IsOrigin o
  origin_there (on_stack d) ty t = tt
  origin_there (slot i) ty t = tt
  origin_there (formal i) ty t = tt
  origin_there (parameter i) ty t = tt
  origin_there (fixed v) ty t = tt
  origin_there unknown ty t = absurd (cc)

  number_fits : (n ty : ℕ) (b : Bool) → fits (pos n) ≡ b → cond b (Some 1) None ≡ Some ty → IsTrue (fits (pos n))
  number_fits n ty true f t = f
  number_fits n ty false f t = absurd (cc)

  mutual
    known_in : (x : Expr) (ty : ℕ) → type_of types types c x ≡ Some ty → IsKnown s x
    known_in (number n) ty t = number_fits n ty (fits (pos n)) refl t
    known_in (truth b) ty t = tt
    known_in (named x) ty t = origin_there (origin s x) ty (sym (named_at s types c bs vs fs ps h x) ∙ t)
    known_in (parens y) ty t = known_in y ty t
    known_in (prefix o y) ty t =
        let operand = type_of_one (type_of types types c y) (op_type types o) ty t in
        known_in y operand.0 operand.1
    known_in (binary l o r) ty t =
        let both = types_of_both (type_of types types c l) (type_of types types c r) (infix_type types o) ty t in
        (known_in l both.0 both.2, known_in r both.1 both.3)
    known_in (empty x) ty t = subst (λ l. IsSome (empty_of l x)) (sym h.table) (empty_known types x ty t)
    known_in (make x es) ty t =
        let parts = of_make types c x es ty t in
        (subst (λ l. IsSome (type_named l x)) (sym h.table) (is_some (type_named types x) parts.0 parts.2), all_known es parts.1 parts.3)
    known_in (select y x) ty t =
        let parts = of_select types c y x ty t in
        let place = place_is types c s y x parts.0 h.table h.context parts.2 ∙ parts.3 in
        (is_some (place_of s y x) parts.1 place, known_in y parts.0 parts.2)

    all_known : (es : Exprs) (tys : List ℕ) → types_of_all types types c es ≡ Some tys → AreAllKnown s es
    all_known no_expr tys t = tt
    all_known (also y ys) tys t =
        let parts = types_of_row (type_of types types c y) (types_of_all types types c ys) tys t in (known_in y parts.0 parts.2, all_known ys parts.1 parts.3)

module _ (types : Table) (c v : Context) (variables : List Name) (vs fs ps : List ℕ) (places : (x : Name) (ty : ℕ) → type_in v x ≡ Some ty → IsSome (place_from 0 variables x)) where
  mutual
    known_stmt : (t : Stmt) (s : Scope) (loops : Context) (bs : List ℕ) → Names s types (loops ++ c) bs vs fs ps → s.variables ≡ variables → length s.loops ≡ length loops → StmtTyped types c v loops t → IsKnownStmt s t
    known_stmt (assign x e) s loops bs h own deep t =
        (subst (λ (l : List Name). IsSome (place_from 0 l x)) (sym own) (places x t.0 t.1), known_in s types (loops ++ c) bs vs fs ps h e t.0 t.2)
    known_stmt (choose arms others) s loops bs h own deep t =
        (known_arms arms s loops bs h own deep t.0, known_all others s loops bs h own deep t.1)
    known_stmt (each x e ss) s loops bs h own deep t =
        let few = t.5 in (
          known_in s types (loops ++ c) bs vs fs ps h e t.0 t.2,
          omega (arith, deep, few),
          (t.1, item_is types (loops ++ c) s e t.0 h.table h.context t.2 ∙ t.3, known_all ss (within s x t.1) ((x, t.1) ∷ loops) (in_turn bs t.0 t.1) (names_within s types (loops ++ c) bs vs fs ps x t.0 t.1 h) own (omega (arith, deep)) t.6),
        )

    known_all : (ss : Stmts) (s : Scope) (loops : Context) (bs : List ℕ) → Names s types (loops ++ c) bs vs fs ps → s.variables ≡ variables → length s.loops ≡ length loops → StmtsTyped types c v loops ss → AreKnown s ss
    known_all stop s loops bs h own deep t = tt
    known_all (seq u us) s loops bs h own deep t = (known_stmt u s loops bs h own deep t.0, known_all us s loops bs h own deep t.1)

    known_arms : (arms : Arms) (s : Scope) (loops : Context) (bs : List ℕ) → Names s types (loops ++ c) bs vs fs ps → s.variables ≡ variables → length s.loops ≡ length loops → ArmsTyped types c v loops arms → AreKnownArms s arms
    known_arms no_arm s loops bs h own deep t = tt
    known_arms (arm e ss more) s loops bs h own deep t =
        (known_in s types (loops ++ c) bs vs fs ps h e 0 t.0, (known_all ss s loops bs h own deep t.1, known_arms more s loops bs h own deep t.2))

module _ (m : Member) (e : EntryTree) (vs ps : List ℕ) (h : Setting m e vs ps) where
  abbrev names_typed : Context
  names_typed = scope m.instance.types m.instance.types h.globals m.instance.automaton e

  abbrev variables_typed : Context
  variables_typed = context_of m.instance.types (variable_fields m.instance.automaton)

  pub known : (x : Expr) (ty : ℕ) → type_of m.instance.types m.instance.types names_typed x ≡ Some ty → IsKnown (scope_of m e) x
  known x ty t = known_in (scope_of m e) m.instance.types names_typed [] vs h.types ps (names_of m e vs ps h) x ty t

  pub known_guard : (o : Option Expr) → GuardTyped m.instance.types names_typed o → IsKnownGuard (scope_of m e) o
  known_guard None t = tt
  known_guard (Some x) t = known x 0 t

  pub known_stmts : (ss : Stmts) → StmtsTyped m.instance.types names_typed variables_typed [] ss → AreKnown (scope_of m e) ss
  known_stmts ss t =
      known_all m.instance.types names_typed variables_typed (variable_names m.instance.automaton) vs h.types ps (λ x ty k. let place = variable_at m e vs ps h x ty k in is_some (place_from 0 (variable_names m.instance.automaton) x) place.0 place.1) ss (scope_of m e) [] [] (names_of m e vs ps h) refl refl t

pub variables_known : (m : Member) → IsFine component_limits m → IsTrue (list_all (is_type m.instance.types) (variable_fields m.instance.automaton))
variables_known m h = (fine_parts m.instance.types m.instance.types h.automaton.0 m.instance.automaton h.automaton.1).variable_types
