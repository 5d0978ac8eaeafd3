-- The rewritten automaton keeps within wider limits, and its values fit.
use Rattle.std.proofs.Common.{◌≡◌, ℕ, ◌+◌, ◌*◌, ◌≤◌, Bool, true, false, not, cond, ◌&&◌, nat_le, List, [], ◌∷◌, ◌++◌, map, length, sum, Option, Some, None, refl, sym, ap, subst, ◌∙◌, arith, length-append}
use Rattle.std.specs.List.{list_all}
use Rattle.std.specs.Option.{option_map_or}
use Rattle.std.proofs.lemmas.Bool.{and_parts, and_from}
use Rattle.std.proofs.lemmas.List.{map-append, length-map}
use Rattle.std.proofs.lemmas.List.Folds.{list_all-append, list_all-map}
use Rattle.ioa_value.specs.Plain.{Val, truth as truth_value}
use Rattle.ioa_value.specs.Table.{Table, AreTypes}
use Rattle.ioa_value.specs.declared.limits.TheConstants.{LIMITS}
use Rattle.ioa_tree.specs.Tree.{Expr, CrashTree, FieldTree, EntryTree, VariableTree, expr_in, TransitionTree, AutomatonTree}
use Rattle.ioa_tree.specs.Instances.{Fit}
use Rattle.ioa_tree.specs.WellFormed.{is_input, nodes, stmts_nodes, pre_within, proposals_within, effect_within, transition_within, entry_within, automaton_within}
use Rattle.ioa_tree.proofs.FineParts.{at_most, within_parts}
use Rattle.ioa_tree.proofs.Early.{each_implies}
use Rattle.ioa_tree.proofs.Compared.{le_holds}
use Rattle.ioa_crash.specs.Limits.{component_limits}
use Rattle.ioa_crash.specs.Rewriting.{up_variable, volatile, volatile_values, start_formal, only_up, if_up, guarded, signals, resets, crash_transition, recover_transition, rewritten}
use Rattle.ioa_crash.proofs.RewrittenTypes.{fields_of, bool_named}

-- what is within n is within more
wider : (n m k : ℕ) → m ≤ k → nat_le n m ≡ true → nat_le n k ≡ true
wider n m k h e = le_holds n k (let l : n ≤ m = at_most n m e in omega arith)

-- ---- what does not change

pre_wider : (o : Option Expr) (k : ℕ) → option_map_or (λ p. nat_le (nodes p) LIMITS.nodes) o true ≡ true → LIMITS.nodes ≤ k → option_map_or (λ p. nat_le (nodes p) k) o true ≡ true
pre_wider None k h l = refl
pre_wider (Some p) k h l = wider (nodes p) LIMITS.nodes k l h

more_nodes : LIMITS.nodes ≤ component_limits.nodes
more_nodes = omega arith

more_parameters : LIMITS.parameters ≤ component_limits.parameters
more_parameters = omega arith

entry_wider : (e : EntryTree) → entry_within LIMITS e ≡ true → entry_within component_limits e ≡ true
entry_wider e h = wider (length e.positions) LIMITS.parameters component_limits.parameters more_parameters h

-- a transition's parts
transition_from : (t : TransitionTree) → pre_within component_limits t ≡ true → proposals_within component_limits t ≡ true → effect_within component_limits t ≡ true
    → transition_within component_limits t ≡ true
transition_from t p q r =
    and_from (pre_within component_limits t && proposals_within component_limits t) (effect_within component_limits t)
    (and_from (pre_within component_limits t) (proposals_within component_limits t) p q) r

transition_wider : (t : TransitionTree) → transition_within LIMITS t ≡ true → transition_within component_limits t ≡ true
transition_wider t h =
    let p = and_parts (pre_within LIMITS t && proposals_within LIMITS t) (effect_within LIMITS t) h in
    let q = and_parts (pre_within LIMITS t) (proposals_within LIMITS t) p.0 in
    transition_from t (pre_wider t.pre component_limits.nodes q.0 more_nodes)
    (wider (sum (map (λ u. nodes (expr_in u.choice)) t.proposals)) LIMITS.nodes component_limits.nodes more_nodes q.1)
    (wider (stmts_nodes t.effect) LIMITS.nodes component_limits.nodes more_nodes p.1)

-- the parts of an automaton
automaton_from : (a : AutomatonTree) → length a.formals ≤ component_limits.parameters → length a.variables ≤ component_limits.variables → length a.entries ≤ component_limits.entries
    → list_all (entry_within component_limits) a.entries ≡ true → list_all (transition_within component_limits) a.transitions ≡ true → automaton_within component_limits a ≡ true
automaton_from a f v e es ts =
    let formals = nat_le (length a.formals) component_limits.parameters in
    let variables = nat_le (length a.variables) component_limits.variables in
    let entries = nat_le (length a.entries) component_limits.entries in
    let each = list_all (entry_within component_limits) a.entries in
    and_from (formals && variables && entries && each) (list_all (transition_within component_limits) a.transitions)
    (and_from (formals && variables && entries) each
    (and_from (formals && variables) entries
    (and_from formals variables (le_holds (length a.formals) component_limits.parameters f) (le_holds (length a.variables) component_limits.variables v))
    (le_holds (length a.entries) component_limits.entries e)) es) ts

-- an automaton within the limits of a source is within those of components
pub within_wider : (a : AutomatonTree) → automaton_within LIMITS a ≡ true → automaton_within component_limits a ≡ true
within_wider a h =
    let p = within_parts LIMITS a h in
    let f = p.formals in
    let v = p.variables in
    let e = p.entries in
    automaton_from a (omega arith) (omega arith) (omega arith)
    (each_implies (entry_within LIMITS) (entry_within component_limits) a.entries entry_wider p.each_entry)
    (each_implies (transition_within LIMITS) (transition_within component_limits) a.transitions transition_wider p.each_transition)

-- ---- what is added

only_up_within : (o : Option Expr) → option_map_or (λ p. nat_le (nodes p) LIMITS.nodes) o true ≡ true → nat_le (nodes (only_up o)) component_limits.nodes ≡ true
only_up_within None h = le_holds 1 component_limits.nodes (omega arith)
only_up_within (Some p) h = let l : nodes p ≤ LIMITS.nodes = at_most (nodes p) LIMITS.nodes h in le_holds (1 + nodes p + 1) component_limits.nodes (omega arith)

guarded_within : (t : TransitionTree) → transition_within LIMITS t ≡ true → transition_within component_limits (guarded t) ≡ true
guarded_within t h =
    let p = and_parts (pre_within LIMITS t && proposals_within LIMITS t) (effect_within LIMITS t) h in
    let q = and_parts (pre_within LIMITS t) (proposals_within LIMITS t) p.0 in
    let l : stmts_nodes t.effect ≤ LIMITS.nodes = at_most (stmts_nodes t.effect) LIMITS.nodes p.1 in
    let size : stmts_nodes (if_up t.effect) ≤ component_limits.nodes = omega arith in
    transition_from (guarded t) (pre (is_input t.kind) q.0)
    (wider (sum (map (λ u. nodes (expr_in u.choice)) t.proposals)) LIMITS.nodes component_limits.nodes more_nodes q.1)
    (le_holds (stmts_nodes (if_up t.effect)) component_limits.nodes size)
  where
    pre : (b : Bool) → pre_within LIMITS t ≡ true → option_map_or (λ p. nat_le (nodes p) component_limits.nodes) (cond b t.pre (Some (only_up t.pre))) true ≡ true
    pre true h = pre_wider t.pre component_limits.nodes h more_nodes
    pre false h = only_up_within t.pre h

resets_nodes : (vs : List VariableTree) → stmts_nodes (resets vs) ≡ 2 * length vs + 2
resets_nodes [] = refl
resets_nodes (v ∷ vs) = omega (arith, resets_nodes vs)

volatile_few : (vs : List VariableTree) → length (volatile vs) ≤ length vs
volatile_few [] = omega arith
volatile_few (v ∷ vs) = go v.stable (volatile_few vs)
  where
    go : (b : Bool) → length (volatile vs) ≤ length vs → length (cond (not b) (v ∷ volatile vs) (volatile vs)) ≤ length (v ∷ vs)
    go true h = omega arith
    go false h = omega arith

pub rewritten_within : (n : CrashTree) (a : AutomatonTree) → automaton_within LIMITS a ≡ true → automaton_within component_limits (rewritten n a) ≡ true
rewritten_within n a h =
    let p = within_parts LIMITS a h in
    let f = p.formals in
    let v = p.variables in
    let e = p.entries in
    let few = volatile_few a.variables in
    let formals : length (a.formals ++ map start_formal (volatile a.variables)) ≡ length a.formals + length (volatile a.variables) =
    length-append a.formals (map start_formal (volatile a.variables)) ∙ ap (λ k. length a.formals + k) (length-map (volatile a.variables) start_formal) in
    let variables : length (a.variables ++ up_variable ∷ []) ≡ length a.variables + 1 = length-append a.variables (up_variable ∷ []) in
    let entries : length (a.entries ++ signals n) ≡ length a.entries + 2 = length-append a.entries (signals n) in
    let size : stmts_nodes (resets (volatile a.variables)) ≤ component_limits.nodes = omega (arith, resets_nodes (volatile a.variables)) in
    automaton_from (rewritten n a) (omega arith) (omega arith) (omega arith)
    (list_all-append (entry_within component_limits) a.entries (signals n)
    ∙ and_from (list_all (entry_within component_limits) a.entries) (list_all (entry_within component_limits) (signals n))
    (each_implies (entry_within LIMITS) (entry_within component_limits) a.entries entry_wider p.each_entry) refl)
    (list_all-append (transition_within component_limits) (map guarded a.transitions) (crash_transition a.variables n.crash ∷ recover_transition n.recover ∷ [])
    ∙ and_from (list_all (transition_within component_limits) (map guarded a.transitions))
    (transition_within component_limits (crash_transition a.variables n.crash) && (transition_within component_limits (recover_transition n.recover) && true))
    (list_all-map (transition_within component_limits) guarded a.transitions
    ∙ each_implies (transition_within LIMITS) (λ t. transition_within component_limits (guarded t)) a.transitions guarded_within p.each_transition)
    (and_from (transition_within component_limits (crash_transition a.variables n.crash)) (transition_within component_limits (recover_transition n.recover) && true)
    (transition_from (crash_transition a.variables n.crash) refl refl (le_holds (stmts_nodes (resets (volatile a.variables))) component_limits.nodes size)) refl))

-- ---- values

pub fit_both : (types : Table) (fs gs : List FieldTree) (vs ws : List Val) → Fit types fs vs → Fit types gs ws → Fit types (fs ++ gs) (vs ++ ws)
fit_both types [] gs [] ws h k = k
fit_both types [] gs (v ∷ vs) ws h k = absurd h
fit_both types (f ∷ fs) gs [] ws h k = absurd h
fit_both types (f ∷ fs) gs (v ∷ vs) ws h k = (h.0, h.1, h.2, fit_both types fs gs vs ws h.3 k)

pub fit_volatile : (types : Table) (vs : List VariableTree) (ws : List Val) → Fit types (fields_of vs) ws → Fit types (map start_formal (volatile vs)) (volatile_values vs ws)
fit_volatile types [] [] h = tt
fit_volatile types [] (w ∷ ws) h = absurd h
fit_volatile types (v ∷ vs) [] h = absurd h
fit_volatile types (v ∷ vs) (w ∷ ws) h = go v.stable (fit_volatile types vs ws h.3)
  where
    go : (b : Bool) → Fit types (map start_formal (volatile vs)) (volatile_values vs ws)
        → Fit types (map start_formal (cond (not b) (v ∷ volatile vs) (volatile vs))) (cond b (volatile_values vs ws) (w ∷ volatile_values vs ws))
    go true k = k
    go false k = (h.0, h.1, h.2, k)

pub fit_variables : (types : Table) → AreTypes types → (vs : List VariableTree) (ws : List Val) → Fit types (fields_of vs) ws → Fit types (fields_of (vs ++ up_variable ∷ [])) (ws ++ truth_value true ∷ [])
fit_variables types d vs ws h =
    subst (λ fs. Fit types fs (ws ++ truth_value true ∷ [])) (sym (map-append (λ (v : VariableTree). v.field) vs (up_variable ∷ [])))
    (fit_both types (fields_of vs) (up_variable.field ∷ []) ws (truth_value true ∷ []) h (0, bool_named types d, refl, tt))
