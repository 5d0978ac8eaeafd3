-- What making a plan answers.
use Rattle.std.proofs.Common.{◌≡◌, ◌≢◌, ℕ, ◌+◌, ◌<◌, List, [], ◌∷◌, length, filter, Bool, true, false, Result, Ok, Err, refl, sym, ◌∙◌, ap, subst, arith, ◌⊎◌, inl, inr}
use Rattle.std.specs.List.{list_any}
use Rattle.std.proofs.lemmas.List.{length-map}
use Rattle.ioa_arithmetic.specs.declared.arithmetic.Fault.{Fault}
use Rattle.ioa_value.specs.Actions.{Act}
use Rattle.ioa_value.specs.Plain.{Val}
use Rattle.ioa_tree.specs.Components.{Component, has}
use Rattle.ioa_tree.specs.Steps as steps
use Rattle.ioa_tree.specs.Steps.{next, not_an_action, not_enabled, fault, Asked, free, owned, with_state, then_rest, effect_on, effects, allowed, asked, step}
use Rattle.ioa_compile.specs.Programs.{Prog}
use Rattle.ioa_compile.specs.Tables.{tabled}
use Rattle.ioa_system.specs.declared.outcomes.Moved.{Moved}
use Rattle.ioa_system.specs.declared.participation.Participant.{Participant}
use Rattle.ioa_system.specs.Outcomes.{moved_of}
use Rattle.ioa_system.specs.Found.{AreParticipants, component_of, components_of}
use Rattle.ioa_system.specs.Participants.{renumbered, step_from}
use Rattle.std.specs.Global.{Vec}
use Rattle.ioa_parts.specs.Nodes.{Node}
use Rattle.ioa_system.specs.Systems.{values_of}
use Rattle.ioa_board.specs.ProgramPlans.{IsUsable, ProgramPlan, foreseen}

-- ---- an action that some component has

with_state_goes : {S : Type 0} (t : S) (m : steps.Moved S) → m ≢ not_an_action → with_state t m ≢ not_an_action
with_state_goes t (next ts) h e = absurd (cc)
with_state_goes t not_an_action h e = h refl
with_state_goes t not_enabled h e = absurd (cc)
with_state_goes t (fault c f) h e = absurd (cc)

then_rest_goes : {S : Type 0} (i : ℕ) (r : Result S Fault) (m : steps.Moved S) → m ≢ not_an_action → then_rest i r m ≢ not_an_action
then_rest_goes i (Ok t) m h = with_state_goes t m h
then_rest_goes i (Err f) m h = λ e. absurd (cc)

effects_go : {S : Type 0} (i : ℕ) (ps : List (Component S)) (a : Act) (ss : List S) → effects i ps a ss ≢ not_an_action
effects_go i [] a ss = λ e. absurd (cc)
effects_go i (p ∷ ps) a [] = λ e. absurd (cc)
effects_go i (p ∷ ps) a (s ∷ ss) = then_rest_goes i (effect_on p a s) (effects (i + 1) ps a ss) (effects_go (i + 1) ps a ss)

allowed_goes : {S : Type 0} (g : Asked) (m : steps.Moved S) → m ≢ not_an_action → allowed g m ≢ not_an_action
allowed_goes free m h = h
allowed_goes (owned i (Ok true)) m h = h
allowed_goes (owned i (Ok false)) m h = λ e. absurd (cc)
allowed_goes (owned i (Err f)) m h = λ e. absurd (cc)

pub step_goes : {S : Type 0} (ps : List (Component S)) (a : Act) (ss : List S) → list_any (has a) ps ≡ true → step ps a ss ≢ not_an_action
step_goes ps a ss h = rw h (allowed_goes (asked 0 ps a ss) (effects 0 ps a ss) (effects_go 0 ps a ss))

any_past : {X : Type 0} (t : X → Bool) (x : X) (xs : List X) (b : Bool) → t x ≡ b → (0 < length (filter t xs) → list_any t xs ≡ true) → 0 < length (filter t (x ∷ xs)) → list_any t (x ∷ xs) ≡ true
any_past t x xs true e more l = rw e refl
any_past t x xs false e more l = rw e (more (rw e at l))

any_of : {X : Type 0} (t : X → Bool) (xs : List X) → 0 < length (filter t xs) → list_any t xs ≡ true
any_of t [] l = absurd (omega arith)
any_of t (x ∷ xs) l = any_past t x xs (t x) refl (any_of t xs) l

none_past : {X : Type 0} (t : X → Bool) (x : X) (xs : List X) (b : Bool) → t x ≡ b → (filter t xs ≡ [] → list_any t xs ≡ false) → filter t (x ∷ xs) ≡ [] → list_any t (x ∷ xs) ≡ false
none_past t x xs true e more l = let q : x ∷ filter t xs ≡ [] = rw e at l in absurd (cc)
none_past t x xs false e more l = rw e (more (rw e at l))

none_of : {X : Type 0} (t : X → Bool) (xs : List X) → filter t xs ≡ [] → list_any t xs ≡ false
none_of t [] e = refl
none_of t (x ∷ xs) e = none_past t x xs (t x) refl (none_of t xs) e

renumbered_goes : {S : Type 0} (ns : List ℕ) (m : steps.Moved S) → m ≢ not_an_action → renumbered ns m ≢ not_an_action
renumbered_goes ns (next ts) h e = absurd (cc)
renumbered_goes ns not_an_action h e = h refl
renumbered_goes ns not_enabled h e = absurd (cc)
renumbered_goes ns (fault c f) h e = absurd (cc)

any_filter_more : {X : Type 0} (t : X → Bool) (x : X) (xs : List X) (b : Bool) → t x ≡ b → (0 < length (filter t xs) → list_any t (filter t xs) ≡ true)
    → 0 < length (filter t (x ∷ xs)) → list_any t (filter t (x ∷ xs)) ≡ true
any_filter_more t x xs true e more l = rw (e, e) refl
any_filter_more t x xs false e more l = rw e (more (rw e at l))

any_filter : {X : Type 0} (t : X → Bool) (xs : List X) → 0 < length (filter t xs) → list_any t (filter t xs) ≡ true
any_filter t [] l = absurd (omega arith)
any_filter t (x ∷ xs) l = any_filter_more t x xs (t x) refl (any_filter t xs) l

-- ---- the participants that are found

pub no_participant : (p : Prog) (a : Act) (qs : List Participant) (ts : List (List Val)) → AreParticipants a p.members qs → qs ≡ [] → step_from (tabled p) a ts ≡ not_an_action
no_participant p a qs ts f e =
    let c : filter (has a) (tabled p) ≡ [] = sym f.components ∙ ap components_of e in
    rw c refl

pub some_participant : (p : Prog) (a : Act) (qs : List Participant) (ts : List (List Val)) → AreParticipants a p.members qs → 0 < length qs → step_from (tabled p) a ts ≢ not_an_action
some_participant p a qs ts f l =
    let n : length (filter (has a) (tabled p)) ≡ length qs = ap length (sym f.components) ∙ length-map qs component_of in
    renumbered_goes (steps.participants (tabled p) a) (step (filter (has a) (tabled p)) a ts)
    (step_goes (filter (has a) (tabled p)) a ts (any_filter (has a) (tabled p) (omega arith)))

-- and of the step of all components
pub no_step : (p : Prog) (a : Act) (qs : List Participant) (ss : List (List Val)) → AreParticipants a p.members qs → length qs ≡ 0 → step (tabled p) a ss ≡ not_an_action
no_step p a (q ∷ qs) ss f e = absurd (omega (arith, e))
no_step p a [] ss f e =
    let c : filter (has a) (tabled p) ≡ [] = sym f.components in
    let none : list_any (has a) (tabled p) ≡ false = none_of (has a) (tabled p) c in
    rw none refl

pub some_step : (p : Prog) (a : Act) (qs : List Participant) (ss : List (List Val)) → AreParticipants a p.members qs → 0 < length qs → step (tabled p) a ss ≢ not_an_action
some_step p a qs ss f l =
    let n : length (filter (has a) (tabled p)) ≡ length qs = ap length (sym f.components) ∙ length-map qs component_of in
    step_goes (tabled p) a ss (any_of (has a) (tabled p) (omega (arith, n, l)))

-- ---- the plan's result

pub usable : (m : Moved) → m ≢ Moved.NotAnAction → m ≢ Moved.NotEnabled → IsUsable m
usable (Moved.Next v) h k = tt
usable Moved.NotAnAction h k = absurd (h refl)
usable Moved.NotEnabled h k = absurd (k refl)
usable (Moved.Fault c f) h k = tt

pub is_action : (m : Moved) → IsUsable m → moved_of m ≢ not_an_action
is_action (Moved.Next v) u e = absurd (cc)
is_action Moved.NotAnAction u e = u
is_action Moved.NotEnabled u e = absurd (cc)
is_action (Moved.Fault c f) u e = absurd (cc)

pub is_enabled : (m : Moved) → IsUsable m → moved_of m ≢ not_enabled
is_enabled (Moved.Next v) u e = absurd (cc)
is_enabled Moved.NotAnAction u e = absurd (cc)
is_enabled Moved.NotEnabled u e = u
is_enabled (Moved.Fault c f) u e = absurd (cc)

-- what a plan's result tells, where it is no fault
pub goes : (p q : ProgramPlan) (m : Moved) → moved_of m ≡ foreseen p → IsUsable m → ((v : Vec Node) × (m ≡ Moved.Next v)) ⊎ ((m ≡ Moved.NotAnAction) ⊎ (m ≡ Moved.NotEnabled)) → p ≡ q
    → (ts : List (List Val)) × (foreseen q ≡ next ts)
goes p q m r u (inl h) i = (values_of h.0.items, ap foreseen (sym i) ∙ sym r ∙ ap moved_of h.1)
goes p q m r u (inr (inl e)) i = absurd (subst IsUsable e u)
goes p q m r u (inr (inr e)) i = absurd (subst IsUsable e u)
