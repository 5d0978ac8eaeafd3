-- A program's runs and steps are those of what it runs as.
use Rattle.std.proofs.Common.{◌≡◌, ℕ, suc, ◌+◌, Bool, true, false, cond, List, [], ◌∷◌, filter, sym, ap, ap₂, subst, ◌∙◌, arith}
use Rattle.std.specs.Prelude.{slice_index, unwrap_or}
use Rattle.ioa_value.specs.Actions.{Act}
use Rattle.ioa_value.specs.Plain.{Val}
use Rattle.ioa_tree.specs.Components.{Component, has, is_kind}
use Rattle.ioa_tree.specs.Compositions.{Composed, components_of, starts_of}
use Rattle.ioa_tree.specs.Hosts.{Hosted, hosts_of, host_starts}
use Rattle.ioa_tree.specs.Likes.{AllLike, IsLike, MovesLike, RunsLike}
use Rattle.ioa_tree.specs.Runs.{Ending, Reached, run}
use Rattle.ioa_tree.specs.Steps.{Moved, next, not_an_action, not_enabled, fault, participants, participants_from, step}
use Rattle.ioa_tree.proofs.Simulation.{asked_like, step_like}
use Rattle.ioa_compose.specs.Simulates.{SlotsHoldAt}
use Rattle.ioa_compile.specs.Correspondence.{CorrespondsAt}
use Rattle.ioa_compile.specs.Programs.{Prog}
use Rattle.ioa_compile.specs.Subjects.{InSlots, RunsAs, Subject, its_components, its_starts, of_composition, of_hosts, of_table}
use Rattle.ioa_compile.specs.Tables.{start_states, tabled}
use Rattle.ioa_compile.proofs.Subjects.{all_held, all_own, does_as, external_as, many_as, owner_as, participants_as, run_as, step_as, trace_as}
use Rattle.ioa_system.specs.declared.runs.Run.{Run}
use Rattle.ioa_system.specs.Likeness.{InSlotsOf, SameExternal, SameOwner, SameParticipants, SameRun, SameStart, SameStep, SameStepFrom, SameTrace}
use Rattle.ioa_system.specs.Logs.{worker}
use Rattle.ioa_system.specs.Participants.{renumbered}
use Rattle.ioa_system.specs.Preconditions.{is_faulted, precondition_faults}
use Rattle.ioa_system.specs.Records.{IsRunAs, IsTableRun, reached_of}

pub same_owner : SameOwner
same_owner p s a runs = owner_as p s runs a

pub same_participants : SameParticipants
same_participants p s a runs = participants_as p s runs a

pub same_external : SameExternal
same_external p s a runs = external_as p s runs a

pub same_run : SameRun
same_run p s acts runs = run_as p s runs acts

pub same_trace : SameTrace
same_trace p s acts n runs = trace_as p s runs acts n

pub same_start : SameStart
same_start p s runs = (does_as p s runs).starts

pub same_step : SameStep
same_step p s a ss slots runs r = step_as p s runs a ss slots r

-- the worker of an action is the same
pub worker_as : (p : Prog) (s : Subject) → RunsAs p s → (a : Act) → worker (tabled p) a ≡ worker (its_components s) a
worker_as p s runs a = ap₂ unwrap_or (owner_as p s runs a) (many_as p s runs)

-- where a run ends, the precondition of an action's owner faults for both, or for neither
pub asked_as : (p : Prog) (s : Subject) → RunsAs p s → (acts : List Act) (a : Act)
    → precondition_faults (its_components s) a (run (its_components s) acts (its_starts s)).states ≡ precondition_faults (tabled p) a (run (tabled p) acts (start_states p)).states
asked_as p s runs acts a =
    ap is_faulted (asked_like (InSlots p s) 0 (its_components s) (tabled p) a _ _ (does_as p s runs).components (run_as p s runs acts).states)

-- ---- runs of lists

-- what the table's run is, the subject's run is
pub run_of : (p : Prog) (s : Subject) → RunsAs p s → (acts : List Act) (r : Run) → IsTableRun p acts r → IsRunAs p s acts r
run_of p s runs acts r t = record {
  reached = subst (λ (q : Reached (List Val)). RunsLike (InSlots p s) (run (its_components s) acts (its_starts s)) q) (sym t.reached) (run_as p s runs acts);
  trace = t.trace ∙ trace_as p s runs acts r.performed;
  types = t.types;
}

abbrev reached_at : ℕ → List (List Val) → Ending → Reached (List Val)
reached_at n ss e = record { performed = n; states = ss; ending = e }

-- said of the program's own table it is this table's run, of a composition it reaches states that correspond, of hosts slots that hold theirs
pub table_run : (p : Prog) (acts : List Act) (r : Run) → IsRunAs p (of_table p) acts r → IsTableRun p acts r
table_run p acts r k =
    let own : Reached (List Val) = run (tabled p) acts (start_states p) in
    let its : Reached (List Val) = reached_of r in
    let like : RunsLike (InSlots p (of_table p)) own its = k.reached in
    record {
      reached =
          ap (λ n. reached_at n its.states its.ending) (sym like.performed)
          ∙ ap (λ ss. reached_at own.performed ss its.ending) (sym (all_own p p 0 own.states its.states like.states))
          ∙ ap (reached_at own.performed own.states) (sym like.ending);
      trace = k.trace;
      types = k.types;
    }

pub composition_run : (p : Prog) (c : Composed) (acts : List Act) (r : Run) → IsRunAs p (of_composition c) acts r
    → RunsLike (CorrespondsAt c.members) (run (components_of c) acts (starts_of c)) (reached_of r)
composition_run p c acts r k = k.reached

pub hosts_run : (p : Prog) (h : Hosted) (acts : List Act) (r : Run) → IsRunAs p (of_hosts h) acts r
    → RunsLike (SlotsHoldAt h.hosts) (run (hosts_of h) acts (host_starts h)) (reached_of r)
hosts_run p h acts r k = record { performed = k.reached.performed; ending = k.reached.ending; states = all_held p h 0 _ _ k.reached.states }

-- ---- steps of the participants alone

-- components that are alike, by these numbers
abbrev LikeBy : {S T : Type 0} → (ℕ → S → T → Type 0) → List ℕ → List (Component S) → List (Component T) → Type 0
LikeBy R [] [] [] = Unit {0}
LikeBy R [] [] (q ∷ qs) = ⊥
LikeBy R [] (p ∷ ps) qs = ⊥
LikeBy R (n ∷ ns) [] qs = ⊥
LikeBy R (n ∷ ns) (p ∷ ps) [] = ⊥
LikeBy R (n ∷ ns) (p ∷ ps) (q ∷ qs) = IsLike (R n) p q × LikeBy R ns ps qs

like_among : {S T : Type 0} (R : ℕ → S → T → Type 0) (i : ℕ) (ps : List (Component S)) (qs : List (Component T)) (a : Act)
    → AllLike R i ps qs → LikeBy R (participants_from i ps a) (filter (has a) ps) (filter (has a) qs)
like_among R i [] [] a h = tt
like_among R i [] (q ∷ qs) a h = absurd h
like_among R i (p ∷ ps) [] a h = absurd h
like_among R i (p ∷ ps) (q ∷ qs) a h = go (has a p) (has a q) (ap is_kind (h.0.kinds a)) (like_among R (i + 1) ps qs a h.1)
  where
    go : (b d : Bool) → b ≡ d → LikeBy R (participants_from (i + 1) ps a) (filter (has a) ps) (filter (has a) qs)
        → LikeBy R (cond b (i ∷ participants_from (i + 1) ps a) (participants_from (i + 1) ps a)) (cond b (p ∷ filter (has a) ps) (filter (has a) ps)) (cond d (q ∷ filter (has a) qs) (filter (has a) qs))
    go true true e k = (h.0, k)
    go true false e k = absurd (cc)
    go false true e k = absurd (cc)
    go false false e k = k

like_by_place : {S T : Type 0} (R : ℕ → S → T → Type 0) (all : List ℕ) (i : ℕ) (ns : List ℕ) (ps : List (Component S)) (qs : List (Component T))
    → ((k : ℕ) → slice_index all (i + k) ≡ slice_index ns k) → LikeBy R ns ps qs → AllLike (λ j. R (slice_index all j)) i ps qs
like_by_place R all i [] [] [] g h = tt
like_by_place R all i [] [] (q ∷ qs) g h = absurd h
like_by_place R all i [] (p ∷ ps) qs g h = absurd h
like_by_place R all i (n ∷ ns) [] qs g h = absurd h
like_by_place R all i (n ∷ ns) (p ∷ ps) [] g h = absurd h
like_by_place R all i (n ∷ ns) (p ∷ ps) (q ∷ qs) g h =
    let none : i ≡ i + 0 = omega arith in
    let here : n ≡ slice_index all i = sym (ap (slice_index all) none ∙ g 0) in (
      subst (λ (j : ℕ). IsLike (R j) p q) here h.0,
      like_by_place R all (i + 1) ns ps qs (λ k. let later : i + 1 + k ≡ i + suc k = omega arith in ap (slice_index all) later ∙ g (suc k)) h.1,
    )

moves_renumbered : {S T : Type 0} (R : ℕ → S → T → Type 0) (ns ms : List ℕ) (i : ℕ) (m : Moved S) (n : Moved T) → ms ≡ ns
    → MovesLike R i m n → MovesLike R i (renumbered ns m) (renumbered ms n)
moves_renumbered R ns ms i (next xs) n q (ys, e, r) = (ys, ap (renumbered ms) e, r)
moves_renumbered R ns ms i not_an_action n q e = ap (renumbered ms) e
moves_renumbered R ns ms i not_enabled n q e = ap (renumbered ms) e
moves_renumbered R ns ms i (fault c f) n q e = ap (renumbered ms) e ∙ ap (λ (l : List ℕ). fault (slice_index l c) f) q

pub same_step_from : SameStepFrom
same_step_from p s a ss slots runs r =
    let ns : List ℕ = participants (its_components s) a in
    let whole : (k : ℕ) → slice_index ns (0 + k) ≡ slice_index ns k = λ k. let e : 0 + k ≡ k = omega arith in ap (slice_index ns) e in
    let like = like_by_place (InSlots p s) ns 0 ns (filter (has a) (its_components s)) (filter (has a) (tabled p)) whole
    (like_among (InSlots p s) 0 (its_components s) (tabled p) a (does_as p s runs).components) in
    moves_renumbered (InSlotsOf p s ns) ns (participants (tabled p) a) 0 (step (filter (has a) (its_components s)) a ss) (step (filter (has a) (tabled p)) a slots) (participants_as p s runs a)
    (step_like (InSlotsOf p s ns) (filter (has a) (its_components s)) (filter (has a) (tabled p)) a ss slots like r)
