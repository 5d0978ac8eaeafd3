-- What a monitor accepts, of components that are alike.
use Rattle.std.proofs.Common.{◌≡◌, ℕ, ◌+◌, ◌<◌, List, [], ◌∷◌, Bool, Option, Some, length, drop, get_or, if◌then◌else◌, refl, sym, ap, subst, ◌∙◌}
use Rattle.std.specs.List.{list_any}
use Rattle.ioa_value.specs.Actions.{Act}
use Rattle.ioa_value.specs.Plain.{Val}
use Rattle.ioa_value.proofs.ItemLemmas.{drop_item}
use Rattle.ioa_tree.specs.Components.{Component, has}
use Rattle.ioa_tree.specs.Steps.{Moved, next, not_an_action, not_enabled, fault, step}
use Rattle.ioa_tree.specs.Runs.{Ending, not_enabled_at, fault_at}
use Rattle.ioa_tree.specs.Tree.{EntryTree}
use Rattle.ioa_tree.specs.Compositions.{Composed, Member}
use Rattle.ioa_tree.specs.Likes.{AllLike, AllRelated, MovesLike}
use Rattle.ioa_tree.proofs.Simulation.{step_like}
use Rattle.ioa_compile.specs.Programs.{Prog, EntryCode, MemberCode}
use Rattle.ioa_compile.specs.Tables.{tabled, start_states}
use Rattle.ioa_compile.specs.Matching.{MatchesEntry, MatchesMember}
use Rattle.ioa_compile.specs.Implements.{Implements}
use Rattle.ioa_compile.proofs.Paired.{paired_any}
use Rattle.ioa_system.specs.declared.outcomes.Step.{Step}
use Rattle.ioa_system.specs.Outcomes.{KeepsUnlessNext, step_of}
use Rattle.ioa_monitor.specs.Monitoring.{after_action, monitored_from, monitored, is_internal, hides, hides_in}
use Rattle.ioa_monitor.proofs.Acting.{any_like, is_action, step_acts}

after_like : {S T : Type 0} (R : ℕ → S → T → Type 0) (n : ℕ) (m : Moved S) (m' : Moved T) (f : List S → Option Ending) (g : List T → Option Ending)
    → MovesLike R 0 m m' → ((us : List S) (vs : List T) → AllRelated R 0 us vs → f us ≡ g vs) → after_action n m f ≡ after_action n m' g
after_like R n (next us) m' f g (vs, e, h) k = rw e (k us vs h)
after_like R n not_an_action m' f g e k = rw e refl
after_like R n not_enabled m' f g e k = rw e refl
after_like R n (fault c x) m' f g e k = rw e refl

monitored_from_like : {S T : Type 0} (R : ℕ → S → T → Type 0) (n : ℕ) (ps : List (Component S)) (qs : List (Component T)) (acts : List Act) (ss : List S) (ts : List T)
    → AllLike R 0 ps qs → AllRelated R 0 ss ts → monitored_from n ps acts ss ≡ monitored_from n qs acts ts
monitored_from_like R n ps qs [] ss ts h r = refl
monitored_from_like R n ps qs (a ∷ acts) ss ts h r =
    let o : list_any (has a) ps ≡ list_any (has a) qs = any_like R ps qs a ss ts h r in
    let s = after_like R n (step ps a ss) (step qs a ts) (λ us. monitored_from (n + 1) ps acts us) (λ vs. monitored_from (n + 1) qs acts vs)
    (step_like R ps qs a ss ts h r) (λ us vs k. monitored_from_like R (n + 1) ps qs acts us vs h k) in
    let k : monitored_from (n + 1) ps acts ss ≡ monitored_from (n + 1) qs acts ts = monitored_from_like R (n + 1) ps qs acts ss ts h r in
    rw (s, k, o) refl

pub monitored_like : {S T : Type 0} (R : ℕ → S → T → Type 0) (ps : List (Component S)) (qs : List (Component T)) (acts : List Act) (ss : List S) (ts : List T)
    → AllLike R 0 ps qs → AllRelated R 0 ss ts → monitored ps acts ss ≡ monitored qs acts ts
monitored_like R ps qs acts ss ts h r = monitored_from_like R 0 ps qs acts ss ts h r

-- ---- one action more

-- what an answer makes of a monitor
abbrev pub by_answer : ℕ → Step → Option Ending → Option Ending
by_answer n Step.Next rest = rest
by_answer n Step.NotAnAction rest = rest
by_answer n Step.NotEnabled rest = Some (not_enabled_at n)
by_answer n (Step.Fault c f) rest = Some (fault_at c f n)

module _ {S : Type 0} (n : ℕ) (ps : List (Component S)) (a : Act) (acts : List Act) (ss us : List S) where
  -- where the action is one or not
  abbrev taken : Moved S → Bool → Option Ending
  taken m b = if b then after_action n m (λ ts. monitored_from (n + 1) ps acts ts) else monitored_from (n + 1) ps acts ss

  by_step : (m : Moved S) → m ≡ step ps a ss → monitored_from n ps (a ∷ acts) ss ≡ taken m (is_action m)
  by_step m e = ap (λ k. taken k (list_any (has a) ps)) (sym e) ∙ ap (taken m) (sym (step_acts ps a ss) ∙ ap is_action (sym e))

  pub monitored_more : (s : Step) → step_of s us ≡ step ps a ss → KeepsUnlessNext s ss us → monitored_from n ps (a ∷ acts) ss ≡ by_answer n s (monitored_from (n + 1) ps acts us)
  monitored_more Step.Next e k = by_step (next us) e
  monitored_more Step.NotAnAction e k = by_step not_an_action e ∙ ap (λ ts. monitored_from (n + 1) ps acts ts) (sym k)
  monitored_more Step.NotEnabled e k = by_step not_enabled e
  monitored_more (Step.Fault c f) e k = by_step (fault c f) e

-- one action more of the program's table, where the step is of a program that is this one
pub monitored_next : (p q : Prog) (acts : List Act) (i : ℕ) (a : Act) (ss us : List (List Val)) (s : Step) → q ≡ p → i < length acts → a ≡ get_or acts i a
    → monitored (tabled p) acts (start_states p) ≡ monitored_from i (tabled p) (drop i acts) ss
    → step_of s us ≡ step (tabled q) a ss → KeepsUnlessNext s ss us
    → monitored (tabled p) acts (start_states p) ≡ by_answer i s (monitored_from (i + 1) (tabled p) (drop (i + 1) acts) us)
monitored_next p q acts i a ss us s same l item rest e k =
    rest ∙ ap (λ xs. monitored_from i (tabled p) xs ss) (drop_item acts i a l item)
    ∙ monitored_more i (tabled p) a (drop (i + 1) acts) ss us s (subst (λ x. step_of s us ≡ step (tabled x) a ss) same e) k

hides_entry : (m : Member) (e : EntryTree) (c : EntryCode) → MatchesEntry m e c → is_internal c.kind ≡ is_internal e.kind
hides_entry m e c h = ap is_internal h.kind

hides_member : (m : Member) (c : MemberCode) → MatchesMember m c
    → list_any (λ (e : EntryCode). is_internal e.kind) c.entries ≡ list_any (λ (e : EntryTree). is_internal e.kind) m.instance.automaton.entries
hides_member m c h =
    paired_any (MatchesEntry m) (λ (e : EntryTree). is_internal e.kind) (λ (e : EntryCode). is_internal e.kind) (hides_entry m) m.instance.automaton.entries c.entries h.entries

pub hides_means : (p : Prog) (c : Composed) → Implements p c → hides_in c ≡ hides p
hides_means p c m =
    let e : list_any (λ (k : MemberCode). list_any (λ (x : EntryCode). is_internal x.kind) k.entries) p.members
    ≡ list_any (λ (k : Member). list_any (λ (x : EntryTree). is_internal x.kind) k.instance.automaton.entries) c.members =
    paired_any MatchesMember (λ (k : Member). list_any (λ (x : EntryTree). is_internal x.kind) k.instance.automaton.entries)
    (λ (k : MemberCode). list_any (λ (x : EntryCode). is_internal x.kind) k.entries) hides_member c.members p.members m.tables in
    rw (e, m.hidden) refl
