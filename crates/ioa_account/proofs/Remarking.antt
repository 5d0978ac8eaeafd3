-- What is told of how runs end.
use Rattle.std.proofs.Common.{◌≡◌, inl, inr, length, ℕ, ◌++◌, true, false, cond, List, [], ◌∷◌, Option, None, Result, Ok, Err, OnOk, map, refl, sym, ap, ap₂, subst, ◌∙◌, append-nil, append_assoc}
use Rattle.std.specs.List.{list_any}
use Rattle.std.proofs.lemmas.List.Elements.{filter-append}
use Rattle.std.proofs.lemmas.Simd.{map-map}
use Rattle.ioa_value.specs.Actions.{Act, act_of}
use Rattle.ioa_value.specs.declared.action.Action.{Action}
use Rattle.ioa_tree.specs.Components.{Component, has}
use Rattle.ioa_tree.specs.Hosts.{Hosted, first_broken_host, host_instances, host_starts, hosts_of}
use Rattle.ioa_tree.specs.Invariants.{Broken}
use Rattle.ioa_tree.specs.Runs.{Ending}
use Rattle.ioa_tree.specs.Steps.{participants}
use Rattle.ioa_compile.specs.Programs.{Prog}
use Rattle.ioa_compile.specs.Subjects.{RunsAs, Subject, its_components}
use Rattle.ioa_compile.specs.Tables.{tabled}
use Rattle.ioa_compile.proofs.Subjects.{participants_as}
use Rattle.ioa_system.specs.declared.outcomes.Step.{Step}
use Rattle.ioa_system.specs.declared.log.Log.{Log}
use Rattle.ioa_system.specs.declared.log.LogEntry.{LogEntry}
use Rattle.ioa_system.specs.Logs.{Logged, actions_of, log_entry, logged}
use Rattle.ioa_monitor.specs.Monitoring.{IsHiding, IsRefusedAt, monitored}
use Rattle.ioa_account.specs.Counts.{asked_invariants, known_actions}
use Rattle.ioa_account.specs.declared.remarks.Told.{Told}
use Rattle.ioa_account.specs.Remarks.{TellsBroken, TellsEnd, TellsInspected, TellsMonitored, TellsRefusal, asked_text, known_among, known_text, log_line, no_line, states_asked}
use Rattle.ioa_account.proofs.Counting.{known_first}

-- what follows of a call that passed
pub on_ok : {A E : Type 0} {P Q : Type 0} (r : Result A E) → (P → Q) → OnOk r P → OnOk r Q
on_ok (Ok x) f p = f p
on_ok (Err e) f p = tt

-- three texts that are put one behind the other
pub three_put : (old a b c first second third : List ℕ) → first ≡ old ++ a → second ≡ first ++ b → third ≡ second ++ c → third ≡ old ++ (a ++ (b ++ c))
three_put old a b c first second third e f g =
    g ∙ ap (λ l. l ++ c) (f ∙ ap (λ l. l ++ b) e) ∙ append_assoc (old ++ a) b c ∙ append_assoc old a (b ++ c)

-- the actions of a log's entries
abbrev pub entered : List LogEntry → List Act
entered es = map (λ e. act_of e.action) es

pub entered_are : (l : Log) → actions_of (logged l) ≡ entered l.entries.items
entered_are l = map-map (λ e. e.1) log_entry l.entries.items

-- a list that is equal to theirs has them, too
pub acts_of_log : (l : Log) (xs ys : List Action) → xs ≡ ys → map act_of ys ≡ entered l.entries.items → map act_of xs ≡ actions_of (logged l)
acts_of_log l xs ys same e = ap (map act_of) same ∙ e ∙ sym (entered_are l)

-- ---- actions that are known

-- one action more
pub known_more : {S : Type 0} (ps : List (Component S)) (acts : List Act) (a : Act) → list_any (has a) ps ≡ true → known_among ps acts ++ a ∷ [] ≡ known_among ps (acts ++ a ∷ [])
known_more ps acts a known =
    let one : known_among ps (a ∷ []) ≡ a ∷ [] = rw known refl in
    sym (filter-append (λ b. list_any (has b) ps) acts (a ∷ []) ∙ ap (λ more. known_among ps acts ++ more) one)

pub known_passed : {S : Type 0} (ps : List (Component S)) (acts : List Act) (a : Act) → list_any (has a) ps ≡ false → known_among ps acts ≡ known_among ps (acts ++ a ∷ [])
known_passed ps acts a unknown =
    let none : known_among ps (a ∷ []) ≡ [] = rw unknown refl in
    sym (filter-append (λ b. list_any (has b) ps) acts (a ∷ []) ∙ ap (λ more. known_among ps acts ++ more) none ∙ append-nil (known_among ps acts))

-- the same where the same components take part in each action
known_among_alike : {S T : Type 0} (ps : List (Component S)) (qs : List (Component T)) (acts : List Act) → ((a : Act) → participants ps a ≡ participants qs a)
    → known_among ps acts ≡ known_among qs acts
known_among_alike ps qs [] same = refl
known_among_alike ps qs (a ∷ acts) same =
    ap₂ (λ known rest. cond known (a ∷ rest) rest) (known_first ps qs a (same a)) (known_among_alike ps qs acts same)

-- of a program and of what it runs as
pub known_among_as : (p : Prog) (s : Subject) → RunsAs p s → (acts : List Act) → known_among (tabled p) acts ≡ known_among (its_components s) acts
known_among_as p s runs acts = known_among_alike (tabled p) (its_components s) acts (participants_as p s runs)

-- ---- what a monitor answers

module _ (t : Told) (h : Hosted) (acts : List Act) (before told : List ℕ) (is_told : told ≡ before ++ known_text (known_actions (hosts_of h) acts) (length acts)) where
  pub all_hidden : IsHiding h → TellsMonitored t h acts before told
  all_hidden hiding = inl (hiding, is_told)

  pub all_accepted : monitored (hosts_of h) acts (host_starts h) ≡ None → TellsMonitored t h acts before told
  all_accepted none = inr (subst (λ o. TellsRefusal t h acts o (before ++ known_text (known_actions (hosts_of h) acts) (length acts)) told) (sym none) is_told)

  -- the action of this index is not accepted
  module _ (i : ℕ) (line after : List ℕ) (is_line : line ≡ told ++ log_line t i) (tells : TellsEnd t no_line (known_among (hosts_of h) acts) line after) where
    abbrev Refuses : Option Ending → Type 0
    Refuses o = TellsRefusal t h acts o (before ++ known_text (known_actions (hosts_of h) acts) (length acts)) after

    from_line : TellsEnd t no_line (known_among (hosts_of h) acts) ((before ++ known_text (known_actions (hosts_of h) acts) (length acts)) ++ log_line t i) after
    from_line = subst (λ l. TellsEnd t no_line (known_among (hosts_of h) acts) l after) (is_line ∙ ap (λ b. b ++ log_line t i) is_told) tells

    refused_at : (s : Step) (o : Option Ending) → IsRefusedAt i s o → Refuses o
    refused_at Step.Next o r = absurd r
    refused_at Step.NotAnAction o r = subst Refuses (sym r) (i, refl, from_line)
    refused_at Step.NotEnabled o r = subst Refuses (sym r) (i, refl, from_line)
    refused_at (Step.Fault c f) o r = subst Refuses (sym r) (i, refl, from_line)

    pub one_refused : (s : Step) → IsRefusedAt i s (monitored (hosts_of h) acts (host_starts h)) → TellsMonitored t h acts before after
    one_refused s r = inr (refused_at s (monitored (hosts_of h) acts (host_starts h)) r)

-- ---- invariants that are asked

-- this one is the first that is broken, or none is
pub inspected : (t : Told) (h : Hosted) (log : Logged) (o : Option Broken) (before told after : List ℕ) (asked states : ℕ) → o ≡ first_broken_host h (actions_of log)
    → asked ≡ asked_invariants h.invariants (host_instances h) → states ≡ states_asked h (actions_of log) o → told ≡ before ++ asked_text asked states
    → TellsBroken t h (actions_of log) o told after → TellsInspected t h log before after
inspected t h log o before told after asked states found is_asked is_states is_told tells = λ agrees.
    subst (λ b. TellsBroken t h (actions_of log) b (before ++ asked_text (asked_invariants h.invariants (host_instances h)) (states_asked h (actions_of log) b)) after) found
    (subst (λ s. TellsBroken t h (actions_of log) o s after) (is_told ∙ ap₂ (λ n m. before ++ asked_text n m) is_asked is_states) tells)
