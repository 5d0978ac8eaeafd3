-- A stream of which each action is one of the program's, or of no name of it, is refused where a monitor does not accept it.
use Rattle.std.proofs.Common.{◌≡◌, ℕ, ◌+◌, Bool, true, false, List, [], ◌∷◌, Option, None, Some, All, if◌then◌else◌, refl, sym, ap, ◌∙◌}
use Rattle.std.specs.List.{list_any}
use Rattle.std.proofs.lemmas.Bool.{false≢true}
use Rattle.std.proofs.lemmas.List.Elements.{All-head, All-tail}
use Rattle.ioa_value.specs.Actions.{Name, Act}
use Rattle.ioa_value.specs.Table.{contains, place_from}
use Rattle.ioa_value.proofs.NameLemmas.{place_inside}
use Rattle.ioa_tree.specs.Components.{Component, has}
use Rattle.ioa_tree.specs.Steps.{Moved, next, not_an_action, not_enabled, fault, step}
use Rattle.ioa_tree.specs.Runs.{Ending}
use Rattle.ioa_compile.specs.Programs.{Prog}
use Rattle.ioa_compile.specs.Tables.{start_states, tabled}
use Rattle.ioa_monitor.specs.Monitoring.{after_action, monitored_from}
use Rattle.ioa_watch.specs.AsMonitors.{RefusesAsMonitor}
use Rattle.ioa_watch.specs.Names.{names_of}
use Rattle.ioa_watch.specs.Watched.{Watching, answered, hearing_all, starting, tried}
use Rattle.ioa_watch.proofs.Counted.{no_place}
use Rattle.ioa_watch.proofs.Hearing.{hearing_still_all, hearing_tried}
use Rattle.ioa_watch.proofs.EntryNames.{action_named}

module _ {S : Type 0} (names : List Name) (ps : List (Component S)) where
  -- it has one of the names exactly where it is an action
  abbrev Agrees : Act → Type 0
  Agrees a = contains names a.name ≡ list_any (has a) ps

  -- of whatever is kept without a refusal
  abbrev Goes : List Act → Type 0
  Goes acts = (v : Watching S) → v.refusal ≡ None → (hearing_all names ps acts v).refusal ≡ monitored_from v.heard ps acts v.states

  as_monitored : (acts : List Act) (w : Watching S) → w.refusal ≡ None → All Agrees acts → (hearing_all names ps acts w).refusal ≡ monitored_from w.heard ps acts w.states
  as_monitored [] w none h = none
  as_monitored (a ∷ acts) w none h =
      ap (λ v. (hearing_all names ps acts v).refusal) (hearing_tried names ps a w none)
      ∙ by_place (place_from 0 names a.name) refl (list_any (has a) ps) (All-head Agrees a acts h)
      (λ v k. as_monitored acts v k (All-tail Agrees a acts h))
    where
      stays : (u : Watching S) (e : Ending) → u.refusal ≡ Some e → (hearing_all names ps acts u).refusal ≡ Some e
      stays u e k = ap (λ (v : Watching S). v.refusal) (hearing_still_all names ps acts u e k) ∙ k

      by_step : (i : ℕ) (m : Moved S) → Goes acts
          → (hearing_all names ps acts (answered i m w)).refusal ≡ after_action w.heard m (λ ts. monitored_from (w.heard + 1) ps acts ts)
      by_step i (next ss) more = more (answered i (next ss) w) none
      by_step i not_an_action more = stays (answered i not_an_action w) _ refl
      by_step i not_enabled more = stays (answered i not_enabled w) _ refl
      by_step i (fault c f) more = stays (answered i (fault c f) w) _ refl

      by_place : (o : Option ℕ) → place_from 0 names a.name ≡ o → (b : Bool) → contains names a.name ≡ b → Goes acts
          → (hearing_all names ps acts (tried names ps o a w)).refusal
          ≡ (if b then after_action w.heard (step ps a w.states) (λ ts. monitored_from (w.heard + 1) ps acts ts) else monitored_from (w.heard + 1) ps acts w.states)
      by_place (Some i) e true k more = by_step i (step ps a w.states) more
      by_place (Some i) e false k more = absurd (false≢true (sym k ∙ place_inside 0 names a.name i e))
      by_place None e true k more = absurd (false≢true (sym (no_place 0 names a.name e) ∙ k))
      by_place None e false k more = more (tried names ps None a w) none

same_tests : (b c : Bool) → (b ≡ true → c ≡ true) → (c ≡ true → b ≡ true) → b ≡ c
same_tests true c f g = sym (f refl)
same_tests false true f g = g refl
same_tests false false f g = refl

pub refuses_as_monitor : (p : Prog) (acts : List Act) → RefusesAsMonitor p acts
refuses_as_monitor p acts = λ own.
    let names : List Name = names_of p.members in
    as_monitored names (tabled p) acts (starting names (start_states p)) refl
    (λ k d l. let a = own k d l in same_tests _ _ a (λ h. action_named p _ h))
