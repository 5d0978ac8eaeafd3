-- There are as many states as components: after each step, after a legal history, and when a log is resumed.
use Rattle.std.proofs.Common.{◌≡◌, ℕ, suc, ◌+◌, List, [], ◌∷◌, length, Bool, true, false, cond, Result, Ok, Err, refl, sym, ◌∙◌, ap, arith}
use Rattle.std.specs.List.{list_any}
use Rattle.std.proofs.lemmas.List.{length-map}
use Rattle.ioa_arithmetic.specs.declared.arithmetic.Fault.{Fault}
use Rattle.ioa_value.specs.Actions.{Act}
use Rattle.ioa_tree.specs.Components.{Component, has}
use Rattle.ioa_tree.specs.Compositions.{Member}
use Rattle.ioa_tree.specs.Hosts.{host_of, host_start}
use Rattle.ioa_tree.specs.Instances.{component_of, state_of}
use Rattle.ioa_tree.specs.Steps.{Moved, next, not_an_action, not_enabled, fault, Asked, free, owned, allowed, asked, effect_on, effects, step, then_rest, with_state}
use Rattle.ioa_compile.specs.Programs.{MemberCode}
use Rattle.ioa_compile.specs.Subjects.{State, Subject, its_components, its_starts, of_composition, of_hosts, of_table}
use Rattle.ioa_compile.specs.Tables.{table_component}
use Rattle.ioa_system.specs.Histories.{Leads}
use Rattle.ioa_system.specs.Logs.{Logged}
use Rattle.ioa_board.specs.Boards.{Standing}
use Rattle.ioa_board.specs.Resuming.{resumption}
use Rattle.ioa_board.proofs.Resumed.{resumed_goes}

long_with : {S : Type 0} (s : S) (m : Moved S) (n : ℕ) → ((ts : List S) → m ≡ next ts → length ts ≡ n) → (us : List S) → with_state s m ≡ next us → length us ≡ suc n
long_with s (next ts) n h us e = let q : s ∷ ts ≡ us = cc in ap length (sym q) ∙ ap suc (h ts refl)
long_with s not_an_action n h us e = absurd (cc)
long_with s not_enabled n h us e = absurd (cc)
long_with s (fault c f) n h us e = absurd (cc)

long_rest : {S : Type 0} (i : ℕ) (x : Result S Fault) (m : Moved S) (n : ℕ) → ((ts : List S) → m ≡ next ts → length ts ≡ n) → (us : List S) → then_rest i x m ≡ next us → length us ≡ suc n
long_rest i (Ok s) m n h us e = long_with s m n h us e
long_rest i (Err f) m n h us e = absurd (cc)

long_effects : {S : Type 0} (i : ℕ) (ps : List (Component S)) (a : Act) (ss us : List S) → length ss ≡ length ps → effects i ps a ss ≡ next us → length us ≡ length ps
long_effects i [] a ss us l e = let q : [] ≡ us = cc in ap length (sym q)
long_effects i (p ∷ ps) a [] us l e = absurd (cc)
long_effects i (p ∷ ps) a (s ∷ ss) us l e =
    let m : length ss ≡ length ps = omega (arith, l) in
    long_rest i (effect_on p a s) (effects (i + 1) ps a ss) (length ps) (λ ts k. long_effects (i + 1) ps a ss ts m k) us e

long_allowed : {S : Type 0} (g : Asked) (m : Moved S) (us : List S) → allowed g m ≡ next us → m ≡ next us
long_allowed free m us e = e
long_allowed (owned i (Ok true)) m us e = e
long_allowed (owned i (Ok false)) m us e = absurd (cc)
long_allowed (owned i (Err f)) m us e = absurd (cc)

pub long_step : {S : Type 0} (ps : List (Component S)) (a : Act) (ss us : List S) → length ss ≡ length ps → step ps a ss ≡ next us → length us ≡ length ps
long_step {S} ps a ss us l e = go (list_any (has a) ps) e
  where
    go : (b : Bool) → cond b (allowed (asked 0 ps a ss) (effects 0 ps a ss)) not_an_action ≡ next us → length us ≡ length ps
    go true k = long_effects 0 ps a ss us l (long_allowed (asked 0 ps a ss) (effects 0 ps a ss) us k)
    go false k = absurd (cc)

long_leads : {S : Type 0} (ps : List (Component S)) (es : List (ℕ × Act)) (ss ts : List S) → length ss ≡ length ps → Leads ps es ss ts → length ts ≡ length ps
long_leads ps [] ss ts l h = ap length h ∙ l
long_leads ps (e ∷ es) ss ts l (us, own, steps, more) = long_leads ps es us ts (long_step ps e.1 ss us l steps) more

pub component_for_each : (s : Subject) → length (its_starts s) ≡ length (its_components s)
component_for_each (of_hosts h) = length-map h.hosts host_start ∙ sym (length-map h.hosts host_of)
component_for_each (of_composition c) = length-map c.members (λ (q : Member). state_of q.instance.automaton q.starts) ∙ sym (length-map c.members (λ (q : Member). component_of q.instance))
component_for_each (of_table p) = length-map p.members (λ (q : MemberCode). q.start.values) ∙ sym (length-map p.members table_component)

-- also when a log is resumed
pub resumed_long : (s : Subject) (log : Logged) (b : Standing (State s)) → resumption (its_components s) (its_starts s) log ≡ Ok b → length b.states ≡ length (its_components s)
resumed_long s log b h = long_leads (its_components s) log.entries (its_starts s) b.states (component_for_each s) (resumed_goes (its_components s) (its_starts s) log b h).legal
