-- Where a run ends, the action that is not performed is one of the list, and a component that stops it is one of the composition's.
use Rattle.std.proofs.Common.{◌≡◌, ◌<◌, ℕ, suc, ◌+◌, Bool, true, false, cond, List, [], ◌∷◌, length, Option, Some, Result, Ok, Err, slice_get, refl, ap, ◌∙◌, arith}
use Rattle.std.specs.Option.{option_and_then}
use Rattle.std.specs.List.{list_any}
use Rattle.ioa_arithmetic.specs.declared.arithmetic.Fault.{Fault}
use Rattle.ioa_value.specs.Actions.{Act}
use Rattle.ioa_tree.specs.Components.{Component, has, owns}
use Rattle.ioa_tree.specs.Hosts.{hosts_of, host_starts}
use Rattle.ioa_tree.specs.Runs.{Reached, after, run_from}
use Rattle.ioa_tree.specs.Steps.{Moved, next, not_an_action, not_enabled, fault, Asked, free, owned, allowed, asked, effect_on, effects, owner, owner_from, step, then_rest, with_state}
use Rattle.ioa_account.specs.Ends.{EndsAreFound, IsStopped}

-- ---- a step

-- effects give new states, or the fault of a component with a number below n
abbrev IsEffect : {S : Type 0} → ℕ → Moved S → Type 0
IsEffect n (next ss) = Unit {0}
IsEffect n not_an_action = ⊥
IsEffect n not_enabled = ⊥
IsEffect n (fault c f) = c < n

with_effect : {S : Type 0} (n : ℕ) (s : S) (m : Moved S) → IsEffect n m → IsEffect n (with_state s m)
with_effect n s (next ss) h = tt
with_effect n s not_an_action h = absurd h
with_effect n s not_enabled h = absurd h
with_effect n s (fault c f) h = h

then_effect : {S : Type 0} (n i : ℕ) (r : Result S Fault) (m : Moved S) → i < n → IsEffect n m → IsEffect n (then_rest i r m)
then_effect n i (Ok s) m less h = with_effect n s m h
then_effect n i (Err f) m less h = less

are_effects : {S : Type 0} (n i : ℕ) (ps : List (Component S)) (a : Act) (ss : List S) → i + length ps ≡ n → IsEffect n (effects i ps a ss)
are_effects n i [] a ss same = tt
are_effects n i (p ∷ ps) a [] same = tt
are_effects n i (p ∷ ps) a (s ∷ ss) same = then_effect n i (effect_on p a s) (effects (i + 1) ps a ss) (omega (arith, same)) (are_effects n (i + 1) ps a ss (omega (arith, same)))

-- who is asked owns the action, and has a number below n
abbrev IsOwned : ℕ → Option ℕ → Asked → Type 0
IsOwned n o free = Unit {0}
IsOwned n o (owned c r) = (o ≡ Some c) × (c < n)

first_owned : (b : Bool) (n i : ℕ) (r : Result Bool Fault) (o : Option ℕ) (g : Asked) → i < n → IsOwned n o g → IsOwned n (cond b (Some i) o) (cond b (owned i r) g)
first_owned true n i r o g less h = (refl, less)
first_owned false n i r o g less h = h

is_owned : {S : Type 0} (n i : ℕ) (ps : List (Component S)) (a : Act) (ss : List S) → i + length ps ≡ n → IsOwned n (owner_from i ps a) (asked i ps a ss)
is_owned n i [] a ss same = tt
is_owned n i (p ∷ ps) a [] same = tt
is_owned n i (p ∷ ps) a (s ∷ ss) same =
    first_owned (owns a p) n i (p.guard a s) (owner_from (i + 1) ps a) (asked (i + 1) ps a ss) (omega (arith, same)) (is_owned n (i + 1) ps a ss (omega (arith, same)))

-- a step that is not enabled has an owner, and one that faults a component that faults
abbrev IsAnswer : {S : Type 0} → ℕ → Option ℕ → Moved S → Type 0
IsAnswer n o (next ss) = Unit {0}
IsAnswer n o not_an_action = Unit {0}
IsAnswer n o not_enabled = (c : ℕ) × (o ≡ Some c) × (c < n)
IsAnswer n o (fault c f) = c < n

by_effect : {S : Type 0} (n : ℕ) (o : Option ℕ) (m : Moved S) → IsEffect n m → IsAnswer n o m
by_effect n o (next ss) h = tt
by_effect n o not_an_action h = tt
by_effect n o not_enabled h = absurd h
by_effect n o (fault c f) h = h

by_asked : {S : Type 0} (n : ℕ) (o : Option ℕ) (g : Asked) (m : Moved S) → IsOwned n o g → IsEffect n m → IsAnswer n o (allowed g m)
by_asked n o free m k h = by_effect n o m h
by_asked n o (owned c (Ok true)) m k h = by_effect n o m h
by_asked n o (owned c (Ok false)) m k h = (c, k.0, k.1)
by_asked n o (owned c (Err f)) m k h = k.1

by_any : {S : Type 0} (b : Bool) (n : ℕ) (o : Option ℕ) (m : Moved S) → IsAnswer n o m → IsAnswer n o (cond b m not_an_action)
by_any true n o m h = h
by_any false n o m h = tt

answers : {S : Type 0} (ps : List (Component S)) (a : Act) (ss : List S) → IsAnswer (length ps) (owner ps a) (step ps a ss)
answers ps a ss =
    let all : 0 + length ps ≡ length ps = omega arith in
    by_any (list_any (has a) ps) (length ps) (owner ps a) (allowed (asked 0 ps a ss) (effects 0 ps a ss))
    (by_asked (length ps) (owner ps a) (asked 0 ps a ss) (effects 0 ps a ss) (is_owned (length ps) 0 ps a ss all) (are_effects (length ps) 0 ps a ss all))

-- ---- a run

-- the ending of a run over what is left of some actions behind the first n
module _ {S : Type 0} (ps : List (Component S)) (all : List Act) where
  stopped_after : (n : ℕ) (a : Act) (ss : List S) (m : Moved S) (more : List S → Reached S) → slice_get all n ≡ Some a → n < length all → IsAnswer (length ps) (owner ps a) m
      → ((ts : List S) → IsStopped ps all (more ts).ending) → IsStopped ps all (after n ss m more).ending
  stopped_after n a ss (next ts) more at less h rest = rest ts
  stopped_after n a ss not_an_action more at less h rest = less
  stopped_after n a ss not_enabled more at less h rest = (less, (h.0, ap (option_and_then (owner ps)) at ∙ h.1, h.2))
  stopped_after n a ss (fault c f) more at less h rest = (less, (c, refl, h))

  stopped_from : (n : ℕ) (acts : List Act) (ss : List S) → ((k : ℕ) → slice_get all (n + k) ≡ slice_get acts k) → n + length acts ≡ length all
      → IsStopped ps all (run_from n ps acts ss).ending
  stopped_from n [] ss at long = tt
  stopped_from n (a ∷ acts) ss at long =
      let here : n ≡ n + 0 = omega arith in
      stopped_after n a ss (step ps a ss) (λ ts. run_from (n + 1) ps acts ts) (ap (slice_get all) here ∙ at 0) (omega (arith, long)) (answers ps a ss)
      (λ ts. stopped_from (n + 1) acts ts (λ k. let next : n + 1 + k ≡ n + suc k = omega arith in ap (slice_get all) next ∙ at (suc k)) (omega (arith, long)))

pub ends_are_found : EndsAreFound
ends_are_found h acts = stopped_from (hosts_of h) acts 0 acts (host_starts h) (λ k. let here : 0 + k ≡ k = omega arith in ap (slice_get acts) here) (omega arith)
