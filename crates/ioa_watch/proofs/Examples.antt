-- What a counter refuses of small streams, and what it counts of them: each answer is computed.
use Rattle.std.proofs.Common.{◌≡◌, ℕ, ◌+◌, ◌==◌, List, [], ◌∷◌, Option, Some, None, Ok, Err, pos, refl, codes, if◌then◌else◌}
use Rattle.std.specs.Str.{bytes_eq}
use Rattle.ioa_arithmetic.specs.declared.arithmetic.Fault.TheVariants.{Overflow}
use Rattle.ioa_value.specs.Actions.{Name, Act}
use Rattle.ioa_value.specs.Plain.{Val, num}
use Rattle.ioa_tree.specs.declared.tree.Kind.{Kind}
use Rattle.ioa_tree.specs.declared.tree.Kind.TheVariants.{Input, Output}
use Rattle.ioa_tree.specs.Components.{Component}
use Rattle.ioa_tree.specs.Runs.{Ending, not_an_action_at, not_enabled_at, fault_at}
use Rattle.ioa_watch.specs.Watched.{Watching, hearing_all, starting, watched}

-- a tick has one number
abbrev kind_of_tick : List Val → Option Kind
kind_of_tick [] = None
kind_of_tick (v ∷ []) = Some Output
kind_of_tick (v ∷ w ∷ vs) = None

abbrev value_of : List Val → ℕ
value_of [] = 0
value_of (num (pos k) ∷ vs) = k
value_of (v ∷ vs) = 0

-- ticks tell the count and raise it, until it is 2: then they fault; a reset from outside makes it 0
abbrev counter : Component ℕ
counter = record {
  kind_of = λ a. if bytes_eq a.name (codes "tick") then kind_of_tick a.vals else if bytes_eq a.name (codes "reset") then Some Input else None;
  guard = λ a s. Ok (value_of a.vals == s);
  effect = λ a s. if bytes_eq a.name (codes "reset") then Ok 0 else if s == 2 then Err Overflow else Ok (s + 1);
}

abbrev names : List Name
names = codes "tick" ∷ codes "reset" ∷ []

abbrev act : Name → List Val → Act
act x vs = record { name = x; vals = vs }

abbrev tick : ℕ → Act
tick k = act (codes "tick") (num (pos k) ∷ [])

-- a name of the counter's, and no action of its
abbrev bare_tick : Act
bare_tick = act (codes "tick") []

abbrev reset : Act
reset = act (codes "reset") []

-- of no name of the counter's
abbrev other : Act
other = act (codes "other") (num (pos 7) ∷ [])

abbrev refused : List Act → Option Ending
refused acts = watched names (counter ∷ []) acts (0 ∷ [])

abbrev kept : List Act → Watching ℕ
kept acts = hearing_all names (counter ∷ []) acts (starting names (0 ∷ []))

nothing : refused [] ≡ None
nothing = refl

taken : refused (tick 0 ∷ tick 1 ∷ reset ∷ tick 0 ∷ []) ≡ None
taken = refl

exchanged : refused (tick 1 ∷ tick 0 ∷ []) ≡ Some (not_enabled_at 0)
exchanged = refl

-- an index counts what is passed over, too
passed_over : refused (tick 0 ∷ other ∷ tick 0 ∷ []) ≡ Some (not_enabled_at 2)
passed_over = refl

of_no_entry : refused (tick 0 ∷ bare_tick ∷ tick 1 ∷ []) ≡ Some (not_an_action_at 1)
of_no_entry = refl

faulting : refused (tick 0 ∷ tick 1 ∷ other ∷ tick 2 ∷ []) ≡ Some (fault_at 0 Overflow 3)
faulting = refl

-- the first that is refused is told, whatever follows
later : refused (tick 1 ∷ bare_tick ∷ tick 0 ∷ []) ≡ Some (not_enabled_at 0)
later = refl

-- ---- what is counted

counted : (kept (tick 0 ∷ other ∷ tick 1 ∷ reset ∷ other ∷ [])).counts ≡ 2 ∷ 1 ∷ []
counted = refl

others_counted : (kept (tick 0 ∷ other ∷ tick 1 ∷ reset ∷ other ∷ [])).others ≡ 2
others_counted = refl

-- one that is refused is not taken, and behind it nothing is counted
not_counted : (kept (other ∷ tick 0 ∷ tick 0 ∷ reset ∷ other ∷ [])).counts ≡ 1 ∷ 0 ∷ []
not_counted = refl

no_others_behind : (kept (other ∷ tick 0 ∷ tick 0 ∷ reset ∷ other ∷ [])).others ≡ 1
no_others_behind = refl

heard : (kept (other ∷ tick 0 ∷ tick 0 ∷ reset ∷ other ∷ [])).heard ≡ 2
heard = refl
