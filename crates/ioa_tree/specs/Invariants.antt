-- Which states of a composition break an invariant (invariants of automata: Lynch 1996, section 8.5.1).
use Rattle.std.specs.Prelude.{ℕ, ◌+◌, List, [], ◌∷◌, Bool, false, not, ◌&&◌, if◌then◌else◌, Option, Some, None}
use Rattle.std.specs.Option.{option_map}
use Rattle.std.specs.Str.{bytes_eq}
use Rattle.ioa_value.specs.Actions.{Act}
use Rattle.ioa_value.specs.Operators.{Answer, gives, faults, nothing}
use Rattle.ioa_value.specs.Plain.{truth as truth_value, num, name, tuple, items}
use Rattle.ioa_tree.specs.Tree.{Expr, InvariantTree}
use Rattle.ioa_tree.specs.Meaning.{Env, or_else, over, val}
use Rattle.ioa_tree.specs.Instances.{Instance, formal_values}
use Rattle.ioa_tree.specs.Components.{Component}
use Rattle.ioa_tree.specs.Steps.{Moved, next, not_an_action, not_enabled, fault, step}
use Rattle.ioa_tree.specs.Compositions.{Composed, components_of, starts_of, instances_of}

-- the answer is the truth value true; a fault is not
abbrev pub is_true : Answer → Bool
is_true (gives (truth_value b)) = b
is_true (gives (num z)) = false
is_true (gives (name ty n)) = false
is_true (gives (tuple ty vs)) = false
is_true (gives (items ty vs)) = false
is_true (faults f) = false
is_true nothing = false

-- the condition is true of the instance in this state
abbrev pub holds : Instance → Expr → Env → Bool
holds i condition s = is_true (val i.types condition (over s (formal_values i)))

-- the instance, in this state, breaks the invariant: it is of the instance's automaton, and is not true
abbrev pub breaks : Instance → InvariantTree → Env → Bool
breaks i v s = bytes_eq v.automaton i.automaton.name && not (holds i v.condition s)

-- an invariant that is broken: after how many actions, by which component, and the invariant's number
pub record Broken : Type 0 where
  pub state : ℕ
  pub component : ℕ
  pub invariant : ℕ

-- the number of the first invariant that the instance breaks, where the first of these has the number k
abbrev pub broken_by : ℕ → List InvariantTree → Instance → Env → Option ℕ
broken_by k [] i s = None
broken_by k (v ∷ vs) i s = if breaks i v s then Some k else broken_by (k + 1) vs i s

-- the first invariant that the first of the instances breaks, by their numbers from j on, each in its state after n actions
abbrev pub broken_from : ℕ → ℕ → List InvariantTree → List Instance → List Env → Option Broken
broken_from n j vs [] ss = None
broken_from n j vs (i ∷ is) [] = None
broken_from n j vs (i ∷ is) (s ∷ ss) =
    or_else (option_map (λ k. record { state = n; component = j; invariant = k }) (broken_by 0 vs i s)) (broken_from n (j + 1) vs is ss)

-- the first that the composition breaks in these states, n actions after its start
abbrev pub broken_at : Composed → ℕ → List Env → Option Broken
broken_at c n ss = broken_from n 0 c.invariants (instances_of c) ss

-- in the states after a step, if it is performed
abbrev pub in_next : {S : Type 0} → Moved S → (List S → Option Broken) → Option Broken
in_next (next ss) more = more ss
in_next not_an_action more = None
in_next not_enabled more = None
in_next (fault i f) more = None

-- along a run, by what is broken in the states after so many actions: in these states, or later
abbrev pub first_from : {S : Type 0} → List (Component S) → (ℕ → List S → Option Broken) → ℕ → List Act → List S → Option Broken
first_from ps broken n [] ss = broken n ss
first_from ps broken n (a ∷ acts) ss = or_else (broken n ss) (in_next (step ps a ss) (λ ts. first_from ps broken (n + 1) acts ts))

-- along the composition's run of the actions: of the least state, then component, then invariant that is broken
abbrev pub first_broken : Composed → List Act → Option Broken
first_broken c acts = first_from (components_of c) (broken_at c) 0 acts (starts_of c)
