-- Components as their composition sees them (Lynch 1996, sections 8.1 and 8.2).
use Rattle.std.specs.Prelude.{◌≡◌, ◌≢◌, ℕ, List, Bool, true, false, Option, None, Some, Result, slice_get}
use Rattle.ioa_arithmetic.specs.declared.arithmetic.Fault.{Fault}
use Rattle.ioa_value.specs.Actions.{Act}
use Rattle.ioa_tree.specs.declared.tree.Kind.{Kind}
use Rattle.ioa_tree.specs.declared.tree.Kind.TheVariants.{Input, Output, Internal}

-- a component whose states are of this type: its signature, the preconditions of its local actions, and its effects;
-- an action with no kind is none of its own
pub record Component (S : Type 0) : Type 0 where
  pub kind_of : Act → Option Kind
  pub guard : Act → S → Result Bool Fault
  pub effect : Act → S → Result S Fault

abbrev pub is_kind : Option Kind → Bool
is_kind None = false
is_kind (Some k) = true

-- outputs and internals are locally controlled
abbrev pub is_local : Option Kind → Bool
is_local None = false
is_local (Some Input) = false
is_local (Some Output) = true
is_local (Some Internal) = true

abbrev pub is_output : Option Kind → Bool
is_output None = false
is_output (Some Input) = false
is_output (Some Output) = true
is_output (Some Internal) = false

abbrev pub has : {S : Type 0} → Act → Component S → Bool
has a p = is_kind (p.kind_of a)

abbrev pub owns : {S : Type 0} → Act → Component S → Bool
owns a p = is_local (p.kind_of a)

-- no internal action of one component is an action of another, and no action is an output of two
abbrev pub Compatible : {S : Type 0} → List (Component S) → Type 0
Compatible {S} ps = (i j : ℕ) (p q : Component S) (a : Act) → i ≢ j → slice_get ps i ≡ Some p → slice_get ps j ≡ Some q →
    (p.kind_of a ≡ Some Internal → q.kind_of a ≡ None) × (p.kind_of a ≡ Some Output → q.kind_of a ≡ Some Output → ⊥)
