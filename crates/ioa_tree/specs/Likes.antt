-- Compositions over states of two types that do the same.
use Rattle.std.specs.Prelude.{ℕ, ◌≡◌, ◌+◌, List, [], ◌∷◌, IsTrue, Result, Ok, Err}
use Rattle.ioa_arithmetic.specs.declared.arithmetic.Fault.{Fault}
use Rattle.ioa_value.specs.Actions.{Act}
use Rattle.ioa_tree.specs.Components.{Component, has, owns}
use Rattle.ioa_tree.specs.Steps.{Moved, next, not_an_action, not_enabled, fault}
use Rattle.ioa_tree.specs.Runs.{Reached}

-- related states, or the same fault
abbrev pub AreLike : {S T : Type 0} → (S → T → Type 0) → Result S Fault → Result T Fault → Type 0
AreLike R (Ok s) (Ok t) = R s t
AreLike R (Ok s) (Err f) = ⊥
AreLike R (Err f) (Ok t) = ⊥
AreLike R (Err f) (Err g) = f ≡ g

-- two components that have the same actions, and answer alike on related states
pub record IsLike {S T : Type 0} (R : S → T → Type 0) (p : Component S) (q : Component T) : Type 0 where
  pub kinds : (a : Act) → p.kind_of a ≡ q.kind_of a
  pub guards : (a : Act) (s : S) (t : T) → IsTrue (owns a p) → R s t → p.guard a s ≡ q.guard a t
  pub effects : (a : Act) (s : S) (t : T) → IsTrue (has a p) → R s t → AreLike R (p.effect a s) (q.effect a t)

-- by place from i on, with a relation for each place
abbrev pub AllLike : {S T : Type 0} → (ℕ → S → T → Type 0) → ℕ → List (Component S) → List (Component T) → Type 0
AllLike R i [] [] = Unit {0}
AllLike R i [] (q ∷ qs) = ⊥
AllLike R i (p ∷ ps) [] = ⊥
AllLike R i (p ∷ ps) (q ∷ qs) = IsLike (R i) p q × AllLike R (i + 1) ps qs

abbrev pub AllRelated : {S T : Type 0} → (ℕ → S → T → Type 0) → ℕ → List S → List T → Type 0
AllRelated R i [] [] = Unit {0}
AllRelated R i [] (t ∷ ts) = ⊥
AllRelated R i (s ∷ ss) [] = ⊥
AllRelated R i (s ∷ ss) (t ∷ ts) = R i s t × AllRelated R (i + 1) ss ts

-- the same answer, with related states
abbrev pub MovesLike : {S T : Type 0} → (ℕ → S → T → Type 0) → ℕ → Moved S → Moved T → Type 0
MovesLike {T = T} R i (next ss) n = (ts : List T) × (n ≡ next ts) × AllRelated R i ss ts
MovesLike R i not_an_action n = n ≡ not_an_action
MovesLike R i not_enabled n = n ≡ not_enabled
MovesLike R i (fault c f) n = n ≡ fault c f

-- the same actions performed, the same end, and related states
pub record RunsLike {S T : Type 0} (R : ℕ → S → T → Type 0) (r : Reached S) (q : Reached T) : Type 0 where
  pub performed : r.performed ≡ q.performed
  pub ending : r.ending ≡ q.ending
  pub states : AllRelated R 0 r.states q.states
