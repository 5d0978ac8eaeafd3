-- The participants' drafts: new words for their states, which do not stand yet.
use Rattle.std.specs.Prelude.{◌≡◌, ◌<◌, ◌≤◌, List, [], ◌∷◌, All, length, nat_eq}
use Rattle.std.specs.List.{IsDistinct}
use Rattle.ioa_parts.specs.Nodes.{Node}
use Rattle.ioa_node.specs.Drafts.{Fits, Marked, with_draft}
use Rattle.ioa_system.specs.declared.participation.Participant.{Participant}
use Rattle.ioa_system.specs.Found.{numbers_of, state_of}

-- the participants' states, each with the new words of its draft
abbrev pub drafted : List Node → List Participant → List Marked → List Node
drafted ns [] ds = []
drafted ns (q ∷ qs) [] = []
drafted ns (q ∷ qs) (d ∷ ds) = with_draft d (state_of ns q) ∷ drafted ns qs ds

-- each participant's draft fits its state
abbrev pub AllFit : List Node → List Participant → List Marked → Type 0
AllFit ns [] ds = Unit {0}
AllFit ns (q ∷ qs) [] = Unit {0}
AllFit ns (q ∷ qs) (d ∷ ds) = Fits d (state_of ns q) × AllFit ns qs ds

-- there is a draft for each participant, and fits its state
pub record AreDrafts (ns : List Node) (qs : List Participant) (ds : List Marked) : Type 0 where
  pub count : length qs ≤ length ds
  pub fit : AllFit ns qs ds

-- the participants are different components, each with its state in its place among those of all
pub record ArePlaces (qs : List Participant) (ns : List Node) : Type 0 where
  pub within : All (λ q. q.component < length ns) qs
  pub places : All (λ q. q.place ≡ q.component) qs
  pub distinct : IsDistinct nat_eq (numbers_of qs)
