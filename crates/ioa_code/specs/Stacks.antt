-- Stacks of types, each known by a number.
use Rattle.std.specs.Prelude.{◌≡◌, ◌≢◌, ◌<◌, ◌≤◌, ℕ, zero, suc, ◌+◌, ◌-◌, List, [], ◌∷◌, ◌++◌, length, map, reverse, Vec, Option, Some, None, Result, Ok, Err, slice_get}
use Rattle.std.specs.Global.{Global}
use Rattle.ioa_value.specs.declared.value.Ty.{Ty}
use Rattle.ioa_value.specs.Plain.{number}
use Rattle.ioa_code.specs.declared.reason.Reason.{Reason}
use Rattle.ioa_code.specs.declared.links.Links.{Links}
use Rattle.ioa_code.specs.declared.stacks.Depth.{Depth}
use Rattle.ioa_code.specs.declared.links.Link.{Link}
use Rattle.ioa_code.specs.declared.exits.Exit.{Exit}
use Rattle.ioa_code.specs.declared.exits.Exits.{Exits}
use Rattle.ioa_code.specs.declared.exits.Exits.TheVariants.{Back, One, Two}
use Rattle.ioa_code.specs.Links.{owner, leads, searched}
use Rattle.ioa_code.specs.Valid.{Way}

-- stacks by their numbers: what each but the empty one lies on, with the type on its top, the links by which it is found, and how deep it is
pub record Numbering : Type 0 where
  pub nodes : List (ℕ × ℕ)
  pub links : List Links
  pub depths : List Depth

-- stack 0 is empty; stack k + 1 has the number of a stack, and on it a type
abbrev pub node_at : List (ℕ × ℕ) → ℕ → Option (ℕ × ℕ)
node_at nodes zero = None
node_at nodes (suc k) = slice_get nodes k

-- the stack of this number has these types, from the top down
abbrev pub Spells : List (ℕ × ℕ) → ℕ → List ℕ → Type 0
Spells nodes k [] = k ≡ 0
Spells nodes k (t ∷ ts) = (below : ℕ) × (node_at nodes k ≡ Some (below, t)) × Spells nodes below ts

-- the same with the top last
abbrev pub IsStack : List (ℕ × ℕ) → ℕ → List ℕ → Type 0
IsStack nodes k ts = Spells nodes k (reverse ts)

-- one of the numbers given
abbrev pub IsNumber : Numbering → ℕ → Type 0
IsNumber s k = k ≤ length s.nodes

-- the search for this stack comes to the link, past other stacks alone
pub record Reaches (s : Numbering) (key : ℕ × ℕ) (link : Link) : Type 0 where
  pub turns : ℕ
  pub comes : searched s.links key turns ≡ link
  pub past : (d : ℕ) → d < turns → leads s.links (searched s.links key d) ≢ 0
  pub others : (d : ℕ) → d < turns → node_at s.nodes (leads s.links (searched s.links key d)) ≢ Some key

-- the search for this stack finds its number, or else ends at this link
abbrev pub Searched : Numbering → ℕ × ℕ → Result ℕ Link → Type 0
Searched s key (Ok k) = node_at s.nodes k ≡ Some key
Searched s key (Err link) = Reaches s key link × (owner link < length s.links) × (leads s.links link ≡ 0)

-- the types of stack j are the first ones of those of stack k, from the bottom
abbrev pub LiesBeneath : List (ℕ × ℕ) → (j k : ℕ) → Type 0
LiesBeneath nodes j k = (ts : List ℕ) → IsStack nodes k ts → (us : List ℕ) × IsStack nodes j us × ((vs : List ℕ) × (ts ≡ us ++ vs))

-- what is kept of how deep a stack is: how many types are on it, and an earlier stack that lies beneath it
pub record IsDepth (nodes : List (ℕ × ℕ)) (k : ℕ) (d : Depth) : Type 0 where
  pub height : (ts : List ℕ) → IsStack nodes k ts → d.height ≡ length ts
  pub low : d.height ≤ k
  pub earlier : d.under ≤ k - 1
  pub beneath : LiesBeneath nodes d.under k

-- the same of a stack that is still to be added, with one type more on this one
pub record Deepens (s : Numbering) (below : ℕ) (d : Depth) : Type 0 where
  pub height : (ts : List ℕ) → IsStack s.nodes below ts → d.height ≡ length ts + 1
  pub low : d.height ≤ below + 1
  pub earlier : d.under ≤ below
  pub beneath : LiesBeneath s.nodes d.under below

-- a stack lies on an earlier one, links lead to later ones, the search for a stack finds it, and each is as deep as is kept
pub record IsNumbered (s : Numbering) : Type 0 where
  pub long : length s.links ≡ length s.nodes + 1
  pub earlier : (key : ℕ × ℕ) (k : ℕ) → node_at s.nodes k ≡ Some key → key.0 < k
  pub later : (link : Link) → leads s.links link ≢ 0 → (owner link < leads s.links link) × IsNumber s (leads s.links link)
  pub each : (key : ℕ × ℕ) (k : ℕ) → node_at s.nodes k ≡ Some key → (link : Link) × Reaches s key link × (leads s.links link ≡ k)
  pub tall : length s.depths ≡ length s.nodes + 1
  pub depths : (k : ℕ) (d : Depth) → slice_get s.depths k ≡ Some d → IsDepth s.nodes k d

-- there may be more stacks, and none has changed its types
abbrev pub Grows : Numbering → Numbering → Type 0
Grows old new = (k : ℕ) (key : ℕ × ℕ) → node_at old.nodes k ≡ Some key → node_at new.nodes k ≡ Some key

-- the n topmost types with the last on top, and the stack below them, if there are so many
abbrev pub on : Option (ℕ × List ℕ) → ℕ → Option (ℕ × List ℕ)
on (Some r) ty = Some (r.0, r.1 ++ ty ∷ [])
on None ty = None

abbrev pub from_node : Option (ℕ × ℕ) → (ℕ × ℕ → Option (ℕ × List ℕ)) → Option (ℕ × List ℕ)
from_node (Some key) next = next key
from_node None next = None

abbrev pub topmost : List (ℕ × ℕ) → ℕ → ℕ → Option (ℕ × List ℕ)
topmost nodes k zero = Some (k, [])
topmost nodes k (suc n) = from_node (node_at nodes k) (λ key. on (topmost nodes key.0 n) key.1)

abbrev pub taken : Option (ℕ × Vec Ty Global) → Option (ℕ × List ℕ)
taken (Some r) = Some (r.0, map number r.1.items)
taken None = None

-- the stack has these types, or the reasons agree
abbrev pub Agrees : List (ℕ × ℕ) → Result ℕ Reason → Result (List ℕ) Reason → Type 0
Agrees nodes (Ok k) (Ok ts) = IsStack nodes k ts
Agrees nodes (Ok k) (Err reason) = ⊥
Agrees nodes (Err why) (Ok ts) = ⊥
Agrees nodes (Err why) (Err reason) = why ≡ reason

-- of each stack of these types, what comes of it
abbrev pub Passes : Numbering → Numbering → ℕ → Result ℕ Reason → (List ℕ → Result (List ℕ) Reason) → Type 0
Passes old new k r after = Grows old new × ((ts : List ℕ) → IsStack old.nodes k ts → Agrees new.nodes r (after ts))

-- the exits in order
abbrev pub listed : Exits → List Exit
listed Back = []
listed (One e) = e ∷ []
listed (Two e f) = e ∷ f ∷ []

abbrev pub exit : ℕ → ℕ → Exit
exit to stack = record { to = to; stack = stack }

-- the exits lead where the ways do, with stacks of their types
abbrev pub AreWays : List (ℕ × ℕ) → List Exit → List Way → Type 0
AreWays nodes [] [] = Unit {0}
AreWays nodes [] (w ∷ ws) = ⊥
AreWays nodes (e ∷ es) [] = ⊥
AreWays nodes (e ∷ es) (w ∷ ws) = (e.to ≡ w.to) × IsStack nodes e.stack w.types × AreWays nodes es ws

-- the exits are the ways, or the reasons agree
abbrev pub AgreeOn : List (ℕ × ℕ) → Result Exits Reason → Result (List Way) Reason → Type 0
AgreeOn nodes (Ok exits) (Ok ways) = AreWays nodes (listed exits) ways
AgreeOn nodes (Ok exits) (Err reason) = ⊥
AgreeOn nodes (Err why) (Ok ways) = ⊥
AgreeOn nodes (Err why) (Err reason) = why ≡ reason

-- of each stack of these types, where the instruction leads
abbrev pub LeadsOn : Numbering → Numbering → ℕ → Result Exits Reason → (List ℕ → Result (List Way) Reason) → Type 0
LeadsOn old new k r after = Grows old new × ((ts : List ℕ) → IsStack old.nodes k ts → AgreeOn new.nodes r (after ts))

-- with this stack to the place after p
abbrev pub next_exit : ℕ → Result ℕ Reason → Result Exits Reason
next_exit p (Ok k) = Ok (One (exit (p + 1) k))
next_exit p (Err why) = Err why

-- with this stack to place t, and to the place after p
abbrev pub both_exits : ℕ → ℕ → Result ℕ Reason → Result Exits Reason
both_exits t p (Ok k) = Ok (Two (exit t k) (exit (p + 1) k))
both_exits t p (Err why) = Err why
