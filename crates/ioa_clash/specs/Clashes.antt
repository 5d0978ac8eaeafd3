-- When components have an action in common that may not be, and how that is seen of their signatures.
use Rattle.std.specs.Prelude.{◌≡◌, ℕ, ◌<◌, ◌≤◌, ◌⊎◌, Bool, true, false, not, ◌&&◌, All, IsTrue, List, map, find, Vec, Some, None, Ok, slice_get}
use Rattle.std.specs.List.{list_all}
use Rattle.std.specs.Global.{Global}
use Rattle.std.specs.Option.{option_map}
use Rattle.std.specs.Str.{bytes_eq}
use Rattle.ioa_value.specs.Actions.{Name, Act}
use Rattle.ioa_value.specs.Positions.{Domain, IsDomain, domain_of, all_take, all_meet}
use Rattle.ioa_value.specs.Table.{Table}
use Rattle.ioa_tree.specs.declared.tree.Kind.{Kind}
use Rattle.ioa_tree.specs.declared.tree.Kind.TheVariants.{Input, Output, Internal}
use Rattle.ioa_tree.specs.Components.{Component}
use Rattle.ioa_tree.specs.WellFormed.{distinct}
use Rattle.ioa_clash.specs.declared.clashes.Clash.{Clash}
use Rattle.ioa_clash.specs.declared.clashes.SignedEntry as lent

-- some action of this name is internal to one of the two and an action of the other, or an output of both
abbrev pub AreClashing : {S : Type 0} → Name → Component S → Component S → Type 0
AreClashing name p q = (a : Act) × (a.name ≡ name)
    × ((p.kind_of a ≡ Some Internal × (q.kind_of a ≡ None → ⊥))
    ⊎ ((q.kind_of a ≡ Some Internal × (p.kind_of a ≡ None → ⊥))
    ⊎ (p.kind_of a ≡ Some Output × q.kind_of a ≡ Some Output)))

-- a pair of places that stands before another: by its first place, then by its second
abbrev pub Before : ℕ → ℕ → ℕ → ℕ → Type 0
Before k l i j = (k < l) × ((k < i) ⊎ ((k ≡ i) × (l < j)))

-- these two of the components clash on an action of this name, and no two before them clash
pub record AreFirstToClash {S : Type 0} (ps : List (Component S)) (i j : ℕ) (name : Name) : Type 0 where
  pub later : i < j
  pub first : Component S
  pub second : Component S
  pub here : slice_get ps i ≡ Some first
  pub there : slice_get ps j ≡ Some second
  pub clash : AreClashing name first second
  pub none_before : (k l : ℕ) (p q : Component S) (x : Name) → Before k l i j → slice_get ps k ≡ Some p → slice_get ps l ≡ Some q → AreClashing x p q → ⊥

-- an entry as its actions are told: its kind, its name, and the values that stand in its positions
pub record SignedEntry : Type 0 where
  pub kind : Kind
  pub name : Name
  pub domains : List Domain

-- the action is in the entry
abbrev pub signed_has : Table → Act → SignedEntry → Bool
signed_has types a e = bytes_eq e.name a.name && all_take types e.domains a.vals

-- what a signature tells of a component: the kinds of its actions
abbrev pub signed_component : Table → List SignedEntry → Component (Unit {0})
signed_component types es = record {
  kind_of = λ a. option_map (λ e. e.kind) (find (signed_has types a) es);
  guard = λ a s. Ok false;
  effect = λ a s. Ok s;
}

abbrev pub signed_components : Table → List (List SignedEntry) → List (Component (Unit {0}))
signed_components types ss = map (signed_component types) ss

-- the entries of a component: their names differ, and each position has a value
pub record IsSignature (types : Table) (es : List SignedEntry) : Type 0 where
  pub names : IsTrue (distinct (map (λ e. e.name) es))
  pub positions : All (λ e. All (IsDomain types) e.domains) es

-- without the memory that holds them
abbrev pub signed_of : lent.SignedEntry → SignedEntry
signed_of e = record { kind = e.kind; name = e.name.now; domains = map domain_of e.positions.now }

abbrev pub signature_of : Vec lent.SignedEntry Global → List SignedEntry
signature_of es = map signed_of es.items

-- two of these signatures clash on this entry of the first one, and on none before it; no two before them clash
pub record IsFirstClash (types : Table) (ss : List (List SignedEntry)) (c : Clash) : Type 0 where
  pub signature : List SignedEntry
  pub here : slice_get ss c.first ≡ Some signature
  pub entry : SignedEntry
  pub among : slice_get signature c.entry ≡ Some entry
  pub first : AreFirstToClash (signed_components types ss) c.first c.second entry.name
  pub earlier : (l : ℕ) (d : SignedEntry) (other : List SignedEntry) → l < c.entry → slice_get signature l ≡ Some d → slice_get ss c.second ≡ Some other
      → AreClashing d.name (signed_component types signature) (signed_component types other) → ⊥

-- one is internal, or both are outputs
abbrev pub kinds_clash : Kind → Kind → Bool
kinds_clash Internal k = true
kinds_clash Input Internal = true
kinds_clash Input Input = false
kinds_clash Input Output = false
kinds_clash Output Internal = true
kinds_clash Output Output = true
kinds_clash Output Input = false

-- some action is in both entries, and internal to one of them or an output of both
abbrev pub clash : Table → SignedEntry → SignedEntry → Bool
clash types e f = bytes_eq e.name f.name && all_meet types e.domains f.domains && kinds_clash e.kind f.kind

-- the entry clashes with none of these
abbrev pub clear_of : Table → SignedEntry → List SignedEntry → Bool
clear_of types e fs = list_all (λ f. not (clash types e f)) fs

-- no entry of one signature clashes with one of the other
abbrev pub clear : Table → List SignedEntry → List SignedEntry → Bool
clear types es fs = list_all (λ e. clear_of types e fs) es

-- among signatures in order
module _ (types : Table) (ss : List (List SignedEntry)) where
  -- the entry clashes with none of the signature in this place
  abbrev pub IsClearAt : SignedEntry → ℕ → Type 0
  IsClearAt e j = (fs : List SignedEntry) → slice_get ss j ≡ Some fs → clear_of types e fs ≡ true

  -- the entry clashes with one of the signature in this place
  abbrev pub HitsAt : SignedEntry → ℕ → Type 0
  HitsAt e j = (fs : List SignedEntry) × (slice_get ss j ≡ Some fs) × (clear_of types e fs ≡ false)

  -- the first place from the start on, and before the end, at which the entry clashes; or the end
  pub record IsFirstHit (e : SignedEntry) (start end place : ℕ) : Type 0 where
    pub within : place ≤ end
    pub clear : (j : ℕ) → start ≤ j → j < place → IsClearAt e j
    pub hit : place < end → (start ≤ place) × HitsAt e place

  -- two signatures clash first on this entry of the first one
  pub record IsHit (i j first : ℕ) : Type 0 where
    pub later : i < j
    pub signature : List SignedEntry
    pub here : slice_get ss i ≡ Some signature
    pub entry : SignedEntry
    pub among : slice_get signature first ≡ Some entry
    pub hit : HitsAt entry j
    pub earlier : (l : ℕ) (e : SignedEntry) → l < first → slice_get signature l ≡ Some e → IsClearAt e j

  -- no entry of this signature before the k-th clashes with a later signature before the end
  abbrev pub IsClearUpTo : ℕ → ℕ → ℕ → Type 0
  IsClearUpTo i k end = (es : List SignedEntry) (l : ℕ) (e : SignedEntry) (j : ℕ) → slice_get ss i ≡ Some es → l < k → slice_get es l ≡ Some e
      → i < j → j < end → IsClearAt e j

  -- no entry of it clashes so
  abbrev pub IsClearTill : ℕ → ℕ → Type 0
  IsClearTill i end = (es fs : List SignedEntry) (j : ℕ) → slice_get ss i ≡ Some es → slice_get ss j ≡ Some fs → i < j → j < end → clear types es fs ≡ true
