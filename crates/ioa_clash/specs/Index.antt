-- What stands under each name: of items that were added in order, and of the entries of components.
use Rattle.std.specs.Prelude.{◌≡◌, ℕ, ◌+◌, List, [], ◌∷◌, ◌++◌, Some, slice_get, if◌then◌else◌}
use Rattle.std.specs.Str.{bytes_eq}
use Rattle.std.specs.String.{string_bytes}
use Rattle.ioa_value.specs.Actions.{Name}
use Rattle.ioa_clash.specs.declared.index.Index.{Index}
use Rattle.ioa_clash.specs.declared.index.Row.{Row}
use Rattle.ioa_clash.specs.declared.places.Place.{Place}
use Rattle.ioa_clash.specs.Clashes.{SignedEntry}

module _ {P : Type 0} where
  -- the items of the first row of this name
  abbrev pub items_of : List (Row P) → Name → List P
  items_of [] x = []
  items_of (r ∷ rs) x = if bytes_eq (string_bytes r.name) x then r.items.items else items_of rs x

  -- what the index has under a name, in order
  abbrev pub under : Index P → Name → List P
  under index x = items_of index.rows.items x

  -- the index has nothing
  abbrev pub HasNothing : Index P → Type 0
  HasNothing index = (x : Name) → under index x ≡ []

  -- the item stands behind the others of this name, and nothing else changes
  abbrev pub Adds : Index P → Name → P → Index P → Type 0
  Adds old name item new = (x : Name) → under new x ≡ (if bytes_eq name x then under old x ++ item ∷ [] else under old x)

module _ {E P : Type 0} (name : E → Name) (item : ℕ → ℕ → E → P) where
  -- the items of those of these entries that have the name: of component c, from entry k on
  abbrev pub named_among : ℕ → ℕ → List E → Name → List P
  named_among c k [] x = []
  named_among c k (e ∷ es) x = if bytes_eq (name e) x then item c k e ∷ named_among c (k + 1) es x else named_among c (k + 1) es x

  -- the same of all entries of these components, which are numbered from c on
  abbrev pub named_in : ℕ → List (List E) → Name → List P
  named_in c [] x = []
  named_in c (es ∷ ess) x = named_among c 0 es x ++ named_in (c + 1) ess x

  -- the items of all entries of this component are added
  abbrev pub AddsAll : Index P → ℕ → List E → Index P → Type 0
  AddsAll old c es new = (x : Name) → under new x ≡ under old x ++ named_among c 0 es x

  -- under each name stand the items of its entries, each once, in ascending order
  abbrev pub IsIndexOf : Index P → List (List E) → Type 0
  IsIndexOf index ess = (x : Name) → under index x ≡ named_in 0 ess x

-- the place of an entry
abbrev pub place_of : ℕ → ℕ → SignedEntry → Place
place_of c k e = record { component = c; entry = k }

-- the entry in this place
abbrev pub IsAt : List (List SignedEntry) → Place → SignedEntry → Type 0
IsAt ss p e = (es : List SignedEntry) × (slice_get ss p.component ≡ Some es) × (slice_get es p.entry ≡ Some e)

abbrev pub entry_name : SignedEntry → Name
entry_name e = e.name
