-- The place of a name in a list.
use Rattle.std.proofs.Common.{◌≡◌, ℕ, ◌+◌, ◌<◌, ◌≤◌, Bool, true, false, cond, List, [], ◌∷◌, length, map, Option, Some, refl, sym, ap, ◌∙◌, arith}
use Rattle.std.specs.List.{position, position_from}
use Rattle.std.specs.Str.{bytes_eq}
use Rattle.std.proofs.lemmas.List.{length-map}
use Rattle.std.proofs.lemmas.Iterator.Adapters.{position_from-zero}
use Rattle.ioa_value.specs.Actions.{Name}
use Rattle.ioa_value.specs.Table.{Table, place_from, type_named}

-- the first place at which the item's name is this one
places : {X Y : Type 0} (view : X → Y) (label : Y → Name) (x : Name) (i : ℕ) (xs : List X) → position_from (λ y. bytes_eq (label (view y)) x) i xs ≡ place_from i (map label (map view xs)) x
places view label x i [] = refl
places view label x i (y ∷ ys) = ap (cond (bytes_eq (label (view y)) x) (Some i)) (places view label x (i + 1) ys)

pub position-place : {X Y : Type 0} (view : X → Y) (label : Y → Name) (x : Name) (xs : List X) → position (λ y. bytes_eq (label (view y)) x) xs ≡ place_from 0 (map label (map view xs)) x
position-place view label x xs = position_from-zero (λ y. bytes_eq (label (view y)) x) xs ∙ places view label x 0 xs

-- a place is below the length
pub place_from_below : (i : ℕ) (ns : List Name) (x : Name) (k : ℕ) → place_from i ns x ≡ Some k → (i ≤ k) × (k < i + length ns)
place_from_below i [] x k e = absurd (cc)
place_from_below i (n ∷ ns) x k e = go (bytes_eq n x) e (place_from_below (i + 1) ns x k)
  where
    go : (b : Bool) → cond b (Some i) (place_from (i + 1) ns x) ≡ Some k → (place_from (i + 1) ns x ≡ Some k → (i + 1 ≤ k) × (k < i + 1 + length ns)) → (i ≤ k) × (k < i + length (n ∷ ns))
    go true e rest = let same : i ≡ k = cc in (omega arith, omega arith)
    go false e rest = let r = rest e in (omega arith, omega arith)

pub place_below : (ns : List Name) (x : Name) (k : ℕ) → place_from 0 ns x ≡ Some k → k < length ns
place_below ns x k e = let r = place_from_below 0 ns x k e in omega arith

pub type_below : (types : Table) (x : Name) (k : ℕ) → type_named types x ≡ Some k → k < length types
type_below types x k e = let r : k < length (map (λ d. d.name) types) = place_below (map (λ d. d.name) types) x k e in simp length-map at r

-- a place, in names that are the same
pub place_in : (ns ms : List Name) (x : Name) (o : Option ℕ) → o ≡ place_from 0 ns x → ns ≡ ms → place_from 0 ms x ≡ o
place_in ns ms x o e g = ap (λ l. place_from 0 l x) (sym g) ∙ sym e
