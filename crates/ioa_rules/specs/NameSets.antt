-- Names by their own order.
use Rattle.std.specs.Prelude.{◌≡◌, ℕ, List}
use Rattle.std.specs.Borrow.{Bor}
use Rattle.std.specs.BTreeSet.{BTreeSet, contains_by}
use Rattle.std.specs.Cmp.Lexicographic.{slice_cmp}
use Rattle.std.specs.Ordering.{nat_cmp}
use Rattle.ioa_value.specs.Actions.{Name}
use Rattle.ioa_value.specs.Table.{contains}

-- the set has these names, and no others
abbrev pub HasJust : BTreeSet (Bor (List ℕ)) → List Name → Type 0
HasJust set names = (x : Name) → contains_by (λ k. slice_cmp nat_cmp x k.now) set ≡ contains names x
