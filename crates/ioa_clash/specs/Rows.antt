-- Rows of an index, by their numbers.
use Rattle.std.specs.Prelude.{◌≡◌, ℕ, ◌+◌, List, [], ◌∷◌, map, Option, Some, None, String, if◌then◌else◌}
use Rattle.std.specs.BTreeMap.{BTreeMap, get_by_text}
use Rattle.std.specs.Global.{Global}
use Rattle.std.specs.Str.{bytes_eq}
use Rattle.std.specs.String.{string_bytes}
use Rattle.ioa_value.specs.Actions.{Name}
use Rattle.ioa_clash.specs.declared.index.Row.{Row}

-- the number of the first of these that is the name, from n on
abbrev pub number_of : ℕ → List Name → Name → Option ℕ
number_of n [] x = None
number_of n (m ∷ ms) x = if bytes_eq m x then Some n else number_of (n + 1) ms x

abbrev pub names_of : {P : Type 0} → List (Row P) → List Name
names_of rows = map (λ r. string_bytes r.name) rows

-- each name has the number of its row
abbrev pub AreNumbered : BTreeMap (String Global) ℕ → List Name → Type 0
AreNumbered numbers ms = (x : Name) → get_by_text numbers x ≡ number_of 0 ms x
