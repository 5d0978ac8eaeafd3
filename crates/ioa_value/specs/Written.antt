-- The one spelling of a value and of an action.
use Rattle.std.specs.Prelude.{ℕ, true, false, List, [], ◌∷◌, ◌++◌, codes}
use Rattle.std.specs.Fmt.{signed_decimal}
use Rattle.ioa_value.specs.Plain.{Val, Vals, truth, num, name, tuple, items, none, more, vals}
use Rattle.ioa_value.specs.Table.{Table, type_name, constant_name}
use Rattle.ioa_value.specs.Actions.{Act}

-- `true`, `false`, a number in decimal, a name of an enumeration, or the type's name and the values of a tuple in `(` and `)`, of a
-- sequence in `[` and `]`
abbrev mutual
  pub written_value : Table → Val → List ℕ
  written_value types (truth true) = codes "true"
  written_value types (truth false) = codes "false"
  written_value types (num z) = signed_decimal z
  written_value types (name own n) = constant_name types own n
  written_value types (tuple own vs) = type_name types own ++ (codes "(" ++ (written_row types vs ++ codes ")"))
  written_value types (items own vs) = type_name types own ++ (codes "[" ++ (written_row types vs ++ codes "]"))

  -- the values, parted by `, `
  pub written_row : Table → Vals → List ℕ
  written_row types none = []
  written_row types (more v vs) = written_value types v ++ written_after types vs

  -- the values, each with `, ` before it
  pub written_after : Table → Vals → List ℕ
  written_after types none = []
  written_after types (more v vs) = codes ", " ++ (written_value types v ++ written_after types vs)

-- one value or more in parentheses, parted by `, `
abbrev pub written_values : Table → List Val → List ℕ
written_values types [] = []
written_values types (v ∷ vs) = codes "(" ++ (written_row types (vals (v ∷ vs)) ++ codes ")")

-- the name, and the values where there are any
unfoldable pub written_action : Table → Act → List ℕ
written_action types a = a.name ++ written_values types a.vals
