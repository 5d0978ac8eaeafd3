-- The texts that are read as an action: its one spelling, with blanks between tokens and at both ends, and with leading zeros.
use Rattle.std.specs.Prelude.{◌≡◌, ◌⊎◌, ℕ, ℤ, pos, neg_ℤ, Bool, true, false, ◌||◌, ◌==◌, IsTrue, List, [], ◌∷◌, ◌++◌, All, codes}
use Rattle.std.specs.List.{list_all}
use Rattle.std.specs.Str.Parse.{IsNumeral, digits_value}
use Rattle.ioa_value.specs.Plain.{Val, Vals, truth, num, name, tuple, items, none, more, vals}
use Rattle.ioa_value.specs.Table.{Table, type_name, constant_name}
use Rattle.ioa_value.specs.Typing.{HasType}
use Rattle.ioa_value.specs.Names.{IsName}
use Rattle.ioa_value.specs.Actions.{Act}

-- a space, a tab or a CR
abbrev pub is_blank : ℕ → Bool
is_blank b = b == 32 || b == 9 || b == 13

abbrev pub IsBlank : List ℕ → Type 0
IsBlank text = IsTrue (list_all is_blank text)

-- the word, with blanks before and after it
abbrev pub Padded : List ℕ → List ℕ → Type 0
Padded word text = (before : List ℕ) × (after : List ℕ) × IsBlank before × IsBlank after × (text ≡ before ++ (word ++ after))

-- decimal digits, perhaps after a `-`
abbrev pub SpellsNumber : List ℕ → ℤ → Type 0
SpellsNumber word z =
    (digits : List ℕ) × IsNumeral 10 digits
    × (((word ≡ digits) × (z ≡ pos (digits_value 10 digits))) ⊎ ((word ≡ 45 ∷ digits) × (z ≡ neg_ℤ (pos (digits_value 10 digits)))))

-- a spelling of the value, with blanks between its tokens and at both ends
abbrev mutual
  pub Spells : Table → List ℕ → Val → Type 0
  Spells types text (truth true) = Padded (codes "true") text
  Spells types text (truth false) = Padded (codes "false") text
  Spells types text (num z) = (word : List ℕ) × SpellsNumber word z × Padded word text
  Spells types text (name own n) = Padded (constant_name types own n) text
  Spells types text (tuple own vs) =
      (head : List ℕ) × (row : List ℕ) × Padded (type_name types own) head × SpellsRow types 41 row vs × (text ≡ head ++ 40 ∷ row)
  Spells types text (items own vs) =
      (head : List ℕ) × (row : List ℕ) × Padded (type_name types own) head × SpellsRow types 93 row vs × (text ≡ head ++ 91 ∷ row)

  -- the values, parted by `,`, and then the closing mark and blanks; of no value blanks alone
  pub SpellsRow : Table → ℕ → List ℕ → Vals → Type 0
  SpellsRow types close text none =
      (before : List ℕ) × (after : List ℕ) × IsBlank before × IsBlank after × (text ≡ before ++ close ∷ after)
  SpellsRow types close text (more v vs) =
      (first : List ℕ) × (rest : List ℕ) × Spells types first v × SpellsAfter types close rest vs × (text ≡ first ++ rest)

  -- after a value: each further value after a `,`, and then the closing mark and blanks
  pub SpellsAfter : Table → ℕ → List ℕ → Vals → Type 0
  SpellsAfter types close text none = (after : List ℕ) × IsBlank after × (text ≡ close ∷ after)
  SpellsAfter types close text (more v vs) =
      (first : List ℕ) × (rest : List ℕ) × Spells types first v × SpellsAfter types close rest vs × (text ≡ 44 ∷ (first ++ rest))

-- the value is one of some type's
abbrev pub IsTyped : Table → Val → Type 0
IsTyped types v = (ty : ℕ) × HasType types v ty

-- one value or more, parted by `,`, each of some type, up to a `)` and blanks
abbrev pub ReadsValues : Table → List ℕ → List Val → Type 0
ReadsValues types text [] = ⊥
ReadsValues types text (v ∷ vs) = SpellsRow types 41 text (vals (v ∷ vs)) × All (IsTyped types) (v ∷ vs)

-- nothing, or one value or more after a `(`
abbrev pub ReadsArguments : Table → List ℕ → List Val → Type 0
ReadsArguments types text [] = text ≡ []
ReadsArguments types text (v ∷ vs) = (rest : List ℕ) × ReadsValues types rest (v ∷ vs) × (text ≡ 40 ∷ rest)

-- the name, and where there are values, they in parentheses
unfoldable pub Reads : Table → List ℕ → Act → Type 0
Reads types text a =
    IsName a.name × ((first : List ℕ) × (rest : List ℕ) × Padded a.name first × ReadsArguments types rest a.vals × (text ≡ first ++ rest))
