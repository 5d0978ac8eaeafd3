-- What a composition does unseen, so that it is no monitor.
use Rattle.std.specs.Prelude.{◌≡◌, ◌⊎◌, ◌++◌, ◌∷◌, ℕ, Bool, true, false, List, Option, Some, codes, find, is_some, map}
use Rattle.std.specs.Borrow.{Bor}
use Rattle.std.specs.String.{string_bytes}
use Rattle.ioa_value.specs.Actions.{Name}
use Rattle.ioa_tree.specs.declared.tree.Kind.{Kind}
use Rattle.ioa_compile.specs.declared.table.Entry.{Entry}
use Rattle.ioa_compile.specs.declared.table.Member.{Member}
use Rattle.ioa_compile.specs.Programs.{Prog}
use Rattle.ioa_compile.specs.Shown.{member_code}
use Rattle.ioac.specs.declared.remarks.unseen.Unseen.{Unseen}

abbrev pub is_internal : Kind → Bool
is_internal Kind.Input = false
is_internal Kind.Output = false
is_internal Kind.Internal = true

-- the first internal entry of a component, and the first component that has one
abbrev pub internal_entry : Member → Option Entry
internal_entry m = find (λ (e : Entry). is_internal e.kind) m.entries.items

abbrev pub is_busy : Member → Bool
is_busy m = is_some (internal_entry m)

abbrev pub busy_member : List Member → Option Member
busy_member ms = find is_busy ms

-- the internal entry of this component
abbrev pub HasInternal : Member → Unseen → Type 0
HasInternal m unseen =
    (e : Entry) × (action component : Bor (List ℕ)) × (internal_entry m ≡ Some e) × (unseen ≡ Unseen.Internal action component)
    × (action.now ≡ string_bytes e.name) × (component.now ≡ string_bytes m.name)

-- of one of the components
abbrev pub IsInternal : List Member → Unseen → Type 0
IsInternal ms unseen = (m : Member) × (busy_member ms ≡ Some m) × HasInternal m unseen

-- the first hidden name
abbrev pub IsHidden : List Name → Unseen → Type 0
IsHidden names unseen = (name : Bor (List ℕ)) × (rest : List Name) × (names ≡ name.now ∷ rest) × (unseen ≡ Unseen.Hidden name)

-- an internal entry of a component, or a hidden name
abbrev pub IsUnseen : Prog → Unseen → Type 0
IsUnseen p unseen = ((ms : List Member) × (map member_code ms ≡ p.members) × IsInternal ms unseen) ⊎ IsHidden p.hidden unseen

-- ---- in which words

abbrev pub internal_text : Name → Name → List ℕ
internal_text action component = codes "`" ++ (action ++ (codes "` is an internal action of " ++ (component ++ codes ", which no log shows")))

abbrev pub hidden_text : Name → List ℕ
hidden_text name = codes "`" ++ (name ++ codes "` is hidden, and a log shows it")

abbrev pub unseen_text : Unseen → List ℕ
unseen_text (Unseen.Internal action component) = internal_text action.now component.now
unseen_text (Unseen.Hidden name) = hidden_text name.now
