-- A composition without the memory that holds it.
use Rattle.std.specs.Prelude.{◌≡◌, ℕ, List, map, refl, All}
use Rattle.std.specs.String.{string_bytes}
use Rattle.std.specs.Coded.{Coded, code_by, coded×, coded_list, coded_ℕ}
use Rattle.ioa_value.specs.Plain.{plain}
use Rattle.ioa_tree.specs.View.{automaton_of, invariant_of}
use Rattle.ioa_tree.specs.declared.tree.Invariant.{Invariant}
use Rattle.ioa_tree.specs.contracts.tree.Invariant as tree_invariant
use Rattle.ioa_value.specs.Table.{Table}
use Rattle.ioa_value.specs.Coded.{coded_table}
use Rattle.ioa_tree.specs.Compositions as compositions
use Rattle.ioa_compose.specs.Fine.{IsSound}
use Rattle.ioa_compose.specs.Signatures.{domains_in, ArePositionsOf}
use Rattle.ioa_compose.specs.declared.binding.Binding.{Binding}
use Rattle.ioa_compose.specs.declared.member.Member.{Member}
use Rattle.ioa_compose.specs.contracts.member.Member as member

-- what the program holds of a composition
pub record Held : Type 0 where
  pub types : Table
  pub name : List ℕ
  pub members : List Member
  pub hidden : List (List ℕ)
  pub invariants : List Invariant

abbrev pub held_code : Coded Held
held_code =
    code_by (Table × (List ℕ × (List Member × (List (List ℕ) × List Invariant))))
    (coded× coded_table (coded× (coded_list coded_ℕ) (coded× (coded_list member.the_row.coded) (coded× (coded_list (coded_list coded_ℕ)) (coded_list tree_invariant.the_row.coded)))))
    (λ h. (h.types, (h.name, (h.members, (h.hidden, h.invariants)))))
    (λ p. record { types = p.0; name = p.1.0; members = p.1.1.0; hidden = p.1.1.1.0; invariants = p.1.1.1.1 }) (λ _. refl)

abbrev pub member_of : Member → compositions.Member
member_of m = record {
  name = string_bytes m.name;
  instance = record { types = m.types; automaton = automaton_of m.automaton; arguments = map plain m.arguments.items };
  starts = map plain m.starts.items;
  declared = m.declared;
}

-- the composition of the definitions
abbrev pub composed_of : Held → compositions.Composed
composed_of h = record { types = h.types; name = h.name; members = map member_of h.members; hidden = h.hidden; invariants = map invariant_of h.invariants }

-- the component holds the positions of its automaton's entries
abbrev pub HoldsPositions : Member → Type 0
HoldsPositions m = ArePositionsOf (member_of m).instance (member_of m).instance.automaton.entries (map domains_in m.positions.items)

abbrev pub AllHoldPositions : List Member → Type 0
AllHoldPositions ms = All HoldsPositions ms

-- they are those that were made for the binding
abbrev pub KeepsPositions : Binding → Member → Type 0
KeepsPositions b m = m.positions ≡ b.positions

-- what the type of compositions keeps: they are sound, and the components hold their entries' positions
pub record IsKept (h : Held) : Type 0 where
  pub sound : IsSound (composed_of h)
  pub positions : AllHoldPositions h.members
