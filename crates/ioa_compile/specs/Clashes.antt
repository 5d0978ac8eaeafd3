-- Which components of a program clash.
use Rattle.std.specs.Prelude.{◌≡◌, List, map, Some, slice_get}
use Rattle.ioa_clash.specs.declared.clashes.Clash.{Clash}
use Rattle.ioa_clash.specs.Clashes.{AreFirstToClash, SignedEntry}
use Rattle.ioa_compile.specs.Programs.{EntryCode, MemberCode}
use Rattle.ioa_compile.specs.Tables.{table_component}

-- an entry as it is compared with others
abbrev pub signed_entry : EntryCode → SignedEntry
signed_entry e = record { kind = e.kind; name = e.name; domains = e.positions }

-- a component's entries as they are compared
abbrev pub signature_in : MemberCode → List SignedEntry
signature_in m = map signed_entry m.entries

-- two of these components clash on this entry of the first one, and no two before them clash
pub record IsFirstClash (ms : List MemberCode) (c : Clash) : Type 0 where
  pub member : MemberCode
  pub here : slice_get ms c.first ≡ Some member
  pub entry : EntryCode
  pub among : slice_get member.entries c.entry ≡ Some entry
  pub first : AreFirstToClash (map table_component ms) c.first c.second entry.name
