-- Signatures of instances: their entries, with the values of their constants.
use Rattle.std.specs.Prelude.{◌≡◌, List, [], ◌∷◌, map, Vec}
use Rattle.std.specs.List.{AllZip}
use Rattle.std.specs.Global.{Global}
use Rattle.ioa_value.specs.declared.positions.Position.{Position}
use Rattle.ioa_value.specs.Positions.{Domain, domain_of}
use Rattle.ioa_tree.specs.Tree.{EntryTree}
use Rattle.ioa_tree.specs.View.{automaton_of}
use Rattle.ioa_tree.specs.Instances.{Instance}
use Rattle.ioa_tree.specs.Domains.{AreDomainsOf}
use Rattle.ioa_compose.specs.declared.binding.Binding.{Binding}
use Rattle.ioa_clash.specs.Clashes.{SignedEntry}

-- positions without the memory that holds them
abbrev pub domains_in : Vec Position Global → List Domain
domains_in ps = map domain_of ps.items

-- these are the positions of the entries, one list for each, with the values that constants have in the instance
abbrev pub ArePositionsOf : Instance → List EntryTree → List (List Domain) → Type 0
ArePositionsOf i es dss = AllZip (λ e ds. AreDomainsOf i e.positions ds) es dss

-- the entry of an instance is told so
pub record IsSigned (i : Instance) (e : EntryTree) (s : SignedEntry) : Type 0 where
  pub kind : s.kind ≡ e.kind
  pub name : s.name ≡ e.name
  pub domains : AreDomainsOf i e.positions s.domains

-- so is each of its entries, in order
abbrev pub IsSignatureOf : Instance → List SignedEntry → Type 0
IsSignatureOf i ss = AllZip (IsSigned i) i.automaton.entries ss

-- entries with these positions, one list for each, as they are compared
abbrev pub signed_entries : List EntryTree → List (List Domain) → List SignedEntry
signed_entries [] dss = []
signed_entries (e ∷ es) [] = []
signed_entries (e ∷ es) (ds ∷ dss) = record { kind = e.kind; name = e.name; domains = ds } ∷ signed_entries es dss

-- those of a component's own automaton
abbrev pub signature_in : Binding → List SignedEntry
signature_in b = signed_entries (automaton_of b.own).entries (map domains_in b.positions.items)
