-- Where the actions of each name stand in a program's table.
use Rattle.std.specs.Prelude.{ℕ, Bool, not, ◌&&◌, List, Some, map}
use Rattle.ioa_value.specs.Actions.{Name}
use Rattle.ioa_value.specs.Table.{contains}
use Rattle.ioa_tree.specs.Components.{is_output}
use Rattle.ioa_clash.specs.Index.{IsIndexOf, named_in}
use Rattle.ioa_clash.specs.declared.index.Index.{Index}
use Rattle.ioa_sites.specs.declared.sites.Site.{Site}
use Rattle.ioa_sites.specs.Sites.{site_by}
use Rattle.ioa_compile.specs.Programs.{EntryCode, MemberCode, Prog}

abbrev pub code_name : EntryCode → Name
code_name e = e.name

-- the components' entries
abbrev pub entry_lists : List MemberCode → List (List EntryCode)
entry_lists ms = map (λ m. m.entries) ms

-- the entry is an output, and its name is not hidden
abbrev pub is_shown : List Name → EntryCode → Bool
is_shown hidden e = is_output (Some e.kind) && not (contains hidden e.name)

abbrev pub site_of : List Name → ℕ → ℕ → EntryCode → Site
site_of hidden c k e = site_by (is_shown hidden) c k e

-- the sites of the entries of this name, each once, in ascending order
abbrev pub sites_of : Prog → Name → List Site
sites_of p x = named_in code_name (site_of p.hidden) 0 (entry_lists p.members) x

-- the index has just these, under each name
abbrev pub AreSites : List MemberCode → List Name → Index Site → Type 0
AreSites ms hidden index = IsIndexOf code_name (site_of hidden) index (entry_lists ms)
