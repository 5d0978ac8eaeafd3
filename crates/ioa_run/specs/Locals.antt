-- The entries that components perform, each with where the entries of its name stand.
use Rattle.std.specs.Prelude.{◌≡◌, List, Vec, map}
use Rattle.std.specs.Global.{Global}
use Rattle.ioa_sites.specs.declared.sites.Site.{Site}
use Rattle.ioa_compile.specs.Programs.{EntryCode, MemberCode, Prog}
use Rattle.ioa_compile.specs.Shown.{entry_code}
use Rattle.ioa_compile.specs.Sites.{sites_of}
use Rattle.ioa_run.specs.Proposers.{local_entries}
use Rattle.ioa_run.specs.declared.locals.Local.{Local}

abbrev pub code_of : Local → EntryCode
code_of l = entry_code l.entry.now

-- beside the entry stand the program's sites of its name
abbrev pub HasSites : Prog → Local → Type 0
HasSites p l = l.sites.now ≡ sites_of p (code_of l).name

-- the entry with what stands beside it, and with the program's sites of its name
abbrev pub known : Local → EntryCode × List Site
known l = (code_of l, l.sites.now)

abbrev pub with_sites : Prog → EntryCode → EntryCode × List Site
with_sites p e = (e, sites_of p e.name)

-- of these entries those that their component performs, in order, each with the program's sites of its name
abbrev pub AreLocals : Prog → List EntryCode → List Local → Type 0
AreLocals p es ls = map known ls ≡ map (with_sites p) (local_entries es)

-- so of each component's
abbrev pub known_in : Vec Local Global → List (EntryCode × List Site)
known_in ls = map known ls.items

abbrev pub locals_of : Prog → MemberCode → List (EntryCode × List Site)
locals_of p m = map (with_sites p) (local_entries m.entries)

abbrev pub AreAllLocals : Prog → List (Vec Local Global) → Type 0
AreAllLocals p all = map known_in all ≡ map (locals_of p) p.members
