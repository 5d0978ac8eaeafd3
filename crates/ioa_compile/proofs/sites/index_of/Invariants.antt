use Rattle.std.proofs.Common.{map}
use Rattle.std.specs.String.{string_bytes}
use Rattle.ioa_clash.proofs.IndexLemmas.{LeavesIn}
use Rattle.ioa_compile.specs.Shown.{member_code}
use Rattle.ioa_compile.specs.Sites.{code_name, entry_lists, site_of}
use Rattle.ioa_compile.proofs.sites.index_of.Given as goal

abbrev pub invariant-loop-component : goal.invariant-loop-component
invariant-loop-component l = LeavesIn code_name (site_of (map string_bytes l.hidden)) l.index l.component (entry_lists (map member_code l.members))
